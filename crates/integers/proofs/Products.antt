-- Products of integers: |a × b|, and that × goes over +, - and the opposite. Assumes nothing.
use mathlib.Core.Path.{◌≡◌, ap, ◌∙◌}
use Prim.Native.Nat.{ℕ, ◌*◌}
use native.Mathlib.Omega.{arith}
use lib.IntN.{ℤ, pos, neg_ℤ, nat_abs, ◌+ℤ◌, ◌-ℤ◌, ◌*ℤ◌}
use Rattle.integers.proofs.Parts.{ints, up, down, add, neg, mul, abs}

pub mul-abs : (a b : ℤ) → nat_abs (a *ℤ b) ≡ nat_abs a * nat_abs b
mul-abs a b = rw ((abs (a *ℤ b)).size, (abs a).size, (abs b).size) (omega (arith, mul a b))

pub mul-add : (c a b : ℤ) → c *ℤ (a +ℤ b) ≡ c *ℤ a +ℤ c *ℤ b
mul-add c a b =
    let s = (add a b).is in
    omega (ints, mul c (a +ℤ b), mul c a, mul c b, ap (λ (x : ℕ). up c * x) s, ap (λ (x : ℕ). down c * x) s)

pub mul-neg : (c a : ℤ) → c *ℤ neg_ℤ a ≡ neg_ℤ (c *ℤ a)
mul-neg c a =
    let t = mul c (neg_ℤ a) in
    omega (ints, simp ((neg a).up_is, (neg a).down_is) at t.up_is, simp ((neg a).up_is, (neg a).down_is) at t.down_is, mul c a, neg (c *ℤ a))

pub mul-sub : (c a b : ℤ) → c *ℤ (a -ℤ b) ≡ c *ℤ a -ℤ c *ℤ b
mul-sub c a b = mul-add c a (neg_ℤ b) ∙ ap (λ (z : ℤ). c *ℤ a +ℤ z) (mul-neg c b)

pub mul-one : (c : ℤ) → c *ℤ pos 1 ≡ c
mul-one c = omega (ints, mul c (pos 1))
