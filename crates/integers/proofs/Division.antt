-- Euclidean division has one quotient and one residue. The machine's division, that cuts towards 0, is a step of |c| away from them.
-- Assumes nothing.
use mathlib.Core.Path.{◌≡◌, refl, sym, ap}
use mathlib.Core.Bool.{true, false}
use Prim.Native.Nat.{ℕ, zero, suc, ◌*◌, ◌/◌, ◌%◌, ◌^◌, ◌≤◌, ◌<◌}
use native.Mathlib.Omega.{arith}
use native.Mathlib.Nat.{div-add-mod, mod-lt, div-le_self}
use lib.IntN.{ℤ, pos, negsuc, neg_ℤ, nat_abs, neg_ℤ-neg_ℤ, neg_ℤ-+ℤ, ◌+ℤ◌, ◌-ℤ◌, ◌*ℤ◌}
use lib.Signed.{le_z, lt_z, quot_z, rem_z}
use mir.Syntax.{Width}
use mir.Val.{SFits, of_z, hbits}
use mir.ValLaws.{pow-bits}
use Rattle.integers.specs.Parts.{Within}
use Rattle.integers.specs.Division.{Euclid, floor, remainder, quotient_of, residue_of}
use Rattle.integers.proofs.Parts.{ints, add, sub, neg, mul, abs, mul-up, mul-down, parts-equal}
use Rattle.integers.proofs.Products.{mul-abs, mul-add, mul-neg, mul-sub, mul-one}

-- ---- the definitions satisfy the equation

-- by a positive number
by-unit : (y : ℤ) (u : ℕ) → Euclid y (pos (suc u)) (floor y u) (pos (remainder y u))
by-unit (pos n) u =
    let l : n % suc u < suc u = mod-lt n (omega arith) in
    record { sum = ap pos (sym (div-add-mod n (suc u))); low = omega ints; high = omega ints }
by-unit (negsuc n) u =
    let e = div-add-mod n (suc u) in
    let l : n % suc u < suc u = mod-lt n (omega arith) in
    record { sum = omega (ints, mul (pos (suc u)) (negsuc (n / suc u))); low = omega ints; high = omega ints }

both-turned : (n : ℕ) (q : ℤ) → negsuc n *ℤ (q *ℤ negsuc 0) ≡ pos (suc n) *ℤ q
both-turned n q =
    parts-equal (negsuc n *ℤ (q *ℤ negsuc 0)) (pos (suc n) *ℤ q)
    (rw (mul-up (negsuc n) (q *ℤ negsuc 0), mul-down (negsuc n) (q *ℤ negsuc 0), mul-up (pos (suc n)) q, mul-down (pos (suc n)) q, mul-up q (negsuc 0), mul-down q (negsuc 0)) (omega arith))

pub euclid : (y c : ℤ) → 0 < nat_abs c → Euclid y c (quotient_of y c) (residue_of y c)
euclid y (pos zero) h = absurd (omega arith)
euclid y (pos (suc n)) h =
    let e = by-unit y n in record { sum = rw (mul-one (floor y n)) e.sum; low = e.low; high = e.high }
euclid y (negsuc n) h =
    let e = by-unit y n in record { sum = rw (both-turned n (floor y n)) e.sum; low = e.low; high = e.high }

-- ---- and nothing else does
no-multiple : (m k : ℕ) → m * k < m → k ≡ 0
no-multiple m zero h = refl
no-multiple m (suc k) h = absurd (omega arith)

none : (c d : ℤ) → nat_abs (c *ℤ d) < nat_abs c → d ≡ pos 0
none c d h = let z = no-multiple (nat_abs c) (nat_abs d) (rw mul-abs at h) in omega (ints, abs d)

same-quotient : (y c q r q' r' : ℤ) → Euclid y c q r → Euclid y c q' r' → q ≡ q'
same-quotient y c q r q' r' e e' =
    let d = mul-sub c q q' in
    let z : q -ℤ q' ≡ pos 0 = none c (q -ℤ q') (omega (ints, e.sum, e'.sum, e.low, e'.low, e.high, e'.high, d, abs (c *ℤ (q -ℤ q')))) in
    omega (ints, sub q q')

pub unique : (y c q r : ℤ) → Euclid y c q r → (q ≡ quotient_of y c) × (r ≡ residue_of y c)
unique y c q r e =
    let h : 0 < nat_abs c = omega (ints, e.low, e.high) in
    let e' = euclid y c h in
    let s = same-quotient y c q r (quotient_of y c) (residue_of y c) e e' in
    (s, omega (ints, e.sum, e'.sum, ap (λ (z : ℤ). c *ℤ z) s))

-- ---- the division that cuts towards 0
record Truncated (y c q r : ℤ) : Type 0 where
  pub sum : y ≡ c *ℤ q +ℤ r
  pub small : nat_abs r < nat_abs c
  pub bound : nat_abs q ≤ nat_abs y

abs_neg : (n : ℕ) → nat_abs (neg_ℤ (pos n)) ≡ n
abs_neg n = omega (ints, abs (neg_ℤ (pos n)), neg (pos n))

truncated : (y c : ℤ) → 0 < nat_abs c → Truncated y c (quot_z y c) (rem_z y c)
truncated (pos n) (pos m) h =
    record { sum = ap pos (sym (div-add-mod n m)); small = mod-lt n h; bound = div-le_self n m }
truncated (pos n) (negsuc m) h =
    record { sum = rw (mul-neg, neg_ℤ-neg_ℤ) (ap pos (sym (div-add-mod n (suc m)))); small = mod-lt n h; bound = rw abs_neg (div-le_self n (suc m)) }
truncated (negsuc n) (pos m) h =
    record {
      sum = rw (mul-neg, ← neg_ℤ-+ℤ) (ap (λ (x : ℕ). neg_ℤ (pos x)) (sym (div-add-mod (suc n) m)));
      small = rw abs_neg (mod-lt (suc n) h);
      bound = rw abs_neg (div-le_self (suc n) m);
    }
truncated (negsuc n) (negsuc m) h =
    record {
      sum = rw (← neg_ℤ-+ℤ) (ap (λ (x : ℕ). neg_ℤ (pos x)) (sym (div-add-mod (suc n) (suc m))));
      small = rw abs_neg (mod-lt (suc n) h);
      bound = div-le_self (suc n) (suc m);
    }

-- from there to the quotient and the residue: the cut quotient is the quotient, or 1 above it, or 1 below it
module _ (y c : ℤ) (h : 0 < nat_abs c) where
  pub cut-exact : le_z (pos 0) (rem_z y c) ≡ true → (quot_z y c ≡ quotient_of y c) × (rem_z y c ≡ residue_of y c)
  cut-exact t =
      let e = truncated y c h in
      unique y c (quot_z y c) (rem_z y c) (record { sum = e.sum; low = omega ints; high = omega (ints, abs (rem_z y c), e.small) })

  pub cut-above : le_z (pos 0) (rem_z y c) ≡ false → lt_z (pos 0) c ≡ true → (quot_z y c -ℤ pos 1 ≡ quotient_of y c) × (rem_z y c +ℤ c ≡ residue_of y c)
  cut-above t u =
      let e = truncated y c h in
      unique y c (quot_z y c -ℤ pos 1) (rem_z y c +ℤ c)
      (record {
        sum = omega (ints, e.sum, mul-sub c (quot_z y c) (pos 1), mul-one c, add (c *ℤ (quot_z y c -ℤ pos 1)) (rem_z y c +ℤ c), add (rem_z y c) c);
        low = omega (ints, add (rem_z y c) c, e.small, abs c, abs (rem_z y c));
        high = omega (ints, add (rem_z y c) c, abs c);
      })

  pub cut_below : le_z (pos 0) (rem_z y c) ≡ false → lt_z (pos 0) c ≡ false → (quot_z y c +ℤ pos 1 ≡ quotient_of y c) × (rem_z y c -ℤ c ≡ residue_of y c)
  cut_below t u =
      let e = truncated y c h in
      unique y c (quot_z y c +ℤ pos 1) (rem_z y c -ℤ c)
      (record {
        sum = omega (ints, e.sum, mul-add c (quot_z y c) (pos 1), mul-one c, sub (rem_z y c) c);
        low = omega (ints, sub (rem_z y c) c, e.small, abs c, abs (rem_z y c));
        high = omega (ints, sub (rem_z y c) c, abs c);
      })

-- ---- on the machine

-- what the machine asks of a divisor: its bits are not 0
pub divisor-bits : (w : Width) (c : ℤ) → SFits w c → 0 < nat_abs c → 0 < of_z w c
divisor-bits w (pos n) f h = h
divisor-bits w (negsuc n) f h = omega (arith, pow-bits w, f.sfits)

-- numbers within a bound that a width holds: they, the quotient and what is left fit the width
pub record Fit (w : Width) (y c : ℤ) : Type 0 where
  pub dividend : SFits w y
  pub divisor : SFits w c
  pub quot : SFits w (quot_z y c)
  pub rem : SFits w (rem_z y c)

pub fit : (w : Width) (n : ℕ) (y c : ℤ) → n < 2 ^ hbits w → Within n y × Within n c × (0 < nat_abs c) → Fit w y c
fit w n y c l h =
    let e = truncated y c h.2 in
    record {
      dividend = omega (ints, h.0);
      divisor = omega (ints, h.1);
      quot = omega (ints, h.0, e.bound, abs y, abs (quot_z y c));
      rem = omega (ints, h.1, e.small, abs c, abs (rem_z y c));
    }
