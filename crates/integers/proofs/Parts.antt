-- ℤ for `omega`. The set `ints` reads and proves orders, equations, tests and ranges of integers by their two parts in ℕ; the facts
-- `add a b`, `sub a b`, `neg a`, `mul a b`, `abs a` give it the parts of a sum, a difference and so on, where one stands inside.
-- Assumes nothing.
use mathlib.Core.Path.{◌≡◌, refl, sym, ap, ◌∙◌}
use mathlib.Core.Logic.{◌≢◌}
use mathlib.Core.Bool.{Bool, true, false, not, cond}
use Prim.Native.Nat.{ℕ, zero, suc, ◌+◌, ◌-◌, ◌*◌, ◌^◌, ◌≤◌, ◌<◌, min, max}
use native.Mathlib.Omega.{arith}
use native.Mathlib.Nat.{add-zero, zero-add}
use lib.Dec.{T, leb, ltb, ltb→lt, nltb→le, leb-suc-suc}
use lib.IntN.{ℤ, pos, negsuc, neg_ℤ, nat_abs, sub_ℕ, ◌+ℤ◌, ◌-ℤ◌, ◌*ℤ◌}
use lib.Signed.{non_neg, le_z, lt_z, ◌≤ℤ◌, ◌<ℤ◌}
use mir.Syntax.{Width}
use mir.Val.{SFits, hbits}
use borrow.Author.Tests.{ltb-true, ltb-false, leb-true, leb-false, lt-ltb, le-ltb, le-leb, lt-leb}
use Rattle.integers.specs.Parts.{Within}
pub use Rattle.integers.specs.Parts.{up, down}

-- ---- the tests of order compare a + the negative part of b with b + the negative part of a
le_z-is : (a b : ℤ) → le_z a b ≡ leb (up a + down b) (up b + down a)
le_z-is (pos a) (pos b) = simp add-zero
le_z-is (pos a) (negsuc b) = sym (lt-leb (a + suc b) 0 (omega arith))
le_z-is (negsuc a) (pos b) = sym (le-leb 0 (b + suc a) (omega arith))
le_z-is (negsuc a) (negsuc b) = simp (zero-add, leb-suc-suc)

lt_z-is : (a b : ℤ) → lt_z a b ≡ ltb (up a + down b) (up b + down a)
lt_z-is (pos a) (pos b) = simp add-zero
lt_z-is (pos a) (negsuc b) = sym (le-ltb (a + suc b) 0 (omega arith))
lt_z-is (negsuc a) (pos b) = sym (lt-ltb 0 (b + suc a) (omega arith))
lt_z-is (negsuc a) (negsuc b) = simp (zero-add, leb-suc-suc)

T_true : (b : Bool) → T b → b ≡ true
T_true true t = refl
T_true false t = absurd t

T_false : (b : Bool) → T (not b) → b ≡ false
T_false true t = absurd t
T_false false t = refl

module _ (a b : ℤ) where
  -- what a test tells
  pub le_z-true : le_z a b ≡ true → up a + down b ≤ up b + down a
  le_z-true e = leb-true _ _ (sym (le_z-is a b) ∙ e)

  pub le_z-false : le_z a b ≡ false → up b + down a < up a + down b
  le_z-false e = leb-false _ _ (sym (le_z-is a b) ∙ e)

  pub lt_z-true : lt_z a b ≡ true → up a + down b < up b + down a
  lt_z-true e = ltb-true _ _ (sym (lt_z-is a b) ∙ e)

  pub lt_z-false : lt_z a b ≡ false → up b + down a ≤ up a + down b
  lt_z-false e = ltb-false _ _ (sym (lt_z-is a b) ∙ e)

  -- a test from the order
  pub le-le_z : up a + down b ≤ up b + down a → le_z a b ≡ true
  le-le_z h = le_z-is a b ∙ le-leb _ _ h

  pub lt-le_z : up b + down a < up a + down b → le_z a b ≡ false
  lt-le_z h = le_z-is a b ∙ lt-leb _ _ h

  pub lt-lt_z : up a + down b < up b + down a → lt_z a b ≡ true
  lt-lt_z h = lt_z-is a b ∙ lt-ltb _ _ h

  pub le-lt_z : up b + down a ≤ up a + down b → lt_z a b ≡ false
  le-lt_z h = lt_z-is a b ∙ le-ltb _ _ h

module _ (a b : ℤ) where
  -- the same of a test as a statement
  pub le_z-parts : T (le_z a b) → up a + down b ≤ up b + down a
  le_z-parts t = le_z-true a b (T_true (le_z a b) t)

  pub not-le_z-parts : T (not (le_z a b)) → up b + down a < up a + down b
  not-le_z-parts t = le_z-false a b (T_false (le_z a b) t)

  pub lt_z-parts : T (lt_z a b) → up a + down b < up b + down a
  lt_z-parts t = lt_z-true a b (T_true (lt_z a b) t)

  pub not-lt_z-parts : T (not (lt_z a b)) → up b + down a ≤ up a + down b
  not-lt_z-parts t = lt_z-false a b (T_false (lt_z a b) t)

  pub parts-le_z : up a + down b ≤ up b + down a → T (le_z a b)
  parts-le_z h = rw (le-le_z a b h) tt

  pub parts-not-le_z : up b + down a < up a + down b → T (not (le_z a b))
  parts-not-le_z h = rw (lt-le_z a b h) tt

  pub parts-lt_z : up a + down b < up b + down a → T (lt_z a b)
  parts-lt_z h = rw (lt-lt_z a b h) tt

  pub parts-not-lt_z : up b + down a ≤ up a + down b → T (not (lt_z a b))
  parts-not-lt_z h = rw (le-lt_z a b h) tt

  -- and of the orders
  pub ≤ℤ-parts : a ≤ℤ b → up a + down b ≤ up b + down a
  ≤ℤ-parts h = le_z-parts h.le

  pub parts-≤ℤ : up a + down b ≤ up b + down a → a ≤ℤ b
  parts-≤ℤ h = record { le = parts-le_z h }

  pub <ℤ-parts : a <ℤ b → up a + down b < up b + down a
  <ℤ-parts h = lt_z-parts h.lt

  pub parts-<ℤ : up a + down b < up b + down a → a <ℤ b
  parts-<ℤ h = record { lt = parts-lt_z h }

-- ---- equations
pub equal-parts : (a b : ℤ) → a ≡ b → up a + down b ≡ up b + down a
equal-parts a b e = omega (arith, ap up e, ap down e)

pub parts-equal : (a b : ℤ) → up a + down b ≡ up b + down a → a ≡ b
parts-equal (pos a) (pos b) h = ap pos (omega arith)
parts-equal (pos a) (negsuc b) h = absurd (omega arith)
parts-equal (negsuc a) (pos b) h = absurd (omega arith)
parts-equal (negsuc a) (negsuc b) h = ap negsuc (omega arith)

-- not for the set, since a rule takes no function: list it with its arguments
pub unequal-parts : (a b : ℤ) → (a ≡ b → ⊥) → up a + down b ≢ up b + down a
unequal-parts a b n h = n (parts-equal a b h)

-- ---- the parts of an opposite
pub neg-up : (a : ℤ) → up (neg_ℤ a) ≡ down a
neg-up (pos zero) = refl
neg-up (pos (suc n)) = refl
neg-up (negsuc n) = refl

pub neg-down : (a : ℤ) → down (neg_ℤ a) ≡ up a
neg-down (pos zero) = refl
neg-down (pos (suc n)) = refl
neg-down (negsuc n) = refl

pub record Opposite (z a : ℤ) : Type 0 where
  pub up_is : up z ≡ down a
  pub down_is : down z ≡ up a

pub neg : (a : ℤ) → Opposite (neg_ℤ a) a
neg a = record { up_is = neg-up a; down_is = neg-down a }

-- ---- of a sum and a difference: z is p - n, and its parts are at most p and n
pub record Is (z : ℤ) (p n : ℕ) : Type 0 where
  pub is : up z + n ≡ p + down z
  pub top : up z ≤ p

cond_ind : (c : Bool) (x y : ℤ) (P : ℤ → Type 0) → (T c → P x) → (T (not c) → P y) → P (cond c x y)
cond_ind true x y P f g = f tt
cond_ind false x y P f g = g tt

subℕ-is : (a b : ℕ) → Is (sub_ℕ a b) a b
subℕ-is a b =
    cond_ind (ltb a b) (negsuc (b - suc a)) (pos (a - b)) (λ z. Is z a b)
    (λ t. omega (arith, ltb→lt a b t)) (λ t. omega (arith, nltb→le a b t))

pub add : (a b : ℤ) → Is (a +ℤ b) (up a + up b) (down a + down b)
add (pos a) (pos b) = omega arith
add (pos a) (negsuc b) = omega (arith, subℕ-is a (suc b))
add (negsuc a) (pos b) = omega (arith, subℕ-is b (suc a))
add (negsuc a) (negsuc b) = omega arith

pub sub : (a b : ℤ) → Is (a -ℤ b) (up a + down b) (down a + up b)
sub a b = omega (arith, add a (neg_ℤ b), neg b)

pub sum-parts : (a b : ℤ) → up (a +ℤ b) + (down a + down b) ≡ down (a +ℤ b) + (up a + up b)
sum-parts a b = omega (arith, add a b)

-- a longer sum is one fact: `whole a ⊕ whole b ⊖ whole c` is of (a +ℤ b) -ℤ c
pub whole : (z : ℤ) → Is z (up z) (down z)
whole z = omega arith

infixl 6 ◌⊕◌ ◌⊖◌
pub ◌⊕◌ : {x y : ℤ} {p n q m : ℕ} → Is x p n → Is y q m → Is (x +ℤ y) (p + q) (n + m)
◌⊕◌ {x} {y} f g = omega (arith, add x y)

pub ◌⊖◌ : {x y : ℤ} {p n q m : ℕ} → Is x p n → Is y q m → Is (x -ℤ y) (p + m) (n + q)
◌⊖◌ {x} {y} f g = omega (arith, sub x y)

-- ---- of a product
pub mul-up : (a b : ℤ) → up (a *ℤ b) ≡ up a * up b + down a * down b
mul-up (pos a) (pos b) = omega arith
mul-up (pos a) (negsuc b) = omega (arith, neg-up (pos (a * suc b)))
mul-up (negsuc a) (pos b) = omega (arith, neg-up (pos (suc a * b)))
mul-up (negsuc a) (negsuc b) = omega arith

pub mul-down : (a b : ℤ) → down (a *ℤ b) ≡ up a * down b + down a * up b
mul-down (pos a) (pos b) = omega arith
mul-down (pos a) (negsuc b) = omega (arith, neg-down (pos (a * suc b)))
mul-down (negsuc a) (pos b) = omega (arith, neg-down (pos (suc a * b)))
mul-down (negsuc a) (negsuc b) = omega arith

pub record Times (z a b : ℤ) : Type 0 where
  pub up_is : up z ≡ up a * up b + down a * down b
  pub down_is : down z ≡ up a * down b + down a * up b

pub mul : (a b : ℤ) → Times (a *ℤ b) a b
mul a b = record { up_is = mul-up a b; down_is = mul-down a b }

-- ---- |z|, the bounds on it, and the range of a width
pub record Size (z : ℤ) : Type 0 where
  pub size : nat_abs z ≡ up z + down z
  pub single : min (up z) (down z) ≡ 0

pub abs : (a : ℤ) → Size a
abs (pos n) = omega arith
abs (negsuc n) = omega arith

pub within-parts : (n : ℕ) (z : ℤ) → Within n z → up z + down z ≤ n
within-parts n z h = omega (arith, abs z, h.within)

pub parts_within : (n : ℕ) (z : ℤ) → (up z - down z) + (down z - up z) ≤ n → Within n z
parts_within n z h = record { within = omega (arith, abs z) }

pub parts-non_neg : (z : ℤ) → down z ≤ up z → T (non_neg z)
parts-non_neg (pos n) h = tt
parts-non_neg (negsuc n) h = absurd (omega arith)

pub sfits-parts : (w : Width) (z : ℤ) → SFits w z → up z + down z ≤ 2 ^ hbits w
sfits-parts w (pos n) f = omega (arith, f.sfits)
sfits-parts w (negsuc n) f = omega (arith, f.sfits)

pub parts-sfits : (w : Width) (z : ℤ) → max (suc (up z) - down z) (down z - up z) ≤ 2 ^ hbits w → SFits w z
parts-sfits w (pos n) h = record { sfits = omega arith }
parts-sfits w (negsuc n) h = record { sfits = omega arith }

-- ---- the same with one sum or difference in the statement, so that it need not be listed
module _ (r a b : ℤ) where
  pub equal-add : r ≡ a +ℤ b → up r + (down a + down b) ≡ (up a + up b) + down r
  equal-add e = omega (arith, equal-parts r (a +ℤ b) e, add a b)

  pub add-equal : up r + (down a + down b) ≡ (up a + up b) + down r → r ≡ a +ℤ b
  add-equal e = parts-equal r (a +ℤ b) (omega (arith, add a b))

  pub equal-sub : r ≡ a -ℤ b → up r + (down a + up b) ≡ (up a + down b) + down r
  equal-sub e = omega (arith, equal-parts r (a -ℤ b) e, sub a b)

  pub sub-equal : up r + (down a + up b) ≡ (up a + down b) + down r → r ≡ a -ℤ b
  sub-equal e = parts-equal r (a -ℤ b) (omega (arith, sub a b))

module _ (w : Width) (a b : ℤ) where
  pub add-sfits : max (suc (up a + up b) - (down a + down b)) ((down a + down b) - (up a + up b)) ≤ 2 ^ hbits w → SFits w (a +ℤ b)
  add-sfits e = parts-sfits w (a +ℤ b) (omega (arith, add a b))

  pub sub-sfits : max (suc (up a + down b) - (down a + up b)) ((down a + up b) - (up a + down b)) ≤ 2 ^ hbits w → SFits w (a -ℤ b)
  sub-sfits e = parts-sfits w (a -ℤ b) (omega (arith, sub a b))

-- The rules by which `omega` reads ℤ. It applies to a fact, and to the goal, the first that fits: so those of a sum come first.
pub ruleset ints = (
  arith,
  le_z-true,
  le_z-false,
  lt_z-true,
  lt_z-false,
  le-le_z,
  lt-le_z,
  lt-lt_z,
  le-lt_z,
  le_z-parts,
  not-le_z-parts,
  lt_z-parts,
  not-lt_z-parts,
  parts-le_z,
  parts-not-le_z,
  parts-lt_z,
  parts-not-lt_z,
  ≤ℤ-parts,
  parts-≤ℤ,
  <ℤ-parts,
  parts-<ℤ,
  equal-sub,
  equal-add,
  equal-parts,
  sub-equal,
  add-equal,
  parts-equal,
  parts-non_neg,
  within-parts,
  parts_within,
  sfits-parts,
  sub-sfits,
  add-sfits,
  parts-sfits,
)

-- ---- regrouping
pub add_assoc : (a b c : ℤ) → (a +ℤ b) +ℤ c ≡ a +ℤ (b +ℤ c)
add_assoc a b c = omega (ints, add (a +ℤ b) c, add a b, add b c)

pub mul_assoc : (a b c : ℤ) → a *ℤ (b *ℤ c) ≡ (a *ℤ b) *ℤ c
mul_assoc a b c =
    parts-equal (a *ℤ (b *ℤ c)) ((a *ℤ b) *ℤ c)
    (rw (mul-up a (b *ℤ c), mul-down a (b *ℤ c), mul-up (a *ℤ b) c, mul-down (a *ℤ b) c, mul-up a b, mul-down a b, mul-up b c, mul-down b c) (omega arith))

pub mul-sum : (a b c : ℤ) → (a +ℤ b) *ℤ c ≡ a *ℤ c +ℤ b *ℤ c
mul-sum a b c =
    let s = sum-parts a b in
    omega (ints, mul (a +ℤ b) c, mul a c, mul b c, ap (λ (x : ℕ). x * up c) s, ap (λ (x : ℕ). x * down c) s)
