-- The range of a relation to a constant: no sum is beyond what it goes up to, and a strict bound is the next number as a bound.
-- Assumes nothing.
use mathlib.Core.Path.{◌≡◌, refl, ap, ap₂, ◌∙◌}
use mathlib.Core.Bool.{Bool, true, false, ◌&&◌}
use Prim.Native.Nat.{ℕ, zero, suc, ◌≤◌, ◌<◌}
use native.Mathlib.Omega.{arith}
use lib.IntN.{ℤ, pos, nat_abs, ◌+ℤ◌, ◌-ℤ◌}
use lib.Signed.{le_z, lt_z}
use Rattle.integers.specs.Relation.{below, at_most, at_least, above, equal, relation_of}
use Rattle.integers.proofs.Parts.{ints, abs, add, sub}
use Rattle.source_sums.specs.Put.{farthest, RangeIs}

-- any number over 3 is read as 4
pub over-three : (n : ℕ) → 3 < n → relation_of n ≡ equal
over-three zero h = absurd (omega arith)
over-three (suc zero) h = absurd (omega arith)
over-three (suc (suc zero)) h = absurd (omega arith)
over-three (suc (suc (suc zero))) h = absurd (omega arith)
over-three (suc (suc (suc (suc n)))) h = refl

-- a strict bound is the next number as a bound
below-is : (x c : ℤ) → le_z x (c -ℤ pos 1) ≡ lt_z x c
below-is x c = go (lt_z x c) refl
  where
    go : (p : Bool) → lt_z x c ≡ p → le_z x (c -ℤ pos 1) ≡ p
    go true e = omega (ints, e, sub c (pos 1))
    go false e = omega (ints, e, sub c (pos 1))

above-is : (x c : ℤ) → le_z (c +ℤ pos 1) x ≡ lt_z c x
above-is x c = go (lt_z c x) refl
  where
    go : (p : Bool) → lt_z c x ≡ p → le_z (c +ℤ pos 1) x ≡ p
    go true e = omega (ints, e, add c (pos 1))
    go false e = omega (ints, e, add c (pos 1))

-- the least and the most number that a sum can be
abbrev pub lowest : ℤ
lowest = pos 0 -ℤ pos farthest

abbrev pub highest : ℤ
highest = pos farthest

over-lowest : (z : ℤ) → nat_abs z ≤ farthest → le_z lowest z ≡ true
over-lowest z h = omega (ints, abs z, sub (pos 0) (pos farthest))

under-highest : (z : ℤ) → nat_abs z ≤ farthest → le_z z highest ≡ true
under-highest z h = omega (ints, abs z)

and-true : (b : Bool) → (b && true) ≡ b
and-true true = refl
and-true false = refl

-- ---- the five
module _ (c : ℤ) where
  pub range-below : RangeIs below c lowest (c -ℤ pos 1)
  range-below = record { asks = λ z h. ap₂ ◌&&◌ (over-lowest z h) (below-is z c) }

  pub range-at-most : RangeIs at_most c lowest c
  range-at-most = record { asks = λ z h. ap (λ (b : Bool). b && le_z z c) (over-lowest z h) }

  pub range-at-least : RangeIs at_least c c highest
  range-at-least = record { asks = λ z h. ap (λ (b : Bool). le_z c z && b) (under-highest z h) ∙ and-true (le_z c z) }

  pub range-above : RangeIs above c (c +ℤ pos 1) highest
  range-above = record { asks = λ z h. ap₂ ◌&&◌ (above-is z c) (under-highest z h) ∙ and-true (lt_z c z) }

  pub range-equal : RangeIs equal c c c
  range-equal = record { asks = λ z h. refl }
