-- What the numbers that an effect reads make stays within 64 bits.
-- Assumes nothing.
use mathlib.Core.Path.{◌≡◌, refl}
use Prim.Native.Nat.{ℕ, suc, ◌+◌, ◌*◌, ◌≤◌, ◌<◌}
use native.Mathlib.Omega.{arith}
use native.Mathlib.Nat.{mul-le-mul, div-le_self}
use mathlib.Core.Bool.{true, ◌&&◌}
use lib.IntN.{ℤ, pos, negsuc, nat_abs, ◌+ℤ◌, ◌*ℤ◌}
use Rattle.integers.specs.Division.{unit_less, sign, floor, quotient_of, residue_of}
use Rattle.integers.proofs.Division.{euclid}
use borrow.Author.Tests.{leb-true}
use mir.Syntax.{w64}
use mir.Val.{SFits}
use Rattle.integers.specs.Parts.{Within}
use Rattle.integers.proofs.Parts.{ints, abs}
use Rattle.integers.proofs.Products.{mul-abs}
use Rattle.lists.proofs.Loops.{and_left, and_right}
use Rattle.model.proofs.StepBounds.{abs-sum}
use Rattle.source_step.specs.Parts.{small}

pub small_is : (z : ℤ) → small z ≡ true → nat_abs z ≤ 10_000
small_is z e = leb-true (nat_abs z) 10_000 e

abs-fits : (z : ℤ) → nat_abs z ≤ 2_000_000_000 → SFits w64 z
abs-fits z h = omega (ints, abs z)

module _ (v c : ℤ) (e : (small v && small c) ≡ true) where
  pub first : nat_abs v ≤ 10_000
  first = small_is v (and_left (small v) (small c) e)

  pub second : nat_abs c ≤ 10_000
  second = small_is c (and_right (small v) (small c) e)

  pub sum_fits : SFits w64 (v +ℤ c)
  sum_fits = omega (ints, abs v, abs c, first, second)

  pub product_small : nat_abs (v *ℤ c) ≤ 100_000_000
  product_small = let h : nat_abs v * nat_abs c ≤ 10_000 * 10_000 = mul-le-mul first second in rw (mul-abs v c) h

  pub product-fits : SFits w64 (v *ℤ c)
  product-fits = omega (ints, abs (v *ℤ c), product_small)

  pub term-small : (z : ℤ) → nat_abs (z +ℤ v *ℤ c) ≤ nat_abs z + 100_000_000
  term-small z = omega (arith, abs-sum z (v *ℤ c), product_small)

  pub term_fits_lem : (z : ℤ) → Within 1_000_000_000 z → SFits w64 (z +ℤ v *ℤ c)
  term_fits_lem z h = abs-fits (z +ℤ v *ℤ c) (omega (arith, term-small z, h.within))

-- ---- the sizes of a quotient and a residue
floor-small : (y : ℤ) (u : ℕ) → nat_abs (floor y u) ≤ nat_abs y
floor-small (pos n) u = div-le_self n (suc u)
floor-small (negsuc n) u = let h = div-le_self n (suc u) in omega arith

sign-one : (c : ℤ) → nat_abs (sign c) ≡ 1
sign-one (pos n) = refl
sign-one (negsuc n) = refl

pub quotient-small : (y c : ℤ) → nat_abs (quotient_of y c) ≤ nat_abs y
quotient-small y c = rw (mul-abs (floor y (unit_less c)) (sign c), sign-one c) (omega (arith, floor-small y (unit_less c)))

pub residue-small : (y c : ℤ) → 0 < nat_abs c → nat_abs (residue_of y c) < nat_abs c
residue-small y c h = let e = euclid y c h in omega (ints, e.high, e.low, abs (residue_of y c))

-- what an effect gives, from numbers of a source file
module _ (y c : ℤ) (h : nat_abs y ≤ 10_000) (k : nat_abs c ≤ 10_000) where
  pub sum-within : Within 1_000_000_000 (y +ℤ c)
  sum-within = record { within = omega (arith, abs-sum y c, h, k) }

  pub quotient-within : Within 1_000_000_000 (quotient_of y c)
  quotient-within = record { within = omega (arith, quotient-small y c, h) }

  pub residue-within : 0 < nat_abs c → Within 1_000_000_000 (residue_of y c)
  residue-within l = record { within = omega (arith, residue-small y c l, k) }
