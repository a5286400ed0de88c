-- `integers::residue` meets its contract: each way out is one of the three ways from the division that cuts towards 0, and 32 bits hold
-- all that is divided. Assumes nothing.
use mathlib.Core.Path.{◌≡◌}
use mir.Syntax.{w32, w64}
use mir.Val.{SFits, of_z, to_z}
use mir.Facts.{to_z-of_z}
use lib.IntN.{ℤ, ◌+ℤ◌, ◌-ℤ◌}
use lib.Signed.{rem_z}
use lib.Dec.{lit<}
use Rattle.integers.proofs.Parts.{ints}
use Rattle.integers.proofs.Division.{Fit, fit, cut-exact, cut-above, cut_below, divisor-bits}
use Rattle.integers.proofs.residue.Goals as goal
use Rattle.integers.proofs.residue.Lts as lts
use Rattle.integers.proofs.residue.Reads as reads

module _ (s : lts.Start reads.Pre reads.Post) where
  abbrev y : ℤ
  y = s.args.y

  abbrev d : ℤ
  d = s.args.c

  -- what is computed fits
  small : Fit w32 y d
  small = fit w32 1000000000 y d (lit< tt) s.requires

  fits-rem : SFits w64 (rem_z y d)
  fits-rem = omega (ints, small.rem)

  fits-plus : SFits w64 (rem_z y d +ℤ d)
  fits-plus = omega (ints, small.rem, s.requires)

  fits-minus : SFits w64 (rem_z y d -ℤ d)
  fits-minus = omega (ints, small.rem, s.requires)

  -- so it is read as it was written
  wide-y : to_z w64 (of_z w64 y) ≡ y
  wide-y = to_z-of_z s.ranges.y

  wide-d : to_z w64 (of_z w64 d) ≡ d
  wide-d = to_z-of_z s.ranges.c

  word-y : to_z w32 (of_z w32 y) ≡ y
  word-y = to_z-of_z small.dividend

  word-d : to_z w32 (of_z w32 d) ≡ d
  word-d = to_z-of_z small.divisor

  word-rem : to_z w32 (of_z w32 (rem_z y d)) ≡ rem_z y d
  word-rem = to_z-of_z small.rem

  wide-rem : to_z w64 (of_z w64 (rem_z y d)) ≡ rem_z y d
  wide-rem = to_z-of_z fits-rem

  wide-plus : to_z w64 (of_z w64 (rem_z y d +ℤ d)) ≡ rem_z y d +ℤ d
  wide-plus = to_z-of_z fits-plus

  wide-minus : to_z w64 (of_z w64 (rem_z y d -ℤ d)) ≡ rem_z y d -ℤ d
  wide-minus = to_z-of_z fits-minus

ruleset read = (wide-y, wide-d, word-y, word-d, word-rem, wide-rem, wide-plus, wide-minus)

pub overflow_cast-r : goal.overflow_cast-r
overflow_cast-r c = simp read (small c).dividend

pub overflow_cast-r-2 : goal.overflow_cast-r-2
overflow_cast-r-2 c = simp read (small c).divisor

pub nonzero_rem-r : goal.nonzero_rem-r
nonzero_rem-r c = simp read (divisor-bits w32 (d c) (small c).divisor c.requires.2, (small c).quot)

pub overflow_cast-r-3 : goal.overflow_cast-r-3
overflow_cast-r-3 c = simp read (fits-rem c)

pub returns-then-r-ge0 : goal.returns-then-r-ge0
returns-then-r-ge0 c =
    let s = c.before in
    let low = simp read at c.if-r-ge0.true in
    simp read (cut-exact (y s) (d s) s.requires.2 low).1

pub overflow_add-result : goal.overflow_add-result
overflow_add-result c = simp read (fits-plus c.before.before)

pub overflow_sub-result : goal.overflow_sub-result
overflow_sub-result c = simp read (fits-minus c.before.before)

pub returns-then-c-gt0 : goal.returns-then-c-gt0
returns-then-c-gt0 c =
    let s = c.before.before in
    let low = simp read at c.if-r-ge0.false in
    let up = simp read at c.if-c-gt0.true in
    simp read (cut-above (y s) (d s) s.requires.2 low up).1

pub returns-else-c-gt0 : goal.returns-else-c-gt0
returns-else-c-gt0 c =
    let s = c.before.before in
    let low = simp read at c.if-r-ge0.false in
    let down = simp read at c.if-c-gt0.false in
    simp read (cut_below (y s) (d s) s.requires.2 low down).1
