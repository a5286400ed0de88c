-- `integers::quotient` meets its contract: each way out is one of the three ways from the division that cuts towards 0, and 32 bits hold
-- all that is divided. Assumes nothing.
use mathlib.Core.Path.{◌≡◌}
use mir.Syntax.{w32, w64}
use mir.Val.{SFits, of_z, to_z}
use mir.Facts.{to_z-of_z}
use lib.IntN.{ℤ, pos, ◌+ℤ◌, ◌-ℤ◌}
use lib.Signed.{quot_z, rem_z}
use lib.Dec.{lit<}
use Rattle.integers.proofs.Parts.{ints}
use Rattle.integers.proofs.Division.{Fit, fit, cut-exact, cut-above, cut_below, divisor-bits}
use Rattle.integers.proofs.quotient.Goals as goal
use Rattle.integers.proofs.quotient.Lts as lts
use Rattle.integers.proofs.quotient.Reads as reads

module _ (s : lts.Start reads.Pre reads.Post) where
  abbrev y : ℤ
  y = s.args.y

  abbrev d : ℤ
  d = s.args.c

  -- what is computed fits
  small : Fit w32 y d
  small = fit w32 1000000000 y d (lit< tt) s.requires

  fits-quot : SFits w64 (quot_z y d)
  fits-quot = omega (ints, small.quot)

  fits-minus : SFits w64 (quot_z y d -ℤ pos 1)
  fits-minus = omega (ints, small.quot)

  fits-plus : SFits w64 (quot_z y d +ℤ pos 1)
  fits-plus = omega (ints, small.quot)

  -- so it is read as it was written
  wide-y : to_z w64 (of_z w64 y) ≡ y
  wide-y = to_z-of_z s.ranges.y

  wide-d : to_z w64 (of_z w64 d) ≡ d
  wide-d = to_z-of_z s.ranges.c

  word-y : to_z w32 (of_z w32 y) ≡ y
  word-y = to_z-of_z small.dividend

  word-d : to_z w32 (of_z w32 d) ≡ d
  word-d = to_z-of_z small.divisor

  word-quot : to_z w32 (of_z w32 (quot_z y d)) ≡ quot_z y d
  word-quot = to_z-of_z small.quot

  word-rem : to_z w32 (of_z w32 (rem_z y d)) ≡ rem_z y d
  word-rem = to_z-of_z small.rem

  wide-quot : to_z w64 (of_z w64 (quot_z y d)) ≡ quot_z y d
  wide-quot = to_z-of_z fits-quot

  wide-minus : to_z w64 (of_z w64 (quot_z y d -ℤ pos 1)) ≡ quot_z y d -ℤ pos 1
  wide-minus = to_z-of_z fits-minus

  wide-plus : to_z w64 (of_z w64 (quot_z y d +ℤ pos 1)) ≡ quot_z y d +ℤ pos 1
  wide-plus = to_z-of_z fits-plus

ruleset read = (wide-y, wide-d, word-y, word-d, word-quot, word-rem, wide-quot, wide-minus, wide-plus)

pub overflow_cast-a : goal.overflow_cast-a
overflow_cast-a c = simp read (small c).dividend

pub overflow_cast-b : goal.overflow_cast-b
overflow_cast-b c = simp read (small c).divisor

pub nonzero_div-q : goal.nonzero_div-q
nonzero_div-q c = simp read (divisor-bits w32 (d c) (small c).divisor c.requires.2, (small c).quot)

pub overflow_cast-q : goal.overflow_cast-q
overflow_cast-q c = simp read (fits-quot c)

pub nonzero_rem-a : goal.nonzero_rem-a
nonzero_rem-a c = nonzero_div-q c

pub returns-then-a-b-ge0 : goal.returns-then-a-b-ge0
returns-then-a-b-ge0 c =
    let s = c.before in
    let low = simp read at c.if-a-b-ge0.true in
    simp read (cut-exact (y s) (d s) s.requires.2 low).0

pub overflow_sub-result : goal.overflow_sub-result
overflow_sub-result c = simp read (fits-minus c.before.before)

pub overflow_add-result : goal.overflow_add-result
overflow_add-result c = simp read (fits-plus c.before.before)

pub returns-then-b-gt0 : goal.returns-then-b-gt0
returns-then-b-gt0 c =
    let s = c.before.before in
    let low = simp read at c.if-a-b-ge0.false in
    let up = simp read at c.if-b-gt0.true in
    simp read (cut-above (y s) (d s) s.requires.2 low up).0

pub returns-else-b-gt0 : goal.returns-else-b-gt0
returns-else-b-gt0 c =
    let s = c.before.before in
    let low = simp read at c.if-a-b-ge0.false in
    let down = simp read at c.if-b-gt0.false in
    simp read (cut_below (y s) (d s) s.requires.2 low down).0
