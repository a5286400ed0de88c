-- `source_sums::range_of` meets its contract: each arm has the range of its relation. Assumes nothing.
use lib.IntN.{pos, ◌+ℤ◌, ◌-ℤ◌}
use mir.Facts.{to_z-of_z}
use mir.Syntax.{w64}
use mir.Val.{SFits}
use native.Mathlib.Omega.{arith}
use borrow.Author.Rules.{rules}
use Rattle.integers.proofs.Parts.{ints, abs}
use Rattle.source_sums.proofs.Ranges.{over-three, range-below, range-at-most, range-at-least, range-above, range-equal}
use Rattle.source_sums.proofs.range_of.Goals as goal

pub overflow_sub-result-in-0 : goal.overflow_sub-result-in-0
overflow_sub-result-in-0 c =
    let a : SFits w64 c.args.constant = search rules in
    simp (to_z-of_z, a) (omega (ints, abs c.args.constant, c.requires))

pub overflow_add-result : goal.overflow_add-result
overflow_add-result c =
    let a : SFits w64 c.args.constant = search rules in
    simp (to_z-of_z, a) (omega (ints, abs c.args.constant, c.requires))

pub returns-in-0 : goal.returns-in-0
returns-in-0 c =
    let a : SFits w64 c.args.constant = search rules in
    let b : SFits w64 (c.args.constant -ℤ pos 1) = omega (ints, abs c.args.constant, c.requires) in
    rw c.in-0.is (simp (to_z-of_z, a, b) (range-below c.args.constant))

pub returns-in-1 : goal.returns-in-1
returns-in-1 c =
    let a : SFits w64 c.args.constant = search rules in
    rw c.in-1.is (simp (to_z-of_z, a) (range-at-most c.args.constant))

pub returns-in-2 : goal.returns-in-2
returns-in-2 c =
    let a : SFits w64 c.args.constant = search rules in
    rw c.in-2.is (simp (to_z-of_z, a) (range-at-least c.args.constant))

pub returns-in-3 : goal.returns-in-3
returns-in-3 c =
    let a : SFits w64 c.args.constant = search rules in
    let b : SFits w64 (c.args.constant +ℤ pos 1) = omega (ints, abs c.args.constant, c.requires) in
    rw c.in-3.is (simp (to_z-of_z, a, b) (range-above c.args.constant))

pub returns-in_default : goal.returns-in_default
returns-in_default c =
    let a : SFits w64 c.args.constant = search rules in
    rw (over-three c.args.relation (omega arith)) (simp (to_z-of_z, a) (range-equal c.args.constant))
