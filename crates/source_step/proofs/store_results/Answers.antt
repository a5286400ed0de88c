-- `source_step::store_results` meets its contract: as many targets are set as there are effects. Assumes nothing.
use native.Mathlib.Omega.{arith}
use mir.Facts.{to_z-of_z}
use mir.Syntax.{w64}
use mir.Val.{SFits}
use Rattle.model.specs.Steps.{integer_at}
use Rattle.source_step.proofs.Results.{none-set, one_set, two-set, three-set}
use borrow.Author.Rules.{rules}
use Rattle.source_step.proofs.store_results.Goals as goal

pub returns-then-count-lt1 : goal.returns-then-count-lt1
returns-then-count-lt1 c =
    none-set c.args.n c.args.marks.now c.args.results.now c.args.values.now
    (omega (arith, c.effect_count-count.ensures, c.if-count-lt1.true))

pub returns-then-count-lt2 : goal.returns-then-count-lt2
returns-then-count-lt2 c =
    let x : SFits w64 (integer_at c.args.results.now 0) = search rules in
    one_set c.args.n c.args.marks.now c.args.results.now c.args.values.now (rw (to_z-of_z x) at c.set_value.ensures)
    (omega (arith, c.effect_count-count.ensures, c.if-count-lt1.false, c.if-count-lt2.true))

pub returns-then-count-lt3 : goal.returns-then-count-lt3
returns-then-count-lt3 c =
    let x : SFits w64 (integer_at c.args.results.now 0) = search rules in
    let y : SFits w64 (integer_at c.args.results.now 1) = search rules in
    two-set c.args.n c.args.marks.now c.args.results.now c.args.values.now (rw (to_z-of_z x) at c.set_value.ensures)
    (rw (to_z-of_z y) at c.set_value-2.ensures) (omega (arith, c.effect_count-count.ensures, c.if-count-lt2.false, c.if-count-lt3.true))

pub returns : goal.returns
returns c =
    let x : SFits w64 (integer_at c.args.results.now 0) = search rules in
    let y : SFits w64 (integer_at c.args.results.now 1) = search rules in
    let z : SFits w64 (integer_at c.args.results.now 2) = search rules in
    three-set c.args.n c.args.marks.now c.args.results.now c.args.values.now (rw (to_z-of_z x) at c.set_value.ensures)
    (rw (to_z-of_z y) at c.set_value-2.ensures) (rw (to_z-of_z z) at c.set_value-3.ensures)
    (omega (arith, c.effect_count-count.ensures, c.if-count-lt3.false))
