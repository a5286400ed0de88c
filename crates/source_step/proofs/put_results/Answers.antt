-- `source_step::put_results` meets its contract: the results stored are those of the effects, of which there are three where the third is worked out,
-- and else two at most. Assumes nothing.
use native.Mathlib.Omega.{arith}
use mir.Facts.{to_z-of_z}
use mir.Syntax.{w64}
use mir.Val.{SFits}
use borrow.Author.Rules.{rules}
use Rattle.source_step.proofs.Results.{two-worked, three-worked}
use Rattle.source_step.proofs.put_results.Goals as goal

pub returns-then-effect_count-lt3 : goal.returns-then-effect_count-lt3
returns-then-effect_count-lt3 c =
    let a : SFits w64 c.result_of.result = search rules in
    let b : SFits w64 c.result_of-2.result = search rules in
    rw (to_z-of_z a, to_z-of_z b)
    (two-worked c.args.n c.args.marks.now c.args.numbers.now c.args.values.now c.result_of.ensures.0
    c.result_of-2.ensures.0 c.args.results.now c.requires.0 (omega (arith, c.effect_count.ensures, c.if-effect_count-lt3.true)))

pub returns : goal.returns
returns c =
    let a : SFits w64 c.result_of.result = search rules in
    let b : SFits w64 c.result_of-2.result = search rules in
    let d : SFits w64 c.result_of-3.result = search rules in
    rw (to_z-of_z a, to_z-of_z b, to_z-of_z d)
    (three-worked c.args.n c.args.marks.now c.args.numbers.now c.args.values.now c.result_of.ensures.0
    c.result_of-2.ensures.0 c.args.results.now c.requires.0 c.result_of-3.ensures.0)
