-- `source_step::take_single` meets its contract: with conditions on sums as any action; else the ranges, the result, then the rest of the step.
-- Assumes nothing.
use mathlib.Core.Path.{◌≡◌, sym, ◌∙◌}
use mathlib.Core.Bool.{true}
use native.Mathlib.Omega.{arith}
use mir.Facts.{to_z-of_z}
use mir.Syntax.{w64}
use mir.Val.{SFits}
use borrow.Author.Rules.{rules}
use Rattle.source_step.specs.Row.{held}
use Rattle.source_step.proofs.Sums.{no-sums}
use Rattle.source_step.proofs.Taking.{RangesHold, out_of_range, sums-decide, read-in-range, not-held, behind-the-test}
use Rattle.source_step.proofs.take_single.Goals as goal
use Rattle.source_step.proofs.take_single.Lts as lts
use Rattle.source_step.proofs.take_single.Reads as reads
use Rattle.source_step.proofs.take_single.Tie as tie

pub returns-then-not-ranges_hold : goal.returns-then-not-ranges_hold
returns-then-not-ranges_hold c =
    let sums = c.args.sums.now in
    not-held sums (out_of_range c.args.n c.args.m c.args.marks.now c.args.numbers.now sums c.args.values.now
    c.args.modes.now (sym c.ranges_hold.ensures ∙ c.if-not-ranges_hold.true))

-- the ranges hold, and there is no condition on a sum
in-range : (c : lts.Else2 tie.the-claims reads.Pre reads.Post) → RangesHold c.args.n c.args.m c.args.marks.now
    c.args.numbers.now c.args.values.now c.args.modes.now
in-range c = record { passes = sym c.ranges_hold.ensures ∙ c.if-not-ranges_hold.false }

passed : (c : lts.Else2 tie.the-claims reads.Pre reads.Post) → held c.args.n c.args.m c.args.marks.now
    c.args.numbers.now c.args.sums.now c.args.values.now c.args.modes.now ≡ true
passed c =
    let sums = c.args.sums.now in
    sums-decide (in-range c) sums ∙ no-sums c.args.n c.args.marks.now sums c.args.values.now c.if-marks-ne0.false

pub result_of-result-requires : goal.result_of-result-requires
result_of-result-requires c =
    (read-in-range (in-range c.before) c.requires.0 c.requires.3, omega arith)

pub finish_single-requires : goal.finish_single-requires
finish_single-requires c =
    let x : SFits w64 c.result_of-result.result = search rules in
    (c.requires.0, c.requires.1, c.requires.2, c.requires.3.keeps, (c.requires.4, λ e. rw (to_z-of_z x) c.result_of-result.ensures.0))

pub returns : goal.returns
returns c =
    behind-the-test c.args.sums.now (passed c.before.before.before.before.before) c.finish_single.ensures
