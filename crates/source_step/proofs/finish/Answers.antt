-- `source_step::finish` meets its contract: one effect at most by itself; of several the test of all results, then the targets, then the modes.
-- Assumes nothing.
use native.Mathlib.Omega.{arith}
use mathlib.Core.Path.{◌≡◌, refl, ap, ◌∙◌}
use mir.Facts.{to_z-of_z}
use mir.Syntax.{w64}
use mir.Val.{SFits}
use borrow.Author.Rules.{rules}
use Rattle.model.specs.Steps.{integer_at}
use Rattle.source_step.specs.Step.{settled}
use Rattle.source_step.specs.Row.{first_outside}
use Rattle.source_step.proofs.Taking.{stays, goes}
use Rattle.source_step.proofs.Results.{pairs-are, one_outside, none-outside}
use Rattle.source_step.proofs.finish.Goals as goal
use Rattle.source_step.proofs.finish.Lts as lts
use Rattle.source_step.proofs.finish.Reads as reads
use Rattle.source_step.proofs.finish.Tie as tie

pub finish_single-requires : goal.finish_single-requires
finish_single-requires c =
    let z : SFits w64 (integer_at c.args.results.now 0) = search rules in
    (c.requires.0, c.requires.1, c.requires.2, c.requires.3, (omega (arith, c.effect_count-count.ensures, c.if-count-lt2.true), λ e. rw (to_z-of_z z) (c.requires.4 0 (omega (arith, e)))))

-- the first result out of bounds
first : (c : lts.After-first_outside tie.the-claims reads.Pre reads.Post) → c.first_outside.result ≡ first_outside c.args.n c.args.marks.now c.args.numbers.now c.args.values.now
first c = c.first_outside.ensures c.args.n c.args.values.now c.requires.4

pub returns-then-first_outside-count : goal.returns-then-first_outside-count
returns-then-first_outside-count c =
    let w = one_outside c.args.n c.args.marks.now c.args.numbers.now c.args.values.now
    (omega (arith, first c.before, c.effect_count-count.ensures, c.if-first_outside-count.true)) in
    stays w refl

pub returns : goal.returns
returns c =
    let n = c.args.n in
    let values = c.args.values.now in
    let w = none-outside n c.args.marks.now c.args.numbers.now values
    (omega (arith, first c.before.before.before.before.before, c.effect_count-count.ensures, c.if-first_outside-count.false)) in
    goes w
    (c.store_results.ensures ∙ ap (λ ps. settled n ps values)
    (pairs-are n c.args.marks.now c.args.numbers.now values c.args.results.now c.requires.4))
    c.set_modes.ensures
