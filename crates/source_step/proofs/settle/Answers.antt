-- `source_step::settle` meets its contract: no effect, a result out of bounds, or a target that has it. Assumes nothing.
use native.Mathlib.Omega.{arith}
use mathlib.Core.Path.{◌≡◌, sym, ◌∙◌}
use mir.Facts.{to_z-of_z}
use mir.Syntax.{w64}
use mir.Val.{SFits}
use borrow.Author.Rules.{rules}
use Rattle.source_step.specs.Row.{effect_count_at, result_at, stays_at}
use Rattle.source_step.proofs.Single.{none-settles, one-leaves, one-settles}
use Rattle.source_step.proofs.settle.Goals as goal
use Rattle.source_step.proofs.settle.Lts as lts
use Rattle.source_step.proofs.settle.Reads as reads
use Rattle.source_step.proofs.settle.Tie as tie

pub returns-then-effect_count-eq0 : goal.returns-then-effect_count-eq0
returns-then-effect_count-eq0 c = none-settles _ _ _ _ (sym c.effect_count.ensures ∙ c.if-effect_count-eq0.true)

-- there is one effect, and the number is what it gives
one : (c : lts.Else1 tie.the-claims reads.Pre reads.Post) → effect_count_at c.args.marks.now ≡ 1
one c = omega (arith, c.effect_count.ensures, c.if-effect_count-eq0.false, c.requires.1.0)

given : (c : lts.Else1 tie.the-claims reads.Pre reads.Post) → c.args.res ≡ result_at c.args.n c.args.marks.now c.args.numbers.now c.args.values.now 0
given c = c.requires.1.1 (one c)

-- what is tested
tests : (c : lts.After-stays tie.the-claims reads.Pre reads.Post) → stays_at c.args.n c.args.marks.now c.args.numbers.now c.args.values.now 0 ≡ c.stays.result
tests c =
    let x : SFits w64 c.args.res = search rules in
    sym (rw (to_z-of_z x, given c.before) at c.stays.ensures)

pub returns-then-not-stays : goal.returns-then-not-stays
returns-then-not-stays c =
    one-leaves _ _ _ _ (one c.before.before) (tests c.before ∙ c.if-not-stays.true)

pub returns : goal.returns
returns c =
    let e = c.before.before.before.before.before.before.before in
    let x : SFits w64 c.args.res = search rules in
    one-settles _ _ _ _ (one e) (tests c.before.before.before.before.before.before ∙ c.if-not-stays.false) (rw (to_z-of_z x, given e) at c.set_value.ensures)
