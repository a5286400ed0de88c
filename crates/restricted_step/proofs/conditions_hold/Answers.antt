-- `restricted_step::conditions_hold` meets its contract: the conditions not yet tested decide what all of them do. Assumes nothing.
use mathlib.Core.Path.{refl, ap, ◌∙◌}
use mathlib.Core.Bool.{not}
use borrow.Author.Rules.{rules}
use borrow.Author.Tests.{not-true, not-false}
use Rattle.restricted_step.proofs.Tests.{conditions-every, condition-tested}
use Rattle.restricted_step.proofs.Loops.{test-start, test-next, test-stop, test-end}
use Rattle.restricted_step.proofs.conditions_hold.Goals as goal

pub loop-i-init : goal.loop-i-init
loop-i-init c = test-start refl

pub returns-then-not-relation_holds : goal.returns-then-not-relation_holds
returns-then-not-relation_holds c =
    let s = c.args in
    let tested = condition-tested s.values.now s.numbers.now s.marks.now c.loop-i.i (search rules) (search rules) c.relation_holds.ensures in
    rw conditions-every (test-stop c.loop-i.invariant c.loop-i-test.true (tested ∙ not-true _ (ap not c.if-not-relation_holds.true)))

pub loop-i-preserved : goal.loop-i-preserved
loop-i-preserved c =
    let s = c.args in
    let tested = condition-tested s.values.now s.numbers.now s.marks.now c.loop-i.i (search rules) (search rules) c.relation_holds.ensures in
    test-next c.loop-i.invariant c.loop-i-test.true (tested ∙ not-false _ (ap not c.if-not-relation_holds.false))

pub returns : goal.returns
returns c = rw conditions-every (test-end c.loop-i.invariant c.loop-i-test.false)
