-- `restricted_step::add_times` meets its contract: the additions not yet made, from the values so far, give what all of them give from the values
-- before; and all values so far lie within the figure. Assumes nothing.
use mathlib.Core.Path.{sym, ap, ◌∙◌}
use mathlib.Core.Bool.{not}
use borrow.Author.Tests.{not-true, not-false}
use Rattle.restricted_step.proofs.Sums.{sum-start, sum-next, sum-stop, sum-end, product_fits, sum_fits, sum-is}
use Rattle.restricted_step.proofs.add_times.Goals as goal

pub loop-i-init : goal.loop-i-init
loop-i-init c = sum-start c.requires.0

pub overflow_mul-sum : goal.overflow_mul-sum
overflow_mul-sum c = product_fits c.loop-i.invariant c.requires.0.usable c.requires.1 c.loop-i-test.true

pub overflow_add-sum-in-loop-i : goal.overflow_add-sum-in-loop-i
overflow_add-sum-in-loop-i c = sum_fits c.loop-i.invariant c.requires.0.usable c.requires.1 c.loop-i-test.true

pub returns-then-not-is_within : goal.returns-then-not-is_within
returns-then-not-is_within c =
    let is = sum-is c.loop-i.invariant c.requires.0.usable c.requires.1 c.loop-i-test.true in
    let tested = rw is at c.is_within.ensures in
    sum-stop c.loop-i.invariant c.requires.0.usable c.requires.1 c.loop-i-test.true (sym tested ∙ not-true _ (ap not c.if-not-is_within.true))

pub bounds-values-variable-in-loop-i : goal.bounds-values-variable-in-loop-i
bounds-values-variable-in-loop-i c = c.requires.0.usable.additions.below c.loop-i.i c.loop-i-test.true

pub loop-i-preserved : goal.loop-i-preserved
loop-i-preserved c =
    let is = sum-is c.loop-i.invariant c.requires.0.usable c.requires.1 c.loop-i-test.true in
    let tested = rw is at c.is_within.ensures in
    rw is (sum-next c.loop-i.invariant c.loop-i-test.true (sym tested ∙ not-false _ (ap not c.if-not-is_within.false)))

pub returns : goal.returns
returns c = sum-end c.loop-i.invariant c.loop-i-test.false
