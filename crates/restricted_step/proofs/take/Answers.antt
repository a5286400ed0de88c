-- `restricted_step::take` meets its contract: the test, and then the sums, decide the step. Assumes nothing.
use mathlib.Core.Path.{sym, ◌∙◌}
use mathlib.Core.Bool.{true, false}
use borrow.Author.Tests.{not-true, not-false}
use Rattle.restricted_step.proofs.Stepping.{not-held, held}
use mathlib.Core.Path.{ap}
use mathlib.Core.Bool.{not}
use Rattle.restricted_step.proofs.take.Goals as goal

pub returns-then-not-holds : goal.returns-then-not-holds
returns-then-not-holds c = not-held _ _ (sym c.holds.ensures ∙ not-true _ (ap not c.if-not-holds.true))

pub returns-then-not-add_times : goal.returns-then-not-add_times
returns-then-not-add_times c =
    held _ _ _ false c.add_times.new.values (sym c.holds.ensures ∙ not-false _ (ap not c.if-not-holds.false))
    (rw (not-true c.add_times.result (ap not c.if-not-add_times.true)) at c.add_times.ensures)

pub returns : goal.returns
returns c =
    rw c.set_all.ensures
    (held _ _ _ true _ (sym c.holds.ensures ∙ not-false _ (ap not c.if-not-holds.false))
    (rw (not-false c.add_times.result (ap not c.if-not-add_times.false)) at c.add_times.ensures))
