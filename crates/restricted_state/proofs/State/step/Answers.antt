-- `restricted_state::State::step` meets its contract: the state that `next` gives, where `applies` says so. Assumes nothing.
use mathlib.Core.Path.{sym, ap, ◌∙◌}
use mathlib.Core.Bool.{not}
use borrow.Author.Tests.{not-true, not-false}
use Rattle.restricted_state.proofs.Trying.{stays-put}
use Rattle.restricted_state.proofs.State.step.Goals as goal

pub returns-then-not-applies : goal.returns-then-not-applies
returns-then-not-applies c = stays-put _ _ _ _ (sym (not-true _ (ap not c.if-not-applies.true)) ∙ c.applies.ensures)

pub returns : goal.returns
returns c = let applies = sym (not-false _ (ap not c.if-not-applies.false)) ∙ c.applies.ensures in λ i. (applies i, c.next.ensures i)
