-- `restricted_runs::take_steps` meets its contract: at each step the run has come so far. Assumes nothing.
use mathlib.Core.Path.{sym, ◌∙◌}
use native.Mathlib.Omega.{arith}
use borrow.Author.Tests.{not-true, not-false}
use Rattle.restricted_runs.proofs.Running.{run-start, run-ends, run-changes, run-stops, run-next}
use mathlib.Core.Path.{ap}
use mathlib.Core.Bool.{not}
use Rattle.restricted_runs.proofs.take_steps.Goals as goal

pub loop-i-init : goal.loop-i-init
loop-i-init c = run-start (omega (arith, c.requires.more)) c.requires.can_take.within

pub returns-then-action_of-k : goal.returns-then-action_of-k
returns-then-action_of-k c = run-changes c.loop-i.invariant c.requires.takes (λ e. c.if-action_of-k.true (c.action_of.ensures ∙ e))

pub returns-then-not-take : goal.returns-then-not-take
returns-then-not-take c =
    run-stops c.loop-i.invariant c.loop-i-test.true (sym c.action_of.ensures ∙ c.if-action_of-k.false)
    (sym (rw (not-true c.take.result (ap not c.if-not-take.true)) at c.take.ensures))

pub loop-i-preserved : goal.loop-i-preserved
loop-i-preserved c = run-next c.loop-i.invariant c.loop-i-test.true (sym c.action_of.ensures ∙ c.if-action_of-k.false)
    (sym (rw (not-false c.take.result (ap not c.if-not-take.false)) at c.take.ensures))

pub returns : goal.returns
returns c = run-ends c.loop-i.invariant c.requires.more c.loop-i-test.false
