-- `restricted_runs::take_run` meets its contract: a run that goes on behind its first step. Assumes nothing.
use mathlib.Core.Path.{sym, ◌∙◌}
use native.Mathlib.Omega.{arith}
use borrow.Author.Tests.{not-true, not-false}
use Rattle.restricted_runs.proofs.Running.{run-start, run-stops, run-first, run-passes, run_on, can-run-on}
use mathlib.Core.Path.{ap}
use mathlib.Core.Bool.{not}
use Rattle.restricted_runs.proofs.take_run.Goals as goal

pub returns-then-not-take : goal.returns-then-not-take
returns-then-not-take c =
    let can = c.requires in
    run-stops (run-start (omega (arith, can.more)) can.can_take.within) can.more can.takes
    (sym (rw (not-true c.take.result (ap not c.if-not-take.true)) at c.take.ensures))

pub returns-then-next-steps : goal.returns-then-next-steps
returns-then-next-steps c =
    run-passes (run-first c.requires (not-false c.take.result (ap not c.if-not-take.false)) c.take.ensures) (omega arith)

pub returns-then-action_of-k : goal.returns-then-action_of-k
returns-then-action_of-k c =
    run-passes (run-first c.requires (not-false c.take.result (ap not c.if-not-take.false)) c.take.ensures) (omega arith)

pub take_many-requires : goal.take_many-requires
take_many-requires c =
    let can = c.requires in
    can-run-on can (run-first can (not-false c.take.result (ap not c.if-not-take.false)) c.take.ensures).within
    (omega (arith, can.more, c.if-next-steps.false)) (sym c.action_of.ensures ∙ c.if-action_of-k.false)

pub returns : goal.returns
returns c =
    run_on (run-first c.requires (not-false c.take.result (ap not c.if-not-take.false)) c.take.ensures) c.take_many.result _ c.take_many.ensures
