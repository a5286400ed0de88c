-- `plan_project::astray` meets its contract: a plan ends at the place, or a number stands there. Assumes nothing.
use native.Mathlib.Omega.{arith}
use Rattle.plan_bytes.proofs.Steps.{halves_long}
use Rattle.plan_project.proofs.Advancing.{ended, not-applying, no_such}
use Rattle.plan_project.proofs.astray.Goals as goal

pub returns-then-steps-place : goal.returns-then-steps-place
returns-then-steps-place c = rw c.at.ensures (ended _ _ _ (omega (arith, c.if-steps-place.true, c.requires)))

pub action_of-k-requires : goal.action_of-k-requires
action_of-k-requires c = omega (arith, halves_long c.args.plan.now, c.if-steps-place.false, c.requires)

pub returns-then-k-total : goal.returns-then-k-total
returns-then-k-total c =
    rw c.at-then-k-total.ensures
    (not-applying _ _ _ _ c.action_of-k.ensures (omega (arith, c.if-steps-place.false, c.requires)) c.if-k-total.true)

pub returns : goal.returns
returns c =
    rw c.at-2.ensures (no_such _ _ _ _ c.action_of-k.ensures (omega (arith, c.if-steps-place.false, c.requires)) c.if-k-total.false)
