-- `plan_expand::put_openings` meets its contract. The loop's invariant is `Opening`: what is left to write are the openings of what is left of the plan.
-- Assumes nothing.
use Rattle.model.specs.Plans.{plan_numbers}
use Rattle.plan_expand.proofs.Writing.{Opening}
use Rattle.plan_expand.proofs.put_openings.Given as goal

abbrev pub invariant-loop-i : goal.invariant-loop-i
invariant-loop-i l = Opening (plan_numbers l.plan) l.openings l.initial.out l.out l.place l.i
