-- `plan_project::put_sources` meets its contract. The loop's invariant is `Putting`: of the plan that is left, the source numbers are left to write. Assumes nothing.
use Prim.Native.Nat.{◌-◌}
use Rattle.model.specs.Plans.{plan_numbers}
use Rattle.plan_project.proofs.Putting.{Putting}
use Rattle.plan_project.proofs.put_sources.Given as goal

abbrev pub invariant-loop-at : goal.invariant-loop-at
invariant-loop-at l = Putting (plan_numbers l.plan) l.sources l.initial.out l.out l.place l.at

abbrev pub decreases-loop-at : goal.decreases-loop-at
decreases-loop-at l = l.steps - l.at
