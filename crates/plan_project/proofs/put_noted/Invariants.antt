-- `plan_project::put_noted` meets its contract. The loop's invariant is `Copying`: of the numbers found, those not passed are left to write.
-- Assumes nothing.
use lib.ListN.{take}
use Rattle.plan_project.proofs.Putting.{Copying}
use Rattle.plan_project.proofs.put_noted.Given as goal

abbrev pub invariant-loop-source : goal.invariant-loop-source
invariant-loop-source l = Copying (take l.found l.noted) l.initial.out l.out l.place l.source-index
