-- `plan_project::put_openers` meets its contract. The loop's invariant is `Filling`: the actions passed have their entries, and there are no others.
-- Assumes nothing.
use Rattle.plan_project.proofs.Filling.{Filling}
use Rattle.plan_project.proofs.put_openers.Given as goal

abbrev pub invariant-loop-k : goal.invariant-loop-k
invariant-loop-k l = Filling l.openings l.count l.sources l.k
