-- `plan_project::follow` meets its contract. The loop's invariant is `Going`: what is left projects to what the whole projects to. Assumes nothing.
use mathlib.Core.Path.{◌≡◌}
use Prim.Native.Nat.{◌-◌}
use lib.ListN.{length}
use Rattle.model.specs.Plans.{plan_numbers}
use Rattle.source_step.specs.Step.{state}
use Rattle.source_step.specs.Table.{table}
use Rattle.plan_project.proofs.Going.{Going}
use Rattle.plan_project.proofs.follow.Given as goal

abbrev pub invariant-loop-at : goal.invariant-loop-at
invariant-loop-at l =
    Going (table l.count l.marks l.numbers l.n l.m) l.total l.sources (plan_numbers l.plan) (state l.initial.values l.initial.modes)
    l.values l.modes l.noted l.at l.found
    × (length l.times ≡ 33)

abbrev pub decreases-loop-at : goal.decreases-loop-at
decreases-loop-at l = l.steps - l.at
