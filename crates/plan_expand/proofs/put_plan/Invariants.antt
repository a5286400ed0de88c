-- `plan_expand::put_plan` meets its contract. The loop's invariant: what is left to write is the expansion of what is left of the plan, from the
-- state reached. Assumes nothing.
use mathlib.Core.Path.{◌≡◌}
use lib.ListN.{length}
use Rattle.model.specs.Plans.{plan_numbers}
use Rattle.source_step.specs.Step.{state}
use Rattle.source_step.specs.Table.{table}
use Rattle.plan_expand.proofs.Writing.{Going}
use Rattle.plan_expand.proofs.put_plan.Given as goal

abbrev pub invariant-loop-i : goal.invariant-loop-i
invariant-loop-i l =
    Going (table l.count l.marks l.numbers l.n l.m) l.openings (plan_numbers l.plan) (state l.initial.values l.initial.modes) l.initial.out
    l.values l.modes l.out l.place l.i
    × (length l.times ≡ 33)
