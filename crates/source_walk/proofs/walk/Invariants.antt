-- `source_walk::walk` meets its contract. The loop's invariant: what is left of the plan comes to what the whole comes to. Assumes nothing.
use mathlib.Core.Path.{◌≡◌}
use lib.ListN.{length}
use Rattle.model.specs.Plans.{plan_numbers}
use Rattle.source_step.specs.Step.{state}
use Rattle.source_step.specs.Table.{table}
use Rattle.plan_strokes.specs.Strokes.{STAGES}
use Rattle.source_walk.proofs.Loop.{Going}
use Rattle.source_walk.proofs.walk.Given as goal

abbrev pub invariant-loop-i : goal.invariant-loop-i
invariant-loop-i l =
    Going (table l.count l.marks l.numbers l.n l.m) l.priced (plan_numbers l.plan) (state l.initial.values l.initial.modes) l.values l.modes l.i l.price
    l.passing × (length l.times ≡ STAGES)
