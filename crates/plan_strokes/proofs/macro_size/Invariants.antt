-- `plan_strokes::macro_size` meets its contract. The loop's invariant: the sizes of the effects passed are summed up. Assumes nothing.
use mathlib.Core.Path.{◌≡◌}
use Rattle.source_step.specs.Row.{effect_count_at}
use Rattle.plan_strokes.proofs.Counting.{Summing}
use Rattle.plan_strokes.proofs.macro_size.Given as goal

abbrev pub invariant-loop-e : goal.invariant-loop-e
invariant-loop-e l = Summing l.marks l.size l.e × (l.count ≡ effect_count_at l.marks)
