-- `plan_strokes::put_sets` meets its contract. The loop's invariant: the strokes made, and behind them those of the targets that are left, are
-- those of all targets. Assumes nothing.
use lib.ListN.{take}
use Rattle.model.specs.Steps.{integer_at}
use Rattle.plan_strokes.proofs.Making.{Setting}
use Rattle.plan_strokes.proofs.put_sets.Given as goal

abbrev pub invariant-loop-e : goal.invariant-loop-e
invariant-loop-e l = Setting l.marks l.results (integer_at (take l.n l.values)) l.initial.times l.at l.times l.place l.e
