-- `plan_strokes::put_terms` meets its contract. The loop's invariant: the strokes made, and behind them those of the terms that are left, are
-- those of all terms. Assumes nothing.
use mathlib.Core.Path.{◌≡◌}
use lib.ListN.{take}
use Rattle.model.specs.Steps.{integer_at}
use Rattle.source_step.specs.Row.{term_count_at}
use Rattle.plan_strokes.proofs.Making.{Draining}
use Rattle.plan_strokes.proofs.put_terms.Given as goal

abbrev pub invariant-loop-i : goal.invariant-loop-i
invariant-loop-i l = Draining l.marks l.e (integer_at (take l.n l.values)) l.initial.times l.at l.times l.count l.i ×
    (l.k ≡ term_count_at l.marks l.e)
