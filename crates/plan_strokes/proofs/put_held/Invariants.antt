-- `plan_strokes::put_held` meets its contract. The loop's invariant: the strokes made, and behind them those of the effects that are left, are
-- those of all effects; what the effects passed give stands in the results. Assumes nothing.
use Rattle.plan_strokes.proofs.Making.{Holding}
use Rattle.plan_strokes.proofs.put_held.Given as goal

abbrev pub invariant-loop-e : goal.invariant-loop-e
invariant-loop-e l = Holding l.n l.marks l.numbers l.values l.times l.results l.place l.e
