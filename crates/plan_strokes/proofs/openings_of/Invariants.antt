-- `plan_strokes::openings_of` meets its contract. Assumes nothing.
use Rattle.plan_strokes.proofs.Counting.{Counting}
use Rattle.plan_strokes.proofs.openings_of.Given as goal

abbrev pub invariant-loop-k : goal.invariant-loop-k
invariant-loop-k l = Counting l.marks l.count l.o.numbers l.next l.k
