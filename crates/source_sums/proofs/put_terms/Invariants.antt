-- `source_sums::put_terms` meets its contract. The loop's invariant: the entries of the sum, with the terms that are left, weigh what the whole does.
-- Assumes nothing.
use Rattle.source_sums.proofs.Putting.{Putting}
use Rattle.source_sums.proofs.put_terms.Given as goal

abbrev pub invariant-loop-i : goal.invariant-loop-i
invariant-loop-i l = Putting l.j l.count l.terms l.initial.sums l.sums l.i
