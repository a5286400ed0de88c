-- `lowering_sums::kept_amount` meets its contract. The loop's invariant: what the first + add, with what is left, is the whole. Assumes nothing.
use Rattle.lowering_sums.proofs.Weighing.{Adding}
use Rattle.lowering_sums.proofs.kept_amount.Given as goal

abbrev pub invariant-loop-e : goal.invariant-loop-e
invariant-loop-e l = Adding l.weights l.j l.added.count l.added.variables l.added.amounts l.e l.total
