-- `source_step::sum_of` meets its contract. The loop's invariant: the sum is what the products of the first entries make together. Behind the n-th
-- value each product is 0.
-- Assumes nothing.
use Rattle.source_step.proofs.Weighing.{Summing}
use Rattle.source_step.proofs.sum_of.Given as goal

abbrev pub invariant-loop-v : goal.invariant-loop-v
invariant-loop-v l = Summing l.values l.n l.sums l.j l.v l.sum
