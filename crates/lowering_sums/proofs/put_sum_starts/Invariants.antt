-- `lowering_sums::put_sum_starts` meets its contract: the loop writes each U. Assumes nothing.
use lib.ListN.{take}
use Rattle.lists.proofs.WritingLoops.{Going}
use Rattle.lowering_sums.specs.Views.{sums_in}
use Rattle.lowering_sums.proofs.Starting.{sum_start}
use Rattle.lowering_sums.proofs.put_sum_starts.Given as goal

abbrev pub invariant-loop-j : goal.invariant-loop-j
invariant-loop-j l = Going (sum_start (take l.n l.starts)) l.sums (sums_in l.sums l.weights) l.sums l.initial.out l.at l.out l.place l.j
