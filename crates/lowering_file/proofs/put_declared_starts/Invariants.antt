-- `lowering_file::put_declared_starts` meets its contract: the loop writes each U. Assumes nothing.
use Rattle.lowering_sums.specs.Views.{start_bytes}
use Rattle.lists.proofs.WritingLoops.{Going}
use Rattle.lowering_file.proofs.put_declared_starts.Given as goal

abbrev pub invariant-loop-start : goal.invariant-loop-start
invariant-loop-start l = Going start_bytes l.n l.starts l.n l.initial.out l.at l.out l.place l.start-index
