-- `lowering_file::put_zeros` meets its contract: the loop writes each U. Assumes nothing.
use lib.IntN.{pos}
use Rattle.lowering_rows.proofs.Loops.{Writing}
use Rattle.lowering_sums.specs.Views.{start_bytes}
use Rattle.lowering_file.proofs.put_zeros.Given as goal

abbrev pub invariant-loop : goal.invariant-loop
invariant-loop l = Writing start_bytes (λ k. pos 0) l.n l.initial.out l.at l.out l.place l.counter
