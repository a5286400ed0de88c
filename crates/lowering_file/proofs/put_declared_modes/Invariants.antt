-- `lowering_file::put_declared_modes` meets its contract: the loop writes each M. Assumes nothing.
use Rattle.lowering_file.specs.Parts.{mode_bytes, mode_at}
use Rattle.lowering_rows.proofs.Loops.{Writing}
use Rattle.lowering_file.proofs.put_declared_modes.Given as goal

abbrev pub invariant-loop-i : goal.invariant-loop-i
invariant-loop-i l = Writing mode_bytes (mode_at l.sizes l.values) l.n l.initial.out l.at l.out l.place l.i
