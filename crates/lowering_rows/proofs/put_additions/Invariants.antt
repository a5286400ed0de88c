-- `lowering_rows::put_additions` meets its contract: the loop writes each +. Assumes nothing.
use Rattle.file_parts.specs.Row.{addition_in}
use Rattle.lowering_rows.specs.Bytes.{addition_bytes}
use mathlib.Core.Path.{◌≡◌}
use Prim.Native.Nat.{◌≤◌}
use Rattle.model.specs.Steps.{natural_at}
use Rattle.lowering_rows.proofs.Loops.{Writing}
use Rattle.lowering_rows.proofs.put_additions.Given as goal

abbrev pub invariant-loop-i : goal.invariant-loop-i
invariant-loop-i l = (natural_at l.marks 99 ≤ 16) × Writing addition_bytes (addition_in l.marks l.numbers) (natural_at l.marks 99) l.initial.out l.at l.out l.place l.i
