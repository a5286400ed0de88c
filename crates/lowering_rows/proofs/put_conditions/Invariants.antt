-- `lowering_rows::put_conditions` meets its contract: the loop writes each C. Assumes nothing.
use mathlib.Core.Path.{◌≡◌}
use Prim.Native.Nat.{◌≤◌}
use Rattle.model.specs.Steps.{natural_at}
use Rattle.file_parts.specs.Row.{condition_in}
use Rattle.lowering_rows.specs.Bytes.{four_bytes}
use Rattle.lowering_rows.proofs.Loops.{Writing}
use Rattle.lowering_rows.proofs.put_conditions.Given as goal

abbrev pub invariant-loop-i : goal.invariant-loop-i
invariant-loop-i l =
    (natural_at l.marks 0 ≤ 24) × Writing four_bytes (condition_in l.marks l.numbers) (natural_at l.marks 0) l.initial.out l.at l.out l.place l.i
