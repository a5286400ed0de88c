-- `lowering_rows::put_mode_parts` meets its contract: the loop writes each P, or each E. Assumes nothing.
use Rattle.model.specs.Steps.{natural_at}
use Rattle.lowering_rows.specs.Bytes.{mode_part_bytes, part_at}
use Rattle.lowering_rows.proofs.Loops.{Writing}
use Rattle.lowering_rows.proofs.Writing.{There}
use Rattle.lowering_rows.proofs.put_mode_parts.Given as goal

abbrev pub invariant-loop-i : goal.invariant-loop-i
invariant-loop-i l =
    There l.marks (l.counted, l.modes, l.values)
    × Writing (mode_part_bytes l.part) (part_at (l.counted, l.modes, l.values) l.marks) (natural_at l.marks l.counted) l.initial.out l.at l.out l.place l.i
