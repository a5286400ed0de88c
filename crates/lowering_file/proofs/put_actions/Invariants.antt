-- `lowering_file::put_actions` meets its contract: the loop writes what each action becomes. Assumes nothing.
use mathlib.Core.Path.{◌≡◌}
use lib.ListN.{length}
use Rattle.file_parts.specs.Layout.{MARKS, NUMBERS}
use Rattle.lowering_file.specs.Held.{kept_is}
use Rattle.lowering_file.proofs.WalkLoops.{Putting}
use Rattle.lowering_file.proofs.put_actions.Given as goal

abbrev pub invariant-loop-k : goal.invariant-loop-k
invariant-loop-k l =
    Putting l.file l.actions l.shape (kept_is l.kept) l.initial.out l.at l.out l.place l.k l.from l.several l.sum × (length l.marks ≡ MARKS) × (length l.numbers ≡ NUMBERS)
