-- `lowering_file::any_several` meets its contract: the loop goes over all actions. Assumes nothing.
use mathlib.Core.Path.{◌≡◌}
use lib.ListN.{length}
use Rattle.file_parts.specs.Layout.{MARKS, NUMBERS}
use Rattle.lowering_file.proofs.Sums.{Seeking}
use Rattle.lowering_file.proofs.any_several.Given as goal

abbrev pub invariant-loop-k : goal.invariant-loop-k
invariant-loop-k l =
    Seeking l.file l.count l.k l.several × (length l.marks ≡ MARKS) × (length l.numbers ≡ NUMBERS)
