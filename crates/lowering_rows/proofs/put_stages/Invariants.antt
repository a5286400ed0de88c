-- `lowering_rows::put_stages` meets its contract: the loop writes each stage. Assumes nothing.
use mathlib.Core.Path.{◌≡◌}
use lib.ListN.{length}
use Rattle.file_parts.specs.Layout.{MARKS, NUMBERS}
use Rattle.lowering_sums.specs.Views.{sums_in}
use Rattle.lowering_rows.specs.Macros.{stages_in}
use Rattle.lowering_rows.proofs.Staging.{Staging}
use Rattle.lowering_rows.proofs.put_stages.Given as goal

abbrev pub invariant-loop-j : goal.invariant-loop-j
invariant-loop-j l =
    Staging l.kept.first (sums_in l.kept.sums l.kept.weights.now) l.a l.control l.from (stages_in l.shape l.effects) l.initial.out l.at l.out l.place l.number l.j × (length l.marks ≡ MARKS) × (length l.numbers ≡ NUMBERS)
