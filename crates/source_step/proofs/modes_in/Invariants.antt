-- `source_step::modes_in` meets its contract. Assumes nothing.
use mathlib.Core.Bool.{Bool, ◌&&◌}
use mathlib.Core.List.{List}
use Prim.Native.Nat.{ℕ, ◌+◌}
use lib.Dec.{leb}
use Rattle.lists.specs.Each.{tabulate}
use Rattle.lists.specs.Loops.{every}
use Rattle.model.specs.Steps.{natural_at}
use Rattle.source_step.proofs.Rows.{Left}
use Rattle.source_step.specs.Row.{modes_in}
use Rattle.source_step.proofs.modes_in.Given as goal

abbrev pub test : List ℕ → List ℕ → ℕ → Bool
test marks modes j = leb (natural_at marks j) (natural_at modes j) && leb (natural_at modes j) (natural_at marks (4 + j))

abbrev pub invariant-loop-i : goal.invariant-loop-i
invariant-loop-i l = Left (tabulate l.m (test l.marks l.modes)) l.m (test l.marks l.modes) l.i (every (λ b. b)) (modes_in l.m l.marks l.modes)
