-- `lowering_rows::follow` meets its contract: the loop writes the + of each sum. Assumes nothing.
use mathlib.Core.List.{List, flat_map}
use Prim.Native.Nat.{ℕ, ◌+◌}
use lib.IntN.{ℤ}
use Rattle.model.specs.Steps.{weigh}
use Rattle.model.specs.Sums.{added_to, addition}
use Rattle.source_step.specs.Row.{weights_in}
use Rattle.lowering_sums.specs.declared.Added.{Added}
use Rattle.lowering_sums.specs.Views.{added_is}
use Rattle.lowering_rows.specs.Bytes.{addition_bytes}
use Rattle.lowering_rows.proofs.Loops.{Writing}
use Rattle.lowering_rows.proofs.follow.Given as goal

-- the + on the variable of sum i
abbrev pub kept_at : Added → ℕ → List ℤ → ℕ → List (ℕ × ℤ)
kept_at added first weights i = addition (first + i) (weigh (weights_in weights i) (added_to (added_is added)))

abbrev pub invariant-loop-j : goal.invariant-loop-j
invariant-loop-j l = Writing (flat_map addition_bytes) (kept_at l.added l.kept.first l.kept.weights.now) l.kept.sums l.initial.out l.at l.out l.place l.j
