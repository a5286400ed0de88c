-- `source_step::values_in` meets its contract. Assumes nothing.
use mathlib.Core.Bool.{Bool}
use mathlib.Core.List.{List}
use Prim.Native.Nat.{ℕ, ◌+◌}
use lib.IntN.{ℤ}
use Rattle.integers.specs.Relation.{between}
use Rattle.lists.specs.Each.{tabulate}
use Rattle.lists.specs.Loops.{every}
use Rattle.model.specs.Steps.{integer_at}
use Rattle.source_step.proofs.Rows.{Left}
use Rattle.source_step.specs.Row.{values_in}
use Rattle.source_step.proofs.values_in.Given as goal

abbrev pub test : List ℤ → List ℤ → ℕ → Bool
test numbers values j = between (integer_at numbers j) (integer_at numbers (8 + j)) (integer_at values j)

abbrev pub invariant-loop-i : goal.invariant-loop-i
invariant-loop-i l = Left (tabulate l.n (test l.numbers l.values)) l.n (test l.numbers l.values) l.i (every (λ b. b)) (values_in l.n l.numbers l.values)
