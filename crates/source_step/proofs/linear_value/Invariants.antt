-- `source_step::linear_value` meets its contract. The loop's invariant: the sum with the terms that are left is the sum of all terms, and each
-- term adds 100,000,000 at most. Assumes nothing.
use Prim.Native.Nat.{◌+◌, ◌*◌, ◌≤◌}
use lib.IntN.{nat_abs}
use lib.ListN.{take}
use Rattle.model.specs.Steps.{integer_at, linear}
use Rattle.source_step.specs.Row.{constant_at, variable_at, weight_at, terms_at}
use Rattle.source_step.proofs.Rows.{Left}
use Rattle.source_step.proofs.linear_value.Given as goal

abbrev pub invariant-loop-i : goal.invariant-loop-i
invariant-loop-i l =
    let v = integer_at (take l.n l.values) in
    Left (terms_at l.marks l.numbers l.e) l.count (λ j. (variable_at l.marks l.e j, weight_at l.numbers l.e j)) l.i (λ ts. linear l.sum ts v)
    (linear (constant_at l.numbers l.e) (terms_at l.marks l.numbers l.e) v)
    × (nat_abs l.sum ≤ 10000 + l.i * 100000000) × (l.count ≤ 4)
