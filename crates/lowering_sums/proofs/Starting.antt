-- The U of each sum of the row, written sum by sum.
-- Assumes nothing.
use mathlib.Core.Path.{◌≡◌, sym, ap, ◌∙◌, subst}
use mathlib.Core.List.{List, [], flat_map}
use Prim.Native.Nat.{ℕ, ◌<◌}
use native.Mathlib.Omega.{arith}
use lib.ListN.{take, get_or, length-map, get_or-map}
use lib.IntN.{ℤ}
use Rattle.integers.specs.All.{All}
use Rattle.lists.proofs.Each.{flat_map-map, length-tabulate, get_or-tabulate, take-tabulate}
use Rattle.lists.proofs.Loops.{There, there-all}
use Rattle.model.specs.Steps.{integer_at, weigh}
use Rattle.model.specs.Sums.{sum_values}
use Rattle.source_step.specs.Row.{weights_in}
use Rattle.lowering_sums.specs.Views.{sums_in, Fits, start_bytes}
use Rattle.lowering_sums.proofs.Own.{all-at}

-- the U of one sum over values
abbrev pub sum_start : List ℤ → List (ℕ × ℤ) → List ℕ
sum_start values ts = start_bytes (weigh ts (integer_at values))

module _ (values : List ℤ) (count : ℕ) (weights : List ℤ) where
  pub starts-are : flat_map (sum_start values) (take count (sums_in count weights)) ≡ flat_map start_bytes (sum_values (sums_in count weights) values)
  starts-are =
      ap (flat_map (sum_start values)) (take-tabulate count (weights_in weights))
      ∙ sym (flat_map-map start_bytes (λ (ts : List (ℕ × ℤ)). weigh ts (integer_at values)) (sums_in count weights))

  pub starts-there : There count (sums_in count weights) count
  starts-there = there-all count (sums_in count weights) (omega (arith, length-tabulate count (weights_in weights)))

  -- one of them by number
  pub start-at : (i : ℕ) → i < count → get_or (sums_in count weights) i [] ≡ weights_in weights i
  start-at i l = get_or-tabulate count (weights_in weights) i [] l

  pub start_fits : All Fits (sum_values (sums_in count weights) values) → (i : ℕ) → i < count → Fits (weigh (weights_in weights i) (integer_at values))
  start_fits h i l =
      let value : List (ℕ × ℤ) → ℤ = λ ts. weigh ts (integer_at values) in
      subst Fits (get_or-map value (sums_in count weights) i [] ∙ ap value (start-at i l))
      (all-at Fits (sum_values (sums_in count weights) values) i (value []) h
      (omega (arith, length-map (sums_in count weights) value, length-tabulate count (weights_in weights))))
