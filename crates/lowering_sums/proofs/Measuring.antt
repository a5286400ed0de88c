-- What the row of the task's sums measures: what its sums come to, the sums of the task come to themselves.
-- Assumes nothing.
use mathlib.Core.Path.{◌≡◌, refl, ap₂}
use mathlib.Core.List.{List, [], ◌∷◌, ◌++◌}
use Prim.Native.Nat.{ℕ, zero, suc, ◌<◌}
use native.Mathlib.Nat.{zero-add}
use native.Mathlib.Omega.{arith}
use lib.ListN.{length, get_or}
use lib.IntN.{ℤ}
use Rattle.lists.specs.Each.{tabulate}
use Rattle.model.specs.Steps.{integer_at, weigh}
use Rattle.model.specs.Sums.{added_to, addition, kept_additions, sum_values}
use Rattle.source_step.specs.Row.{weights_in}
use Rattle.source_sums.specs.Asked.{Weighs}
use Rattle.lowering_sums.specs.Views.{sums_in}

-- ---- sums given by number weigh a function as others do
abbrev Alike : (ℕ → ℤ) → List (List (ℕ × ℤ)) → (ℕ → List (ℕ × ℤ)) → Type 0
Alike g sums f = (i : ℕ) → i < length sums → weigh (f i) g ≡ weigh (get_or sums i []) g

alike-in : (g : ℕ → ℤ) (sums : List (List (ℕ × ℤ))) (weights : List ℤ) → Weighs 0 sums weights → Alike g sums (weights_in weights)
alike-in g sums weights h i l = rw (zero-add i) at (h i l g)

kept-alike : (first count : ℕ) (sums : List (List (ℕ × ℤ))) (f : ℕ → List (ℕ × ℤ)) (es : List (ℕ × ℤ)) → count ≡ length sums → Alike (added_to es) sums f
    → kept_additions first (tabulate count f) es ≡ kept_additions first sums es
unfolding tabulate
kept-alike first zero [] f es e h = refl
kept-alike first zero (ts ∷ sums) f es e h = absurd (omega arith)
kept-alike first (suc n) [] f es e h = absurd (omega arith)
kept-alike first (suc n) (ts ∷ sums) f es e h =
    ap₂ (λ (z : ℤ) (rest : List (ℕ × ℤ)). addition first z ++ rest) (h 0 (omega arith))
    (kept-alike (suc first) n sums (λ k. f (suc k)) es (omega arith) (λ i l. h (suc i) (omega arith)))

pub kept_same : (first count : ℕ) (sums : List (List (ℕ × ℤ))) (weights : List ℤ) (es : List (ℕ × ℤ)) → count ≡ length sums → Weighs 0 sums weights
    → kept_additions first (sums_in count weights) es ≡ kept_additions first sums es
kept_same first count sums weights es e h = kept-alike first count sums (weights_in weights) es e (alike-in (added_to es) sums weights h)

values-alike : (count : ℕ) (sums : List (List (ℕ × ℤ))) (f : ℕ → List (ℕ × ℤ)) (values : List ℤ) → count ≡ length sums → Alike (integer_at values) sums f
    → sum_values (tabulate count f) values ≡ sum_values sums values
unfolding tabulate
values-alike zero [] f values e h = refl
values-alike zero (ts ∷ sums) f values e h = absurd (omega arith)
values-alike (suc n) [] f values e h = absurd (omega arith)
values-alike (suc n) (ts ∷ sums) f values e h =
    ap₂ (λ (z : ℤ) (rest : List ℤ). z ∷ rest) (h 0 (omega arith))
    (values-alike n sums (λ k. f (suc k)) values (omega arith) (λ i l. h (suc i) (omega arith)))

pub values_same : (count : ℕ) (sums : List (List (ℕ × ℤ))) (weights values : List ℤ) → count ≡ length sums → Weighs 0 sums weights
    → sum_values (sums_in count weights) values ≡ sum_values sums values
values_same count sums weights values e h = values-alike count sums (weights_in weights) values e (alike-in (integer_at values) sums weights h)
