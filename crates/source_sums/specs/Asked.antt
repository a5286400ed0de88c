-- What the row of a task's sums asks of a state.
-- Assumes nothing.
use Rattle.std.specs.Prelude.{◌≡◌, ℕ, ◌+◌, ◌≤◌, ◌<◌, List, [], length, take, get_or, ℤ}
use Rattle.model.specs.Tasks.{NumericCondition}
use Rattle.model.specs.Steps.{integer_at, weigh, conditions_hold}
use Rattle.source_step.specs.Sizes.{VARIABLES, SUMS}
use Rattle.source_step.specs.Row.{weights_in, sum_first_at, sum_count_at, sums_hold_from, sums_hold, ValuesNear, WeightsSmall}

-- ---- sums are measured by the row from sum `from` on: whatever is weighed, they weigh it alike
abbrev pub Weighs : ℕ → List (List (ℕ × ℤ)) → List ℤ → Type 0
Weighs from terms sums = (i : ℕ) → i < length terms → (f : ℕ → ℤ) → weigh (weights_in sums (from + i)) f ≡ weigh (get_or terms i []) f

-- ---- of values of a source file its conditions from number `from` on ask what these do, as many as these are
abbrev pub Asks : ℕ → List (NumericCondition ℕ) → List ℤ → Type 0
Asks from ks sums =
    (n : ℕ) (values : List ℤ) → n ≤ VARIABLES → ValuesNear n values
    → sums_hold_from n sums values from (length ks) ≡ conditions_hold ks (integer_at (take n values))

-- ---- so do those that the marks of an action name; and a step by them can be taken
pub record Asked (marks : List ℕ) (ks : List (NumericCondition ℕ)) (sums : List ℤ) : Type 0 where
  pub there : sum_first_at marks + sum_count_at marks ≤ SUMS
  pub small : WeightsSmall sums
  pub asks : (n : ℕ) (values : List ℤ) → n ≤ VARIABLES → ValuesNear n values
      → sums_hold n marks sums values ≡ conditions_hold ks (integer_at (take n values))
