-- What acceptance gives of a decoded action or goal: its variables and modes are declared, values lie below sizes, constants in range.
-- Assumes nothing.
use Rattle.std.specs.Prelude.{ℕ, ◌+◌, ◌≤◌, ◌<◌, List, ℤ, nat_abs, length}
use Rattle.integers.specs.All.{All}
use Rattle.model.specs.Steps.{integer_at, natural_at}
use Rattle.model.specs.Limits.{Limits}
use Rattle.model.specs.InTask.{targets}
use Rattle.model.specs.TaskOk.{Distinct, ConditionOk, EffectOk}
use Rattle.file_parts.specs.Layout.{condition_count, condition_variable, mode_condition_count, mode_condition_mode, mode_condition_value}
use Rattle.file_parts.specs.Layout.{mode_effect_count, mode_effect_mode, mode_effect_value, addition_count, addition_variable, addition_amount}
use Rattle.file_actions.specs.declared.Effects.{Effects}
use Rattle.file_actions.specs.declared.SumConditions.{SumConditions}
use Rattle.file_actions.specs.Views.{effects_is, sums_is}

-- the conditions of a parts row, in a task of n variables
pub record ConditionsWithin (l : Limits) (n : ℕ) (marks : List ℕ) (numbers : List ℤ) : Type 0 where
  pub few : natural_at marks condition_count ≤ l.conditions
  pub declared : (i : ℕ) → i < natural_at marks condition_count → natural_at marks (condition_variable + i) < n
  pub in_range : (i : ℕ) → i < natural_at marks condition_count → nat_abs (integer_at numbers i) ≤ l.constant

-- its pairs of a mode and a value, counted at a place, modes and values from places on, in a task with modes of the sizes; no more than `most`
pub record ModesWithin (most : ℕ) (sizes : List ℕ) (count mode value : ℕ) (marks : List ℕ) : Type 0 where
  pub few : natural_at marks count ≤ most
  pub declared : (i : ℕ) → i < natural_at marks count → natural_at marks (mode + i) < length sizes
  pub below : (i : ℕ) → i < natural_at marks count → natural_at marks (value + i) < natural_at sizes (natural_at marks (mode + i))

-- its additions
pub record AdditionsWithin (l : Limits) (n : ℕ) (marks : List ℕ) (numbers : List ℤ) : Type 0 where
  pub few : natural_at marks addition_count ≤ l.numeric_effects
  pub declared : (i : ℕ) → i < natural_at marks addition_count → natural_at marks (addition_variable + i) < n
  pub not_zero : (i : ℕ) → i < natural_at marks addition_count → 1 ≤ nat_abs (integer_at numbers (addition_amount + i))
  pub in_range : (i : ℕ) → i < natural_at marks addition_count → nat_abs (integer_at numbers (addition_amount + i)) ≤ l.constant

-- the row whole; that of a source action has no addition
pub record RowWithin (l : Limits) (n : ℕ) (sizes : List ℕ) (marks : List ℕ) (numbers : List ℤ) : Type 0 where
  pub conditions : ConditionsWithin l n marks numbers
  pub mode_conditions : ModesWithin l.mode_conditions sizes mode_condition_count mode_condition_mode mode_condition_value marks
  pub mode_effects : ModesWithin (length sizes) sizes mode_effect_count mode_effect_mode mode_effect_value marks
  pub additions : AdditionsWithin l n marks numbers

-- the row, the effects and the conditions on sums of a source action: C and K count together
pub record SourceWithin (l : Limits) (n : ℕ) (sizes : List ℕ) (marks : List ℕ) (numbers : List ℤ) (r : Effects) (s : SumConditions) : Type 0 where
  pub row : RowWithin l n sizes marks numbers
  pub conditions_few : natural_at marks condition_count + s.count ≤ l.conditions
  pub few : r.count ≤ l.numeric_effects
  pub effects : All (EffectOk l n) (effects_is r)
  pub targets_once : Distinct (targets (effects_is r))
  pub sums : All (ConditionOk l n) (sums_is s)
