-- A restricted action as two rows of numbers: how many parts of each kind it has, and the parts, each kind from a place of its own on
-- (Layout). What stands behind the counted parts says nothing.
-- Assumes nothing.
use Rattle.std.specs.Prelude.{◌≡◌, ℕ, ◌+◌, ◌≤◌, List, length, ℤ}
use Rattle.integers.specs.Relation.{relation_of}
use Rattle.lists.specs.Each.{tabulate}
use Rattle.model.specs.Tasks.{variable, NumericCondition, RestrictedAction}
use Rattle.model.specs.Steps.{integer_at, natural_at}
use Rattle.file_parts.specs.Layout.{MARKS, NUMBERS, condition_room, mode_condition_room, mode_effect_room, addition_room}
use Rattle.file_parts.specs.Layout.{condition_count, condition_variable, condition_relation, mode_condition_count, mode_condition_mode, mode_condition_value}
use Rattle.file_parts.specs.Layout.{mode_effect_count, mode_effect_mode, mode_effect_value, addition_count, addition_variable, addition_amount}

-- ---- part i of each kind
abbrev pub condition_in : List ℕ → List ℤ → ℕ → NumericCondition ℕ
condition_in marks numbers i = record {
  measured = variable (natural_at marks (condition_variable + i));
  relation = relation_of (natural_at marks (condition_relation + i));
  constant = integer_at numbers i;
}

-- P and E: a mode and a value
abbrev pub mode_condition_in : List ℕ → ℕ → ℕ × ℕ
mode_condition_in marks i = (natural_at marks (mode_condition_mode + i), natural_at marks (mode_condition_value + i))

abbrev pub mode_effect_in : List ℕ → ℕ → ℕ × ℕ
mode_effect_in marks i = (natural_at marks (mode_effect_mode + i), natural_at marks (mode_effect_value + i))

abbrev pub addition_in : List ℕ → List ℤ → ℕ → ℕ × ℤ
addition_in marks numbers i = (natural_at marks (addition_variable + i), integer_at numbers (addition_amount + i))

-- ---- the parts of each kind, as many as are counted
abbrev pub conditions_in : List ℕ → List ℤ → List (NumericCondition ℕ)
conditions_in marks numbers = tabulate (natural_at marks condition_count) (condition_in marks numbers)

abbrev pub mode_conditions_in : List ℕ → List (ℕ × ℕ)
mode_conditions_in marks = tabulate (natural_at marks mode_condition_count) (mode_condition_in marks)

abbrev pub mode_effects_in : List ℕ → List (ℕ × ℕ)
mode_effects_in marks = tabulate (natural_at marks mode_effect_count) (mode_effect_in marks)

abbrev pub additions_in : List ℕ → List ℤ → List (ℕ × ℤ)
additions_in marks numbers = tabulate (natural_at marks addition_count) (addition_in marks numbers)

-- ---- the action that the rows say
abbrev pub row_is : List ℕ → List ℤ → RestrictedAction
row_is marks numbers = record {
  mode_conditions = mode_conditions_in marks;
  conditions = conditions_in marks numbers;
  mode_effects = mode_effects_in marks;
  additions = additions_in marks numbers;
}

-- ---- what a push asks: there is room for so many more C, P, E and +
pub record PartsFit (c p e a : ℕ) (marks : List ℕ) : Type 0 where
  pub long : length marks ≡ MARKS
  pub conditions : natural_at marks condition_count + c ≤ condition_room
  pub mode_conditions : natural_at marks mode_condition_count + p ≤ mode_condition_room
  pub mode_effects : natural_at marks mode_effect_count + e ≤ mode_effect_room
  pub additions : natural_at marks addition_count + a ≤ addition_room

-- ---- rows, whole, that say an action
pub record Says (x : RestrictedAction) (marks : List ℕ) (numbers : List ℤ) : Type 0 where
  pub marks_long : length marks ≡ MARKS
  pub numbers_long : length numbers ≡ NUMBERS
  pub is : row_is marks numbers ≡ x
