-- The parts rows (crate file_parts) of an action of an accepted task: what a step may lean on.
-- Assumes nothing.
use Rattle.std.specs.Prelude.{◌≡◌, ℕ, ◌+◌, ◌<◌, ◌≤◌, List, ℤ, nat_abs}
use Rattle.model.specs.Limits.{restricted_limits}
use Rattle.model.specs.Steps.{integer_at, natural_at}
use Rattle.file_parts.specs.Layout.{condition_room, mode_condition_room, mode_effect_room, addition_room}
use Rattle.file_parts.specs.Layout.{condition_count, condition_variable, mode_condition_count, mode_condition_mode}
use Rattle.file_parts.specs.Layout.{mode_effect_count, mode_effect_mode, addition_count, addition_variable, addition_amount}
use Rattle.restricted_step.specs.Sizes.{VARIABLES, MODES}

-- ---- of the parts that a row counts at one place there are few, and those that it names from another place on are below a limit
pub record Named (room limit : ℕ) (marks : List ℕ) (counted from : ℕ) : Type 0 where
  pub few : natural_at marks counted ≤ room
  pub below : (i : ℕ) → i < natural_at marks counted → natural_at marks (from + i) < limit

-- ---- rows with which a step reads and writes the values and modes that there are, no sum leaves 64 bits, and no variable is added to twice
pub record Usable (marks : List ℕ) (numbers : List ℤ) : Type 0 where
  pub conditions : Named condition_room VARIABLES marks condition_count condition_variable
  pub mode_conditions : Named mode_condition_room MODES marks mode_condition_count mode_condition_mode
  pub mode_effects : Named mode_effect_room MODES marks mode_effect_count mode_effect_mode
  pub additions : Named addition_room VARIABLES marks addition_count addition_variable
  pub amounts : (i : ℕ) → i < natural_at marks addition_count → nat_abs (integer_at numbers (addition_amount + i)) ≤ restricted_limits.constant
  pub once : (i j : ℕ) → i < natural_at marks addition_count → j < i → natural_at marks (addition_variable + j) ≡ natural_at marks (addition_variable + i) → ⊥
