-- What is known of a task when its actions are lowered.
-- Assumes nothing.
use Rattle.std.specs.Prelude.{ℕ, ◌+◌, ◌≤◌, cond, eqb, take, ℤ}
use Rattle.model.specs.Limits.{source_limits}
use Rattle.model.specs.TaskOk.{InRange}
use Rattle.model.specs.Steps.{integer_at}
use Rattle.source_step.specs.Sizes.{VARIABLES, MODES}
use Rattle.lowering_stages.specs.declared.Shape.{Shape}

-- the bounds of a variable; 0 of one that is not declared
abbrev pub lower_of : Shape → ℕ → ℤ
lower_of h = integer_at (take h.variables h.lower)

abbrev pub upper_of : Shape → ℕ → ℤ
upper_of h = integer_at (take h.variables h.upper)

-- few variables and modes, and bounds of a source file
pub record Bounded (h : Shape) : Type 0 where
  pub variables_few : h.variables ≤ VARIABLES
  pub modes_few : h.modes ≤ MODES
  pub lower_in : (j : ℕ) → InRange source_limits (lower_of h j)
  pub upper_in : (j : ℕ) → InRange source_limits (upper_of h j)

-- what the turn of a stage sets control to, so many stages following
abbrev pub next_number : ℕ → ℕ → ℕ
next_number number following = cond (eqb following 0) 0 (number + 1)
