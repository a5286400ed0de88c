-- A restricted state by value and one step of it, in the words of the model.
-- Assumes nothing.
use Rattle.std.specs.Prelude.{◌≡◌, ℕ, ◌≤◌, Bool, true, false, List, length, take, ℤ}
use Rattle.std.specs.Prelude.{Option as StepResult, Some, None}
use Rattle.std.proofs.Math.Option.{Option, none, some}
use Rattle.model.specs.Tasks.{State}
use Rattle.model.specs.Limits.{restricted_limits}
use Rattle.model.specs.TaskOk.{RestrictedActionOk}
use Rattle.model.specs.Judging.{declared_part, with_rest}
use Rattle.file_parts.specs.Row.{row_is}
use Rattle.restricted_step.specs.Sizes.{VARIABLES, MODES}
use Rattle.restricted_step.specs.Steps.{state_of}
use Rattle.restricted_step.specs.Whole.{step_of}
use Rattle.restricted_state.specs.declared.State.{State as StateByValue}

-- the whole arrays
abbrev pub whole_is : StateByValue → State
whole_is x = state_of x.values x.modes

-- ---- the rows are those of an action of a task with n variables and m modes of these sizes
pub record RowFor (n m : ℕ) (sizes marks : List ℕ) (numbers : List ℤ) : Type 0 where
  pub variables_few : n ≤ VARIABLES
  pub modes_few : m ≤ MODES
  pub sizes_long : length sizes ≡ MODES
  pub ok : RestrictedActionOk restricted_limits n (take m sizes) (row_is marks numbers)

-- ---- whether an action applies, and the state after it with the rest of the arrays as before; where it doesn't, the state before
abbrev pub handed_back : ℕ → ℕ → State → Option State → Bool × State
handed_back n m x none = (false, x)
handed_back n m x (some y) = (true, with_rest n m x y)

abbrev pub stepped : ℕ → ℕ → List ℕ → List ℕ → List ℤ → State → Bool × State
stepped n m sizes marks numbers x = handed_back n m x (step_of (take m sizes) (declared_part n m x) (row_is marks numbers))

abbrev pub stepped_is : StateByValue → StepResult StateByValue → Bool × State
stepped_is x None = (false, whole_is x)
stepped_is x (Some y) = (true, whole_is y)

-- ---- the same of a step on lent arrays, which are spent where the action doesn't apply
abbrev pub tried_is : Bool → State → State → Bool × State
tried_is true y x = (true, y)
tried_is false y x = (false, x)
