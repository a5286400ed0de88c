-- A task made ready for many steps: how many actions, variables and modes it has, and the rows of its actions and, behind them, of its goal and of its sums.
-- A state is whole arrays, of which the first so many values and modes are read. Steps by rows are functions of such a state.
-- Assumes nothing.
use Rattle.std.specs.Prelude.{◌≡◌, ℕ, ◌≤◌, Bool, true, List, length, take, ℤ}
use Rattle.std.proofs.Math.Option.{Option}
use Rattle.model.specs.Tasks.{Effect, SourceTask, State}
use Rattle.model.specs.Systems.{provided}
use Rattle.model.specs.Steps.{integer_at, sound_source}
use Rattle.model.specs.Expansion.{price_of_effects}
use Rattle.model.specs.Judging.{declared_part}
use Rattle.source_step.specs.Sizes.{VARIABLES, MODES, ACTIONS, ROWS}
use Rattle.source_step.specs.Step.{state, Shaped}
use Rattle.source_step.specs.Row.{effects_at, held, takes, values_after, modes_after, Usable}
use Rattle.source_step.specs.Ready.{marks_of, numbers_of, sums_of, Ready}

pub record Table : Type 0 where
  pub count : ℕ
  pub variables : ℕ
  pub modes : ℕ
  pub marks : List (List ℕ)
  pub numbers : List (List ℤ)

abbrev pub table : ℕ → List (List ℕ) → List (List ℤ) → ℕ → ℕ → Table
table count marks numbers n m = record { count = count; variables = n; modes = m; marks = marks; numbers = numbers }

-- ---- a step of action k, in every state
module _ (T : Table) where
  -- what is read of a state
  abbrev pub declared_by : State → State
  declared_by x = declared_part T.variables T.modes x

  -- the test of its row; whether it applies; the state after it
  abbrev pub held_by : State → ℕ → Bool
  held_by x k = held T.variables T.modes (marks_of T.marks k) (numbers_of T.numbers k) (sums_of T.numbers) x.values x.modes

  abbrev pub takes_by : State → ℕ → Bool
  takes_by x k = takes T.variables T.modes (marks_of T.marks k) (numbers_of T.numbers k) (sums_of T.numbers) x.values x.modes

  abbrev pub after_by : State → ℕ → State
  after_by x k = state (values_after T.variables (marks_of T.marks k) (numbers_of T.numbers k) x.values)
      (modes_after T.modes (marks_of T.marks k) x.modes)

  abbrev pub step_by : State → ℕ → Option State
  step_by x k = provided (takes_by x k) (after_by x k)

  -- the goal is the last row
  abbrev pub goal_by : State → Bool
  goal_by x = held_by x T.count

  -- its effects, and its price over the values before
  abbrev pub effects_by : ℕ → List Effect
  effects_by k = effects_at (marks_of T.marks k) (numbers_of T.numbers k)

  abbrev pub values_by : State → ℕ → ℤ
  values_by x = integer_at (take T.variables x.values)

  abbrev pub price_by : State → ℕ → ℕ
  price_by x k = price_of_effects (effects_by k) (values_by x)

-- ---- by the rows of a table a step can be taken from any state
pub record Usables (T : Table) : Type 0 where
  pub variables_few : T.variables ≤ VARIABLES
  pub modes_few : T.modes ≤ MODES
  pub actions_few : T.count ≤ ACTIONS
  pub marks_long : length T.marks ≡ ROWS
  pub numbers_long : length T.numbers ≡ ROWS
  pub usable : (k : ℕ) → k ≤ T.count → Usable T.variables (marks_of T.marks k) (numbers_of T.numbers k) (sums_of T.numbers)

-- ---- the rows are those of a task that keeps to the rules on source files
pub record RowsOf (t : SourceTask) (T : Table) : Type 0 where
  pub lower : List ℤ
  pub upper : List ℤ
  pub sizes : List ℕ
  pub ready : Ready t T.count T.marks T.numbers T.variables lower upper T.modes sizes
  pub variables_few : T.variables ≤ VARIABLES
  pub modes_few : T.modes ≤ MODES
  pub sizes_long : length sizes ≡ MODES

-- a state of that task, within its bounds
pub record Inside {t : SourceTask} {T : Table} (R : RowsOf t T) (x : State) : Type 0 where
  pub shaped : Shaped T.variables T.modes x.values x.modes R.sizes
  pub sound : sound_source (integer_at (take T.variables R.lower)) (integer_at (take T.variables R.upper))
      (take T.modes R.sizes) (declared_by T x) ≡ true
