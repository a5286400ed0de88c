-- The rows of all actions of a task, and a state of that task from which steps are taken.
-- Assumes nothing.
use Rattle.std.specs.Prelude.{◌≡◌, ℕ, ◌<◌, true, List, [], map, length, get_or, take, replicate, ℤ, pos}
use Rattle.std.proofs.Math.Option.{some}
use Rattle.std.proofs.Math.ListN.{get_elem?}
use Rattle.answers.specs.Answer.{given}
use Rattle.model.specs.Tasks.{SourceTask, SourceVariable, SourceAction}
use Rattle.model.specs.TaskOk.{SourceTaskOk}
use Rattle.model.specs.Steps.{integer_at, sizes_of, sound_source}
use Rattle.model.specs.Decoding.{read_source}
use Rattle.model.specs.Judging.{declared_part}
use Rattle.source_step.specs.Sizes.{ROWS, sums_row}
use Rattle.source_step.specs.Layout.{MARKS, NUMBERS}
use Rattle.source_step.specs.Step.{state, Shaped}
use Rattle.source_step.specs.Row.{RowOf}

abbrev pub marks_of : List (List ℕ) → ℕ → List ℕ
marks_of marks k = get_or marks k []

abbrev pub numbers_of : List (List ℤ) → ℕ → List ℤ
numbers_of numbers k = get_or numbers k []

-- the row of the task's sums, behind those of its actions and of its goal
abbrev pub sums_of : List (List ℤ) → List ℤ
sums_of numbers = numbers_of numbers sums_row

-- tables in which no row is made yet
abbrev pub blank_marks : List (List ℕ)
blank_marks = replicate ROWS (replicate MARKS 0)

abbrev pub blank_numbers : List (List ℤ)
blank_numbers = replicate ROWS (replicate NUMBERS (pos 0))

-- the rows at k are those of action k
pub record RowAt (acts : List SourceAction) (n m : ℕ) (lower upper : List ℤ) (sizes : List ℕ) (marks : List (List ℕ))
    (numbers : List (List ℤ)) (k : ℕ) : Type 0 where
  pub action : SourceAction
  pub found : get_elem? acts k ≡ some action
  pub row : RowOf n m lower upper sizes (marks_of marks k) (numbers_of numbers k) (sums_of numbers) action

-- the goal as an action without effects
abbrev pub goal_action : SourceTask → SourceAction
goal_action t = record { mode_conditions = t.goal_modes; conditions = t.goal_conditions; mode_effects = []; effects = [] }

-- the arrays and the rows are those of a task that keeps to the rules on source files
pub record Ready (t : SourceTask) (count : ℕ) (marks : List (List ℕ)) (numbers : List (List ℤ)) (n : ℕ) (lower upper : List ℤ) (m : ℕ)
    (sizes : List ℕ) : Type 0 where
  pub ok : SourceTaskOk t
  pub counted : count ≡ length t.actions
  pub rows_are : (k : ℕ) → k < count → RowAt t.actions n m lower upper sizes marks numbers k
  pub lowers_are : take n lower ≡ map (λ (b : SourceVariable). b.lower) t.variables
  pub uppers_are : take n upper ≡ map (λ (b : SourceVariable). b.upper) t.variables
  pub sizes_are : take m sizes ≡ sizes_of t.modes
  pub goal_row : RowOf n m lower upper sizes (marks_of marks count) (numbers_of numbers count) (sums_of numbers) (goal_action t)
  pub marks_long : length marks ≡ ROWS
  pub numbers_long : length numbers ≡ ROWS

-- they are those of some task, and its state lies within its bounds
pub record Standing (count : ℕ) (marks : List (List ℕ)) (numbers : List (List ℤ)) (n : ℕ) (lower upper : List ℤ) (m : ℕ) (sizes : List ℕ) (values : List ℤ)
    (modes : List ℕ) : Type 0 where
  pub task : SourceTask
  pub ready : Ready task count marks numbers n lower upper m sizes
  pub shaped : Shaped n m values modes sizes
  pub sound : sound_source (integer_at (take n lower)) (integer_at (take n upper)) (take m sizes) (declared_part n m (state values modes)) ≡ true

-- the rows of an accepted file's actions were made
pub record Prepared (file : List ℕ) (count : ℕ) (n : ℕ) (lower upper : List ℤ) (m : ℕ) (sizes : List ℕ) (marks : List (List ℕ))
    (numbers : List (List ℤ)) : Type 0 where
  pub ready : (t : SourceTask) → read_source file ≡ given t → Ready t count marks numbers n lower upper m sizes
