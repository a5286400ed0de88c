-- A whole state and what a task declares of it: its first n values, and a mode for each of its sizes.
-- Assumes nothing.
use Rattle.std.specs.Prelude.{◌≡◌, ℕ, ◌≤◌, true, cond, List, length, take, drop}
use Rattle.std.proofs.Math.Option.{Option, none, some}
use Rattle.model.specs.Tasks.{RestrictedAction, RestrictedTask, State}
use Rattle.model.specs.Limits.{restricted_limits}
use Rattle.model.specs.Reading.{commands_of}
use Rattle.model.specs.Decoding.{restricted_task_of}
use Rattle.model.specs.Systems.{bind}
use Rattle.model.specs.Steps.{values_within, modes_below_sizes, sound_restricted, try_restricted, sizes_of, figure}
use Rattle.model.specs.Judging.{declared_part}

-- the task in an accepted file
abbrev pub task_in : List ℕ → RestrictedTask
task_in file = restricted_task_of (commands_of restricted_limits file)

-- a step of a task with modes of these sizes, by its action: as the model's step by number
unfoldable pub step_of : List ℕ → State → RestrictedAction → Option State
step_of sizes x a = bind (try_restricted x a) (λ y. cond (sound_restricted sizes x) (cond (sound_restricted sizes y) (some y) none) none)

-- the first n elements of an array become `front`, the others stay
pub record Changed {A : Type 0} (n : ℕ) (old new front : List A) : Type 0 where
  pub is : take n new ≡ front
  pub rest : drop n new ≡ drop n old

-- it is as long as before, and past the first n elements the same
pub record Beyond {A : Type 0} (n : ℕ) (old new : List A) : Type 0 where
  pub rest : drop n new ≡ drop n old
  pub long : length new ≡ length old

-- a whole state from which a task of n variables, with modes of these sizes, can go on: all that it declares is there, all values lie within
-- the figure, the modes that it declares below their sizes
pub record Standing (n : ℕ) (sizes : List ℕ) (x : State) : Type 0 where
  pub values_long : n ≤ length x.values
  pub modes_long : length sizes ≤ length x.modes
  pub within : values_within figure x.values ≡ true
  pub below : modes_below_sizes sizes x.modes ≡ true

-- what stands beyond n variables and m modes is as before
pub record Spared (n m : ℕ) (x y : State) : Type 0 where
  pub values : Beyond n x.values y.values
  pub modes : Beyond m x.modes y.modes

-- ---- the same of a task
abbrev pub declared_of : RestrictedTask → State → State
declared_of t x = declared_part (length t.starts) (length t.modes) x

abbrev pub StandingIn : RestrictedTask → State → Type 0
StandingIn t x = Standing (length t.starts) (sizes_of t.modes) x

abbrev pub SparedIn : RestrictedTask → State → State → Type 0
SparedIn t x y = Spared (length t.starts) (length t.modes) x y
