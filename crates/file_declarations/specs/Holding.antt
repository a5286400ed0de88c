-- Arrays that hold what a task declares, in the words in which its steps are defined.
-- Assumes nothing.
use Rattle.std.specs.Prelude.{◌≡◌, ℕ, ◌≤◌, ◌<◌, List, map, length, take, ℤ}
use Rattle.model.specs.Tasks.{SourceVariable, SourceTask, RestrictedTask, State}
use Rattle.model.specs.Limits.{source_limits, restricted_limits}
use Rattle.model.specs.Steps.{integer_at, lower_bounds, upper_bounds, sizes_of, source_start, restricted_start}
use Rattle.file_declarations.specs.declared.Declared.{Declared}

-- arrays as long as the readers take them
pub record SourceRoom (lower upper start : List ℤ) (sizes values : List ℕ) : Type 0 where
  pub lower_long : length lower ≡ source_limits.variables
  pub upper_long : length upper ≡ source_limits.variables
  pub start_long : length start ≡ source_limits.variables
  pub sizes_long : length sizes ≡ source_limits.modes
  pub values_long : length values ≡ source_limits.modes

pub record RestrictedRoom (start : List ℤ) (sizes values : List ℕ) : Type 0 where
  pub start_long : length start ≡ restricted_limits.variables
  pub sizes_long : length sizes ≡ restricted_limits.modes
  pub values_long : length values ≡ restricted_limits.modes

-- the first so many of each array are the bounds of the source task t, its start, and the sizes of its modes
pub record HoldsSource (t : SourceTask) (r : Declared) (lower upper start : List ℤ) (sizes values : List ℕ) : Type 0 where
  pub room : SourceRoom lower upper start sizes values
  pub variable_count : r.variables ≡ length t.variables
  pub variables_few : r.variables ≤ source_limits.variables
  pub mode_count : r.modes ≡ length t.modes
  pub modes_few : r.modes ≤ source_limits.modes
  pub lowers_are : take r.variables lower ≡ map (λ (b : SourceVariable). b.lower) t.variables
  pub uppers_are : take r.variables upper ≡ map (λ (b : SourceVariable). b.upper) t.variables
  pub lower_is : (j : ℕ) → j < r.variables → integer_at lower j ≡ lower_bounds t j
  pub upper_is : (j : ℕ) → j < r.variables → integer_at upper j ≡ upper_bounds t j
  pub sizes_are : take r.modes sizes ≡ sizes_of t.modes
  pub start_is : ◌≡◌ {A = State} (record { values = take r.variables start; modes = take r.modes values }) (source_start t)

-- likewise of a restricted task
pub record HoldsRestricted (t : RestrictedTask) (r : Declared) (start : List ℤ) (sizes values : List ℕ) : Type 0 where
  pub room : RestrictedRoom start sizes values
  pub variable_count : r.variables ≡ length t.starts
  pub variables_few : r.variables ≤ restricted_limits.variables
  pub mode_count : r.modes ≡ length t.modes
  pub modes_few : r.modes ≤ restricted_limits.modes
  pub sizes_are : take r.modes sizes ≡ sizes_of t.modes
  pub start_is : ◌≡◌ {A = State} (record { values = take r.variables start; modes = take r.modes values }) (restricted_start t)
