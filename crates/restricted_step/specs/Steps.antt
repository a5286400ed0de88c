-- What a step by rows does, and so many steps at once. The state is whole: VARIABLES values and MODES modes, whatever the task declares of them.
-- Assumes nothing.
use Rattle.std.specs.Prelude.{◌≡◌, ℕ, true, ◌&&◌, List, map, ℤ, pos, ◌*ℤ◌}
use Rattle.std.proofs.Math.Option.{Option}
use Rattle.model.specs.Tasks.{RestrictedAction, State}
use Rattle.model.specs.Systems.{provided}
use Rattle.model.specs.Steps.{add_all, set_all, values_within, applies_restricted, apply_restricted, figure}
use Rattle.restricted_step.specs.Usable.{Usable}

-- the state in two arrays
abbrev pub state_of : List ℤ → List ℕ → State
state_of values modes = record { values = values; modes = modes }

-- one step of an action of an accepted task, from a sound state: its conditions hold, and no sum passes the figure. No mode is tested: what
-- such an action sets a mode to is below the mode's size
unfoldable pub step_by : RestrictedAction → State → Option State
step_by a x = provided (applies_restricted a x && values_within figure (add_all a.additions x.values)) (apply_restricted a x)

-- ---- at once: so many times each amount
abbrev pub scaled : ℕ → ℕ × ℤ → ℕ × ℤ
scaled k e = (e.0, pos k *ℤ e.1)

abbrev pub sums_of : ℕ → RestrictedAction → List ℤ → List ℤ
sums_of k a values = add_all (map (scaled k) a.additions) values

-- the sums, where none passes the figure
unfoldable pub summed : ℕ → RestrictedAction → List ℤ → Option (List ℤ)
summed k a values = provided (values_within figure (sums_of k a values)) (sums_of k a values)

-- the state behind so many steps, one at least
abbrev pub behind : RestrictedAction → ℕ → State → State
behind a k x = record { values = sums_of k a x.values; modes = set_all a.mode_effects x.modes }

-- ---- what a step asks of the rows and of the values
pub record CanTake (values : List ℤ) (marks : List ℕ) (numbers : List ℤ) : Type 0 where
  pub usable : Usable marks numbers
  pub within : values_within figure values ≡ true
