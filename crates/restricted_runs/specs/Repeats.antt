-- One action, again and again: step by step, which is what is meant, and at once.
-- Assumes nothing.
use Rattle.std.specs.Prelude.{◌≡◌, ℕ, zero, suc, ◌≤◌, true}
use Rattle.std.proofs.Math.Option.{Option, some}
use Rattle.model.specs.Tasks.{RestrictedAction, State}
use Rattle.model.specs.Systems.{bind}
use Rattle.model.specs.Steps.{values_within, figure}
use Rattle.restricted_step.specs.Steps.{step_by}

-- so many steps by one action
unfoldable pub steps_by : RestrictedAction → ℕ → State → Option State
steps_by a zero x = some x
steps_by a (suc k) x = bind (step_by a x) (steps_by a k)

-- so many steps were taken, at most `most`, and the values are ready for the next
pub record Leapt (a : RestrictedAction) (x : State) (most taken : ℕ) (y : State) : Type 0 where
  pub few : taken ≤ most
  pub steps : steps_by a taken x ≡ some y
  pub within : values_within figure y.values ≡ true
