-- A source state by value, and the step of a row from it.
-- Assumes nothing.
use Rattle.std.specs.Prelude.{ℕ, Bool, true, false, cond, List, ℤ, Option, Some, None}
use Rattle.model.specs.Tasks.{State}
use Rattle.source_step.specs.Step.{state}
use Rattle.source_step.specs.Row.{takes, values_after, modes_after}
use Rattle.source_state.specs.declared.State.{State as StateByValue}

-- the whole arrays
abbrev pub whole_is : StateByValue → State
whole_is x = state x.values x.modes

-- a step from a state by value: the state after, where there is one
abbrev pub stepped_is : StateByValue → Option StateByValue → Bool × State
stepped_is x None = (false, whole_is x)
stepped_is x (Some y) = (true, whole_is y)

-- whether a row is taken, and the state after; where it isn't, the state before
abbrev pub stepped_by : ℕ → ℕ → List ℕ → List ℤ → List ℤ → State → Bool × State
stepped_by n m marks numbers sums x = (
  takes n m marks numbers sums x.values x.modes,
  state (cond (takes n m marks numbers sums x.values x.modes) (values_after n marks numbers x.values) x.values)
      (cond (takes n m marks numbers sums x.values x.modes) (modes_after m marks x.modes) x.modes),
)
