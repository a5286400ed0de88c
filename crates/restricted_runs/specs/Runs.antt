-- A run of one action in a plan: the steps that it takes, and where it ends.
-- Assumes nothing.
use Rattle.std.specs.Prelude.{◌≡◌, ℕ, ◌+◌, ◌*◌, ◌<◌, ◌≤◌, true, List, length, get_or, ℤ, Result, Ok, Err}
use Rattle.std.proofs.Math.Option.{none, some}
use Rattle.model.specs.Tasks.{RestrictedAction, State}
use Rattle.model.specs.Plans.{plan_numbers}
use Rattle.model.specs.Steps.{values_within, figure}
use Rattle.restricted_step.specs.Steps.{step_by, CanTake}
use Rattle.restricted_runs.specs.Repeats.{steps_by}

-- so many numbers of a plan from step `from` on are k
abbrev pub Alike : ℕ → List ℕ → ℕ → ℕ → Type 0
Alike k plan from count = (j : ℕ) → j < count → get_or (plan_numbers plan) (from + j) 0 ≡ k

-- so many, one at least, and the plan has as many
pub record Counted (k : ℕ) (plan : List ℕ) (from steps count : ℕ) : Type 0 where
  pub some : 0 < count
  pub there : from + count ≤ steps
  pub alike : Alike k plan from count

-- what a run from a step on asks: that this step takes action k
pub record CanRun (values : List ℤ) (marks : List ℕ) (numbers : List ℤ) (k : ℕ) (plan : List ℕ) (from steps : ℕ) : Type 0 where
  pub can_take : CanTake values marks numbers
  pub steps_are : steps ≡ length (plan_numbers plan)
  pub long : 2 * steps ≤ length plan
  pub few : steps ≤ 1000000
  pub more : from < steps
  pub takes : get_or (plan_numbers plan) from 0 ≡ k

-- the steps of a plan from step `from` to before step i all take action k, which is a, and lead from x to y
pub record Led (a : RestrictedAction) (x : State) (k : ℕ) (plan : List ℕ) (from i : ℕ) (y : State) : Type 0 where
  pub taken : ℕ
  pub there : i ≡ from + taken
  pub alike : Alike k plan from taken
  pub steps : steps_by a taken x ≡ some y

-- a run that ends before step i, behind its first step
pub record Passed (a : RestrictedAction) (x : State) (k : ℕ) (plan : List ℕ) (from steps i : ℕ) (y : State) : Type 0 where
  pub led : Led a x k plan from i y
  pub onward : from < i
  pub bound : i ≤ steps
  pub within : values_within figure y.values ≡ true

-- a run that is stopped at step i: it takes action k, which doesn't apply there
pub record Stuck (a : RestrictedAction) (x : State) (k : ℕ) (plan : List ℕ) (from steps i : ℕ) : Type 0 where
  pub here : State
  pub led : Led a x k plan from i here
  pub more : i < steps
  pub takes : get_or (plan_numbers plan) i 0 ≡ k
  pub refuses : step_by a here ≡ none

abbrev pub Ran : RestrictedAction → State → ℕ → List ℕ → ℕ → ℕ → Result ℕ ℕ → State → Type 0
Ran a x k plan from steps (Ok i) y = Passed a x k plan from steps i y
Ran a x k plan from steps (Err i) y = Stuck a x k plan from steps i
