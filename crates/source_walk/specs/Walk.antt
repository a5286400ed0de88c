-- The steps of a plan taken one after the other by the rows of a task, and what judging it from a state on comes to.
-- Assumes nothing.
use Rattle.std.specs.Prelude.{◌≡◌, ℕ, suc, ◌+◌, ◌≤◌, Bool, cond, List, [], ◌∷◌, ltb, length, take, ℤ, Option, is_some, IfSome, Result, Ok, Err, ⊤}
use Rattle.model.specs.Tasks.{State}
use Rattle.model.specs.Steps.{integer_at}
use Rattle.model.specs.Expansion.{price_of_effects}
use Rattle.answers.specs.declared.Refusal.{Refusal}
use Rattle.answers.specs.declared.Reason.TheVariants.{NoAction, DoesNotApply}
use Rattle.source_step.specs.Row.{effects_at, Stepped}
use Rattle.source_step.specs.Table.{Table, takes_by, after_by, goal_by, price_by}
use Rattle.source_walk.specs.declared.Walked.{Walked}
use Rattle.source_walk.specs.declared.Judged.{Judged}
use Rattle.source_walk.specs.Answers.{last_verdict}

-- the most steps that an expansion has
abbrev pub most : ℕ
most = 1_000_000

-- the first step with which the sum passes it: `passing` where it has before step i, and i where it does with step i
abbrev pub first_passing : ℕ → ℕ → ℕ → ℕ → ℕ
first_passing passing sum after i = cond (ltb most sum) passing (cond (ltb most after) i passing)

-- how far the steps go, the sum of their prices, the first step with which it passes the limit, and the state there
pub record Walk : Type 0 where
  pub progress : Result ⊤ Refusal
  pub price : ℕ
  pub passing : ℕ
  pub state : State

module _ (T : Table) (priced : Bool) where
  -- what a step adds to the sum
  abbrev pub cost_by : State → ℕ → ℕ
  cost_by x k = cond priced (price_by T x k) 0

  -- from step i on, in state x
  unfoldable pub walk_from : ℕ → ℕ → ℕ → List ℕ → State → Walk
  walk_from i price passing [] x = record { progress = Ok tt; price = price; passing = passing; state = x }
  walk_from i price passing (k ∷ ks) x =
      cond (ltb k T.count)
      (cond (takes_by T x k)
      (walk_from (suc i) (price + cost_by x k) (first_passing passing price (price + cost_by x k) i) ks (after_by T x k))
      (record { progress = Err (record { reason = DoesNotApply; place = i }); price = price; passing = passing; state = x }))
      (record { progress = Err (record { reason = NoAction; place = i }); price = price; passing = passing; state = x })

abbrev pub walk_is : Walked → State → Walk
walk_is w x = record { progress = w.progress; price = w.price; passing = w.passing; state = x }

-- a walk that stopped at a step
abbrev pub stopped_at : Refusal → ℕ → ℕ → Walked → Type 0
stopped_at refusal price passing r = (x : State) → walk_is r x ≡ record { progress = Err refusal; price = price; passing = passing; state = x }

-- a step was taken by rows, at its price or at none
pub record TurnOf (priced : Bool) (n m : ℕ) (marks : List ℕ) (numbers sums values : List ℤ) (modes : List ℕ) (r : Option ℕ) (values' : List ℤ)
    (modes' : List ℕ) : Type 0 where
  pub stepped : Stepped n m marks numbers sums values modes (is_some r) values' modes'
  pub price : IfSome r (λ price. price ≡ cond priced (price_of_effects (effects_at marks numbers) (integer_at (take n values))) 0)
  pub few : IfSome r (λ price. price ≤ 40_000_000_000)

-- ---- the plan judged: the verdict, what its steps cost, and the state at its end or where the refused step stood
pub record Judging : Type 0 where
  pub verdict : Result ℕ Refusal
  pub price : ℕ
  pub passing : ℕ
  pub state : State

abbrev pub judge_walk : Table → ℕ → Walk → Judging
judge_walk T steps w = record { verdict = last_verdict w.progress (goal_by T w.state) steps; price = w.price; passing = w.passing; state = w.state }

abbrev pub judge_by : Table → Bool → List ℕ → State → Judging
judge_by T priced p x = judge_walk T (length p) (walk_from T priced 0 0 0 p x)

abbrev pub judged_is : Judged → State → Judging
judged_is j x = record { verdict = j.verdict; price = j.price; passing = j.passing; state = x }
