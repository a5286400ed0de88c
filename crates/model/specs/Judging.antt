-- Document 01, "Refusals by number": what each call on a task and a plan, or on a task and a state, answers for every input. Their order is
-- the order of the text: the file's refusals; 10; per step 11, 12; then 13, 9. (8 is `lent` over the answer of a call that writes.)
-- Assumes nothing.
use Rattle.std.specs.Prelude.{ℕ, suc, ◌+◌, Bool, true, false, cond, List, [], ◌∷◌, ◌++◌, length, take, drop, ltb}
use Rattle.std.proofs.Math.Option.{Option, none, some}
use Rattle.answers.specs.Answer.{Answer, given, refused, then}
use Rattle.model.specs.Tasks.{SourceTask, RestrictedTask, State}
use Rattle.model.specs.Decoding.{read_source, read_restricted}
use Rattle.model.specs.Plans.{plan_bytes_of, read_plan}
use Rattle.model.specs.Steps.{step_source, source_goal_holds, source_start, step_restricted, restricted_goal_holds, restricted_start}
use Rattle.model.specs.Lowering.{lower_file}
use Rattle.model.specs.Expansion.{price_from, expand_task, project_task}

-- ---- judging, from step i on. 11: no such action. 12: doesn't apply. 13, with the count of steps: the goal isn't met
abbrev pub if_applies : {X Y : Type 0} → Option X → ℕ → (X → Answer Y) → Answer Y
if_applies none i f = refused 12 i
if_applies (some y) i f = f y

unfoldable pub judge : {X : Type 0} → ℕ → (X → ℕ → Option X) → (X → Bool) → ℕ → List ℕ → X → Answer (ℕ × X)
judge count step goal i [] x = cond (goal x) (given (i, x)) (refused 13 i)
judge count step goal i (k ∷ ks) x = cond (ltb k count) (if_applies (step x k) i (judge count step goal (suc i) ks)) (refused 11 i)

-- "its answer is the count of steps and the end state"
abbrev pub judge_source_task : SourceTask → List ℕ → Answer (ℕ × State)
judge_source_task t p = judge (length t.actions) (step_source t) (source_goal_holds t) 0 p (source_start t)

abbrev pub judge_restricted_task : RestrictedTask → List ℕ → Answer (ℕ × State)
judge_restricted_task r q = judge (length r.actions) (step_restricted r) (restricted_goal_holds r) 0 q (restricted_start r)

abbrev pub judge_source : List ℕ → List ℕ → Answer (ℕ × State)
judge_source file plan = then (read_source file) (λ t. then (read_plan plan) (judge_source_task t))

abbrev pub judge_restricted : List ℕ → List ℕ → Answer (ℕ × State)
judge_restricted file plan = then (read_restricted file) (λ r. then (read_plan plan) (judge_restricted_task r))

-- ---- "A step taken by itself is step 0." What a state's arrays hold beyond the declared variables and modes is not read, and comes back
-- unchanged
abbrev pub declared_part : ℕ → ℕ → State → State
declared_part n m x = record { values = take n x.values; modes = take m x.modes }

abbrev pub with_rest : ℕ → ℕ → State → State → State
with_rest n m x y = record { values = y.values ++ drop n x.values; modes = y.modes ++ drop m x.modes }

abbrev pub step_alone : ℕ → ℕ → ℕ → (State → ℕ → Option State) → State → ℕ → Answer State
step_alone n m count step x k = cond (ltb k count) (if_applies (step (declared_part n m x) k) 0 (λ y. given (with_rest n m x y))) (refused 11 0)

abbrev pub step_source_alone : List ℕ → State → ℕ → Answer State
step_source_alone file x k = then (read_source file) (λ t. step_alone (length t.variables) (length t.modes) (length t.actions) (step_source t) x k)

abbrev pub step_restricted_alone : List ℕ → State → ℕ → Answer State
step_restricted_alone file x k = then (read_restricted file) (λ r. step_alone (length r.starts) (length r.modes) (length r.actions) (step_restricted r) x k)

-- ---- prices. A step and a plan are refused as by judging them
abbrev pub price_step : List ℕ → State → ℕ → Answer ℕ
price_step file x k = then (read_source file) (λ t. then (step_source_alone file x k) (λ y. given (price_from t.actions x k)))

-- the sum of the step prices from step i on, `sum` being that of the steps before. 9, where it is asked for: the first step with which the
-- sum passes 1,000,000
abbrev pub if_goes_on : {X : Type 0} → Option X → (X → Answer ℕ) → ℕ → Answer ℕ
if_goes_on none f d = given d
if_goes_on (some y) f d = f y

unfoldable pub prices_from : {X : Type 0} → (X → ℕ → Option X) → (X → ℕ → ℕ) → Bool → ℕ → ℕ → List ℕ → X → Answer ℕ
prices_from step price limited i sum [] x = given sum
prices_from step price limited i sum (k ∷ ks) x =
    cond (cond limited (ltb 1_000_000 (sum + price x k)) false) (refused 9 i)
    (if_goes_on (step x k) (prices_from step price limited (suc i) (sum + price x k) ks) (sum + price x k))

abbrev pub price_task : SourceTask → Bool → List ℕ → Answer ℕ
price_task t limited p = prices_from (step_source t) (price_from t.actions) limited 0 0 p (source_start t)

abbrev pub price_plan : List ℕ → List ℕ → Answer ℕ
price_plan file plan = then (read_source file) (λ t. then (read_plan plan) (λ p. then (judge_source_task t p) (λ v. price_task t false p)))

-- ---- the calls that write, with the bytes of their results
abbrev pub lower_bytes : List ℕ → Answer (List ℕ)
lower_bytes file = then (read_source file) (λ t. given (lower_file t))

-- "It refuses a plan that isn't valid for T." 9: the expansion is over 1,000,000 steps
abbrev pub expand_bytes : List ℕ → List ℕ → Answer (List ℕ)
expand_bytes file plan =
    then (read_source file) (λ t.
    then (read_plan plan) (λ p.
    then (judge_source_task t p) (λ v.
    then (price_task t true p) (λ c.
    given (plan_bytes_of (expand_task t p))))))

-- "Projecting takes T and a restricted plan and judges the plan against R first": R is the task in the file that the lowering writes
abbrev pub project_bytes : List ℕ → List ℕ → Answer (List ℕ)
project_bytes file plan =
    then (read_source file) (λ t.
    then (read_restricted (lower_file t)) (λ r.
    then (read_plan plan) (λ q.
    then (judge_restricted_task r q) (λ v.
    given (plan_bytes_of (project_task t q))))))
