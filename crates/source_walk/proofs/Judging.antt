-- What the calls answer from a walk that begins at the task's start.
-- Assumes nothing.
use mathlib.Core.Path.{◌≡◌, refl, sym, ap, ap₂, ◌∙◌}
use Prim.Native.Nat.{ℕ}
use native.Mathlib.Omega.{arith}
use native.Mathlib.Nat.{zero-add}
use mathlib.Core.Bool.{Bool, true, false, cond}
use mathlib.Core.List.{List, ◌++◌}
use lib.ListN.{length, take, drop, replicate, take-append-drop}
use lib.Seq.{length-take-le}
use lib.IntN.{ℤ, pos}
use Rattle.answers.specs.Answer.{Answer, given, refused, then}
use Rattle.model.specs.Tasks.{State}
use Rattle.model.specs.Steps.{source_goal_holds, step_source}
use Rattle.model.specs.Judging.{with_rest, judge, judge_source_task, judge_source, price_task, price_plan}
use Rattle.model.specs.Expansion.{price_from}
use Rattle.model.specs.Judging.{prices_from}
use Rattle.model.specs.Plans.{plan_numbers}
use Rattle.std.specs.Prelude.{Result, Ok, Err, ⊤}
use Rattle.answers.specs.Refusals.{refusal_is}
use Rattle.answers.specs.declared.Refusal.{Refusal}
use Rattle.source_step.specs.Step.{state, Shaped, Kept}
use Rattle.source_walk.specs.Answers.{on_progress}
use Rattle.source_step.proofs.Trying.{kept_then}
use Rattle.source_step.specs.Table.{Table, declared_by, goal_by, Inside}
use Rattle.source_step.proofs.Tables.{goal-agrees}
use Rattle.source_walk.specs.declared.Task.{Task}
use Rattle.source_walk.specs.Opening.{table_of, Started}
use Rattle.source_walk.specs.Answers.{last_verdict, zeros, judgement_of, with_state, priced_by}
use Rattle.source_walk.specs.Walk.{walk_from, Judging, judge_by}
use Rattle.source_walk.proofs.Opening.{goes_on_lem}
use Rattle.source_walk.proofs.Walking.{within_price, from-none, walk_ends, walk-judges, walk-prices}

-- the declared part in front of zeros
in-front : {n m : ℕ} {x : State} {sizes : List ℕ} → Shaped n m x.values x.modes sizes → Kept n m (replicate 8 (pos 0)) (replicate 4 0) x.values x.modes
    → x ≡ with_rest (length (take n x.values)) (length (take m x.modes)) zeros (state (take n x.values) (take m x.modes))
in-front {n} {m} {x} h k = ap₂ state
    (sym (take-append-drop n x.values)
    ∙ ap (λ (l : List ℤ). take n x.values ++ l)
    (k.values_kept ∙ ap (λ (i : ℕ). drop i (replicate 8 (pos 0))) (sym (length-take-le n x.values (omega (arith, h.values_long, h.variables_few))))))
    (sym (take-append-drop m x.modes)
    ∙ ap (λ (l : List ℕ). take m x.modes ++ l)
    (k.modes_kept ∙ ap (λ (i : ℕ). drop i (replicate 4 0)) (sym (length-take-le m x.modes (omega (arith, h.modes_long, h.modes_few))))))

-- what a verdict says, with the end state
abbrev pub answer_with : Result ℕ Refusal → State → Answer (ℕ × State)
answer_with (Ok steps) y = given (steps, y)
answer_with (Err r) y = refusal_is r

last-is : (pr : Result ⊤ Refusal) (met : Bool) (steps : ℕ) (y : State)
    → on_progress pr (cond met (given (steps, y)) (refused 13 steps)) ≡ answer_with (last_verdict pr met steps) y
last-is (Ok u) true steps y = refl
last-is (Ok u) false steps y = refl
last-is (Err r) met steps y = refl

whole_is_lem : (v : Result ℕ Refusal) (x y : State) → x ≡ with_rest (length y.values) (length y.modes) zeros y → with_state v x ≡ judgement_of (answer_with v y)
whole_is_lem (Ok steps) x y e = ap (λ (z : State). (given steps, z)) e
whole_is_lem (Err r) x y e = refl

-- a plan that is valid went through
pub went-through : (pr : Result ⊤ Refusal) (met : Bool) (steps : ℕ) (n : ℕ) → last_verdict pr met steps ≡ Ok n → pr ≡ Ok tt
went-through (Ok u) met steps n e = refl
went-through (Err r) met steps n e = cc

module _ {file plan : List ℕ} {r : Task} {marks : List (List ℕ)} {numbers : List (List ℤ)} {values : List ℤ} {modes : List ℕ}
    (S : Started file plan r marks numbers values modes) where
  abbrev T : Table
  T = table_of r marks numbers

  abbrev p : List ℕ
  p = plan_numbers plan

  module _ (priced : Bool) where
    abbrev J : Judging
    J = judge_by T priced p (state values modes)

    ends : Inside S.rows J.state × Kept T.variables T.modes values modes J.state.values J.state.modes
    ends = walk_ends S.rows priced p 0 0 0 (state values modes) S.inside

    -- the verdict is that of judging the task's plan
    pub judged-is : judge_source_task S.task p ≡ answer_with J.verdict (declared_by T J.state)
    unfolding judge
    judged-is =
        let w = walk_from T priced 0 0 0 p (state values modes) in
        let y = declared_by T w.state in
        ap (judge (length S.task.actions) (step_source S.task) (source_goal_holds S.task) 0 p) (sym S.start)
        ∙ walk-judges S.rows priced (source_goal_holds S.task) p 0 0 0 (state values modes) S.inside
        ∙ ap₂ (λ (b : Bool) (j : ℕ). on_progress w.progress (cond b (given (j, y)) (refused 13 j))) (sym (goal-agrees S.rows w.state ends.0))
        (zero-add (length p))
        ∙ last-is w.progress (goal_by T w.state) (length p) y

    pub judgement-is : with_state J.verdict J.state ≡ judgement_of (judge_source file plan)
    judgement-is =
        whole_is_lem J.verdict J.state (declared_by T J.state) (in-front ends.0.shaped (kept_then S.kept ends.1))
        ∙ ap judgement_of (sym (goes_on_lem judge_source_task file plan S.task S.reads S.plan_is.plan_read ∙ judged-is))

  -- the price of a valid plan, limited or not
  pub priced-is : (n : ℕ) → (J true).verdict ≡ Ok n → (limited : Bool)
      → price_task S.task limited p ≡ within_price limited (J true).price (J true).passing
  priced-is n e limited =
      let w = walk_from T true 0 0 0 p (state values modes) in
      ap (prices_from (step_source S.task) (price_from S.task.actions) limited 0 0 p) (sym S.start)
      ∙ from-none limited (prices_from (step_source S.task) (price_from S.task.actions) limited 0 0 p (declared_by T (state values modes)))
      ∙ walk-prices S.rows limited p 0 0 0 (state values modes) S.inside (went-through w.progress (goal_by T w.state) (length p) n e)

  pub price-is : priced_by (J true).verdict (J true).price ≡ price_plan file plan
  price-is = go (J true).verdict refl
      ∙ sym (goes_on_lem (λ t p. then (judge_source_task t p) (λ v. price_task t false p)) file plan S.task S.reads S.plan_is.plan_read)
    where
      go : (v : Result ℕ Refusal) → (J true).verdict ≡ v → priced_by v (J true).price ≡ then (judge_source_task S.task p) (λ u. price_task S.task false p)
      go (Ok n) e = sym (ap (λ (a : Answer (ℕ × State)). then a (λ u. price_task S.task false p))
          (judged-is true ∙ ap (λ (v : Result ℕ Refusal). answer_with v (declared_by T (J true).state)) e)
          ∙ priced-is n e false)
      go (Err r) e = sym (ap (λ (a : Answer (ℕ × State)). then a (λ u. price_task S.task false p))
          (judged-is true ∙ ap (λ (v : Result ℕ Refusal). answer_with v (declared_by T (J true).state)) e))
