-- What is listed by the rows of a task is the listing of its file, and no longer than any of so many steps may be.
-- Assumes nothing.
use mathlib.Core.Path.{◌≡◌, refl, sym, ap, ap₂, ◌∙◌, subst}
use Prim.Native.Nat.{ℕ, zero, suc, ◌+◌, ◌*◌, ◌^◌, ◌≤◌, ◌<◌}
use native.Mathlib.Omega.{arith}
use native.Mathlib.Nat.{add-zero, not-suc-le-zero, le_of_suc-le-suc}
use mathlib.Core.Bool.{Bool, true, false, cond}
use mathlib.Core.Option.{none}
use mathlib.Core.List.{List, [], ◌∷◌, ◌++◌}
use lib.Dec.{ltb}
use lib.ListN.{length, length-append, get_elem?}
use lib.IntN.{ℤ}
use borrow.Author.Tests.{ltb-true, ltb-false}
use Rattle.answers.specs.Answer.{Answer, given, refused, then}
use Rattle.model.specs.Tasks.{SourceTask, State}
use Rattle.model.specs.Plans.{plan_numbers}
use Rattle.model.specs.Steps.{source_start, step_source}
use Rattle.model.specs.Judging.{judge_source_task, price_task}
use Rattle.model.specs.Listing.{header, step_line, step_lines, goal_line, refused_line, text_of, listing}
use Rattle.source_step.specs.Step.{state}
use Rattle.source_step.specs.Table.{Table, declared_by, takes_by, after_by, price_by, RowsOf, Inside}
use Rattle.source_step.proofs.Tables.{price-agrees, step-agrees, inside-after, usables}
use Rattle.std.specs.Prelude.{Result, Ok, Err}
use Rattle.answers.specs.Refusals.{number_of}
use Rattle.answers.specs.declared.Refusal.{Refusal as CallRefusal}
use Rattle.answers.specs.declared.Reason.{Reason}
use Rattle.answers.specs.declared.Reason.TheVariants.{NoAction, DoesNotApply}
use Rattle.source_walk.specs.declared.Task.{Task}
use Rattle.source_walk.specs.Opening.{opened, table_of, Started}
use Rattle.source_walk.specs.Walk.{Walk, walk_from, first_passing, Judging, judge_by}
use Rattle.source_walk.proofs.Opening.{refused-both, goes_on_lem}
use Rattle.source_walk.proofs.Judging.{answer_with, judged-is, priced-is}
use Rattle.listing.specs.Listed.{lines_by, prices_by}
use Rattle.listing.specs.declared.Rest.{Rest}
use Rattle.listing.specs.declared.Rest.TheVariants.{Refusal}
use Rattle.listing.specs.Parts.{LONGEST, most_of, rest_by, left_of, Pending, Begun}
use Rattle.listing.proofs.Longest.{lines-most, total-most, goal-most, number-few, refused-most}

-- ---- the lines by the rows of a task are those of its steps
-- there is no action past the last
past : {A : Type 0} (xs : List A) (k : ℕ) → length xs ≤ k → get_elem? xs k ≡ none
past [] k h = refl
past (x ∷ xs) zero h = absurd (not-suc-le-zero h)
past (x ∷ xs) (suc k) h = past xs k (le_of_suc-le-suc h)

no_step : (t : SourceTask) (x : State) (k : ℕ) → length t.actions ≤ k → step_source t x k ≡ none
no_step t x k h = rw (past t.actions k h)

module _ {t : SourceTask} {T : Table} (R : RowsOf t T) where
  abbrev Same : ℕ → List ℕ → State → Type 0
  Same i p x = lines_by T i p x ≡ step_lines t i p (declared_by T x)

  lines_are : (p : List ℕ) (i : ℕ) (x : State) → Inside R x → lines_by T i p x ≡ step_lines t i p (declared_by T x)
  unfolding lines_by step_lines
  lines_are [] i x I = refl
  lines_are (k ∷ ks) i x I = go (ltb k T.count) refl (takes_by T x k) refl (lines_are ks (suc i) (after_by T x k))
    where
      go : (a : Bool) → ltb k T.count ≡ a → (b : Bool) → takes_by T x k ≡ b → (Inside R (after_by T x k) → Same (suc i) ks (after_by T x k))
          → cond a (cond b (step_line i k (price_by T x k) (declared_by T (after_by T x k)) ++ lines_by T (suc i) ks (after_by T x k)) []) []
          ≡ step_lines t i (k ∷ ks) (declared_by T x)
      go true e true f ih =
          let l : k < T.count = ltb-true k T.count e in
          rw (step-agrees R x I k l, f, price-agrees R x k l)
          (ap (λ (z : List ℕ). step_line i k (price_by T x k) (declared_by T (after_by T x k)) ++ z) (ih (inside-after R x I k l f)))
      go true e false f ih = rw (step-agrees R x I k (ltb-true k T.count e), f) refl
      go false e b f ih = rw (no_step t (declared_by T x) k (omega (arith, R.ready.counted, ltb-false k T.count e))) refl

-- ---- the price of a walk is that of its steps, wherever it stops
module _ (T : Table) where
  walk-price : (p : List ℕ) (i price passing : ℕ) (x : State) → (walk_from T true i price passing p x).price ≡ price + prices_by T p x
  unfolding walk_from prices_by
  walk-price [] i price passing x = sym (add-zero price)
  walk-price (k ∷ ks) i price passing x = go (ltb k T.count) (takes_by T x k) (walk-price ks (suc i) (price + price_by T x k) _ (after_by T x k))
    where
      after : Walk
      after = walk_from T true (suc i) (price + price_by T x k) (first_passing passing price (price + price_by T x k) i) ks (after_by T x k)

      stopped : Reason → Walk
      stopped reason = record { progress = Err (record { reason = reason; place = i }); price = price; passing = passing; state = x }

      rest : ℕ
      rest = prices_by T ks (after_by T x k)

      go : (a b : Bool) → after.price ≡ price + price_by T x k + rest
          → (cond a (cond b after (stopped DoesNotApply)) (stopped NoAction)).price ≡ price + cond a (cond b (price_by T x k + rest) 0) 0
      go true true ih = omega (arith, ih)
      go true false ih = sym (add-zero price)
      go false b ih = sym (add-zero price)

-- a verdict whose answer is given is that of a valid plan, of so many steps
valid-is : (v : Result ℕ CallRefusal) (y : State) (a : ℕ × State) → answer_with v y ≡ given a → v ≡ Ok a.0
valid-is (Ok steps) y a e = cc
valid-is (Err r) y a e = let no : ◌≡◌ {A = ℕ} 0 1 = cc in absurd (omega arith)

-- ---- what goes on from a task and a plan
abbrev text_with : List ℕ → ℕ → List ℕ
text_with lines total = header ++ (lines ++ goal_line total)

abbrev with_total : SourceTask → List ℕ → Answer ℕ → Answer (List ℕ)
with_total t p price = then price (λ total. given (text_with (step_lines t 0 p (source_start t)) total))

abbrev go_on : SourceTask → List ℕ → Answer (List ℕ)
go_on t p = then (judge_source_task t p) (λ v. with_total t p (price_task t false p))

pub refused-listing : (file plan : List ℕ) (number place : ℕ) → opened file plan ≡ refused number place → refused_line number place ≡ listing file plan
unfolding listing
refused-listing file plan number place e = sym (ap text_of (refused-both go_on file plan number place e))

-- what is refused when they are opened is all that is left
pub not-opened : (file plan : List ℕ) (number place : ℕ) → number < 256 → place < 2 ^ 64 → opened file plan ≡ refused number place
    → {marks : List (List ℕ)} {numbers : List (List ℤ)} {values : List ℤ} {modes : List ℕ}
    → Begun file plan (Refusal number place) marks numbers values modes
not-opened file plan number place h l e =
    let text = refused-listing file plan number place e in
    record { left = text; pending = tt; short = omega (arith, refused-most number place h l, ap length text) }

module _ {file plan : List ℕ} {r : Task} {marks : List (List ℕ)} {numbers : List (List ℤ)} {values : List ℤ} {modes : List ℕ}
    (S : Started file plan r marks numbers values modes) where
  abbrev T : Table
  T = table_of r marks numbers

  abbrev t : SourceTask
  t = S.task

  abbrev p : List ℕ
  p = plan_numbers plan

  abbrev x : State
  x = state values modes

  abbrev J : Judging
  J = judge_by T false p x

  abbrev total : ℕ
  total = 0 + prices_by T p x

  steps-are : lines_by T 0 p x ≡ step_lines t 0 p (source_start t)
  steps-are = lines_are S.rows p 0 x S.inside ∙ ap (step_lines t 0 p) S.start

  judged : (v : Result ℕ CallRefusal) → J.verdict ≡ v → judge_source_task t p ≡ answer_with v (declared_by T J.state)
  judged v e = judged-is S false ∙ ap (λ (u : Result ℕ CallRefusal). answer_with u (declared_by T J.state)) e

  -- the steps of a valid plan cost what the plan does
  total-is : (n : ℕ) → J.verdict ≡ Ok n → price_task t false p ≡ given total
  total-is n e =
      let with-prices : Judging = judge_by T true p x in
      let valid = valid-is with-prices.verdict _ (n, declared_by T J.state) (sym (judged-is S true) ∙ judged (Ok n) e) in
      priced-is S n valid false ∙ ap given (walk-price T p 0 0 0 x)

  by-verdict : (v : Result ℕ CallRefusal) → J.verdict ≡ v → left_of (rest_by r v) p marks numbers values modes ≡ text_of (go_on t p)
  by-verdict (Ok n) e =
      ap (λ (lines : List ℕ). text_with lines total) steps-are
      ∙ sym (ap₂ (λ (a : Answer (ℕ × State)) (c : Answer ℕ). text_of (then a (λ v. with_total t p c))) (judged (Ok n) e) (total-is n e))
  by-verdict (Err r) e =
      sym (ap (λ (a : Answer (ℕ × State)). text_of (then a (λ v. with_total t p (price_task t false p)))) (judged (Err r) e))

  all_left : left_of (rest_by r J.verdict) p marks numbers values modes ≡ listing file plan
  unfolding listing
  all_left = by-verdict J.verdict refl ∙ sym (ap text_of (goes_on_lem go_on file plan t S.reads S.plan_is.plan_read))

  pending : (v : Result ℕ CallRefusal) → Pending (rest_by r v) p marks numbers values modes
  pending (Err r) = tt
  pending (Ok n) = record {
    steps_are = S.plan_is.steps_are;
    listable = record {
      usables = usables S.rows;
      ordered = omega arith;
      in_plan = omega (arith, S.plan_is.steps_are);
      few = S.plan_is.few;
      cheap = omega arith;
      values_long = S.inside.shaped.values_long;
      modes_long = S.inside.shaped.modes_long;
    };
  }

  -- a plan costs at most so much a step
  price-few : total ≤ 330_034 * length p
  price-few = omega (arith, total-most S.rows p x S.inside)

  lines-few : length (lines_by T 0 p x) ≤ LONGEST * length p
  lines-few = lines-most S.rows p 0 x S.inside (omega (arith, S.plan_is.few, S.plan_is.steps_are))

  short : (v : Result ℕ CallRefusal) → ((number place : ℕ) → rest_by r v ≡ Refusal number place → place < 2 ^ 64)
      → length (left_of (rest_by r v) p marks numbers values modes) ≤ most_of (rest_by r v)
  short (Err d) told =
      refused-most (number_of d.reason) d.place (omega (arith, number-few d.reason)) (told (number_of d.reason) d.place refl)
  short (Ok n) told =
      let steps = S.plan_is.steps_are in
      let goal : length (goal_line total) ≤ 18 = goal-most total (omega (arith, price-few, S.plan_is.few, steps)) in
      omega (arith, length-append (lines_by T 0 p x) (goal_line total), lines-few, goal, steps)

  -- what judging leaves of the listing is all of it; the place of a refusal is of 64 bits
  pub begun : {rest : Rest} → rest ≡ rest_by r (judge_by (table_of r marks numbers) false (plan_numbers plan) (state values modes)).verdict
      → ((number place : ℕ) → rest ≡ Refusal number place → place < 2 ^ 64) → Begun file plan rest marks numbers values modes
  begun e told =
      let few = short J.verdict (λ number place v. told number place (e ∙ v)) in
      subst (λ (rest : Rest). Begun file plan rest marks numbers values modes) (sym e)
      (record { left = all_left; pending = pending J.verdict; short = omega (arith, few, ap length all_left) })
