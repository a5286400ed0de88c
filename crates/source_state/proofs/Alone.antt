-- A step taken by itself.
-- Assumes nothing.
use mathlib.Core.Path.{◌≡◌, refl, sym, ap, ap₂, ◌∙◌, subst}
use Prim.Native.Nat.{ℕ, zero, suc, ◌≤◌, ◌<◌}
use native.Mathlib.Omega.{arith}
use mathlib.Core.Bool.{Bool, true, false, cond}
use mathlib.Core.Option.{Option as ModelOption, none, some}
use mathlib.Core.List.{List, [], ◌∷◌}
use lib.ListN.{length, take, get_elem?}
use lib.IntN.{ℤ}
use borrow.Author.Tests.{lt-ltb, le-ltb}
use Rattle.integers.specs.Numbers.{Bytes}
use Rattle.answers.specs.Answer.{Answer, given, refused, then}
use Rattle.model.specs.Tasks.{SourceTask, State}
use Rattle.model.specs.Limits.{source_limits}
use Rattle.model.specs.Reading.{Verdict as FileVerdict, Accepted, verdict_of}
use Rattle.model.specs.ActionBytes.{action_place}
use Rattle.model.specs.Steps.{step_source}
use Rattle.model.specs.Judging.{if_applies, declared_part, with_rest, step_alone, step_source_alone}
use Rattle.model.proofs.Pairing.{none-not-some}
use Rattle.model.proofs.AcceptedOk.{accepted-source-ok}
use Rattle.file_declarations.specs.declared.Declared.{Declared}
use Rattle.source_step.specs.Step.{state, step_of, handed_back, Tried}
use Rattle.source_step.specs.Accepted.{AcceptedWith}
use Rattle.std.specs.Prelude.{Result, Ok, Err, ⊤}
use Rattle.answers.specs.declared.Refusal.{Refusal}
use Rattle.answers.specs.declared.Reason.TheVariants.{DoesNotApply}
use Rattle.source_state.specs.Alone.{verdict_over, returned, RowRead}
use Rattle.std.specs.Bool.{then_some}
use Rattle.source_state.specs.declared.State.{State as StateByValue}
use Rattle.source_state.specs.Step.{whole_is, stepped_is, stepped_by}
use Rattle.source_step.specs.Row.{Stepped, takes}
use Rattle.source_step.proofs.Taking.{tried}
use Rattle.source_step.proofs.Steps.{step-of-task}
use Rattle.source_step.proofs.Judging.{task-of, accepted-task, counted-task, task-by}
use Rattle.file_actions.specs.Places.{BytesOfAction, step_place}
use Rattle.file_actions.proofs.Refusals.{step-refused}

found_below : {A : Type 0} (l : List A) (k : ℕ) (a : A) → get_elem? l k ≡ some a → k < length l
found_below [] k a e = absurd (none-not-some refl e)
found_below (x ∷ l) zero a e = omega arith
found_below (x ∷ l) (suc k) a e = let h = found_below l k a e in omega arith

-- the verdict on a step, by whether it applies
abbrev pub step_verdict : Bool → Result ⊤ Refusal
step_verdict applies = cond applies (Ok tt) (Err (record { reason = DoesNotApply; place = 0 }))

answered : (n m : ℕ) (x z : State) (b : Bool) (o : ModelOption State) → (b, z) ≡ handed_back n m x o
    → (verdict_over (step_verdict b) z, z) ≡ returned x (if_applies o 0 (λ y. given (with_rest n m x y)))
answered n m x z b none e = ap (λ (p : Bool × State). (verdict_over (step_verdict p.0) p.1, p.1)) e
answered n m x z b (some y) e = ap (λ (p : Bool × State). (verdict_over (step_verdict p.0) p.1, p.1)) e

-- a step by itself of action k of a task
abbrev task_step : SourceTask → State → ℕ → Answer State
task_step t x k = step_alone (length t.variables) (length t.modes) (length t.actions) (step_source t) x k

-- the answer and the whole arrays after a row
pub stepped-whole : {n m : ℕ} {marks : List ℕ} {numbers : List ℤ} (sums : List ℤ) {values : List ℤ} {modes : List ℕ} {r : Bool} {values' : List ℤ}
    {modes' : List ℕ} → Stepped n m marks numbers sums values modes r values' modes'
    → (r, state values' modes') ≡ stepped_by n m marks numbers sums (state values modes)
stepped-whole sums T = rw (T.is, T.values_are, T.modes_are) refl

-- whether a row is taken, and the state after it, are a step where there is one
module _ (n m : ℕ) (marks : List ℕ) (numbers sums : List ℤ) (x y : StateByValue) where
  pub given-if : (r : Bool) → r ≡ takes n m marks numbers sums x.values x.modes → whole_is y ≡ (stepped_by n m marks numbers sums (whole_is x)).1
      → stepped_is x (then_some r y) ≡ stepped_by n m marks numbers sums (whole_is x)
  given-if true e after = ap₂ (λ (b : Bool) (z : State). (b, z)) e after
  given-if false e after = rw (← e) refl

-- a step by itself of the action that has these bytes
module _ {file bytes marks : List ℕ} {numbers sums : List ℤ} {r : Declared} (R : RowRead file bytes marks numbers sums r) (k : ℕ)
    (of : BytesOfAction source_limits file k bytes)
    (values : List ℤ) (modes : List ℕ) (values_long : length values ≡ 8) (modes_long : length modes ≡ 4) where
  abbrev t : SourceTask
  t = task-of file 0

  abbrev x : State
  x = state values modes

  tried-so : {b : Bool} {values' : List ℤ} {modes' : List ℕ} → (b, state values' modes') ≡ stepped_by r.variables r.modes marks numbers sums x
      → Tried r.variables r.modes R.lower R.upper R.sizes values modes R.action b values' modes'
  tried-so e = tried
      (record {
        variables_few = R.few.0;
        modes_few = R.few.1;
        values_long = values_long;
        modes_long = modes_long;
        sizes_long = (R.holds t (task-by file k of)).room.sizes_long;
      })
      R.row
      (record {
        is = ap (λ (p : Bool × State). p.0) e;
        values_are = ap (λ (p : Bool × State). p.1.values) e;
        modes_are = ap (λ (p : Bool × State). p.1.modes) e;
      })

  counted : k < length t.actions
  counted = found_below t.actions k R.action (R.found t (task-by file k of) k of)

  -- the step of task t in a state with n variables and m modes of its own
  abbrev of_task : ℕ → ℕ → Answer State
  of_task n m = if_applies (step_source t (declared_part n m x) k) 0 (λ y. given (with_rest n m x y))

  pub step-taken : (b : Bool) (values' : List ℤ) (modes' : List ℕ) → (b, state values' modes') ≡ stepped_by r.variables r.modes marks numbers sums x
      → (verdict_over (step_verdict b) (state values' modes'), state values' modes') ≡ returned x (step_source_alone file x k)
  step-taken b values' modes' q =
      let is = task-by file k of in
      let h = R.holds t is in
      let z = declared_part r.variables r.modes x in
      let s : step_of (take r.variables R.lower) (take r.variables R.upper) (take r.modes R.sizes) z R.action ≡ step_source t z k =
      rw (h.lowers_are, h.uppers_are, h.sizes_are) (step-of-task t (accepted-source-ok file t is) z k R.action (R.found t is k of)) in
      answered r.variables r.modes x (state values' modes') b (step_source t z k) ((tried-so q).meets ∙ ap (handed_back r.variables r.modes x) s)
      ∙ ap₂ (λ (n m : ℕ). returned x (of_task n m)) h.variable_count h.mode_count
      ∙ ap (λ (there : Bool). returned x (cond there (of_task (length t.variables) (length t.modes)) (refused 11 0)))
      (sym (lt-ltb k (length t.actions) counted))
      ∙ ap (λ (o : Answer SourceTask). returned x (then o (λ u. task_step u x k))) (sym is)

-- ---- there is no such action, or no such task
module _ (file : List ℕ) (bytes : Bytes file) (x : State) (k : ℕ) where
  pub alone-refused : {number place : ℕ} → action_place source_limits file k ≡ refused number place
      → step_source_alone file x k ≡ refused number (step_place number place)
  alone-refused = step-refused source_limits file k (task-of file 0) (λ t. task_step t x k) none
    where
      none : (v m a : ℕ) → Accepted v m a ≡ verdict_of source_limits file → a ≤ k → task_step (task-of file 0) x k ≡ refused 11 0
      none v m a q l =
          let h : AcceptedWith (verdict_of source_limits file) a = subst (λ (w : FileVerdict). AcceptedWith w a) q refl in
          let c = counted-task file a bytes h (task-of file a) (accepted-task file a h) in
          rw (le-ltb k (length (task-of file 0).actions) (omega (arith, c, l)))
