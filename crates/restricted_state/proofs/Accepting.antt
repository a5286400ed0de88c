-- From bytes to a step by itself: what the readers leave of an accepted file, and what the step then answers.
-- Assumes nothing.
use mathlib.Core.Path.{◌≡◌, sym, ap, ap₂, ◌∙◌, subst}
use Prim.Native.Nat.{ℕ, ◌≤◌, ◌<◌}
use native.Mathlib.Omega.{arith}
use mathlib.Core.Bool.{Bool, cond}
use mathlib.Core.Option.{Option, none, some}
use mathlib.Core.List.{List}
use lib.ListN.{length, take, get_elem?, replicate, length-replicate, length-map}
use lib.IntN.{ℤ, pos}
use borrow.Author.Tests.{lt-ltb, le-ltb}
use Rattle.integers.specs.Numbers.{Bytes}
use Rattle.answers.specs.Answer.{Answer, given, refused, then}
use Rattle.model.specs.Tasks.{RestrictedTask, State}
use Rattle.model.specs.Limits.{restricted_limits}
use Rattle.model.specs.Reading.{Verdict as ModelVerdict, Accepted as accepted, Rejected as rejected, verdict_of, commands_of}
use Rattle.model.specs.Decoding.{read_restricted, actions_of, restricted_action_of, on_verdict}
use Rattle.model.specs.ActionBytes.{action_place, decode_action}
use Rattle.model.specs.Steps.{step_restricted}
use Rattle.model.specs.Judging.{declared_part, with_rest, if_applies, step_alone, step_restricted_alone}
use Rattle.model.proofs.AcceptedOk.{accepted-restricted-ok}
use Rattle.model.proofs.AcceptedTrail.{Is}
use Rattle.model.proofs.ActionsAndGoal.{verdict-counts-actions}
use Rattle.file_declarations.specs.declared.Declared.{Declared}
use Rattle.file_declarations.specs.Stored.{RestrictedStored}
use Rattle.file_declarations.specs.Holding.{RestrictedRoom, HoldsRestricted}
use Rattle.file_declarations.proofs.Accepted.{restricted-held}
use Rattle.file_parts.specs.Row.{row_is, Says}
use Rattle.file_actions.specs.Places.{BytesOfAction, step_place}
use Rattle.file_actions.specs.Views.{fitting_restricted}
use Rattle.file_actions.proofs.Refusals.{given-of, step-refused}
use Rattle.file_actions.proofs.Accepted.{restricted-action-decoded}
use Rattle.restricted_step.specs.Sizes.{VARIABLES, MODES}
use Rattle.restricted_step.specs.Whole.{task_in, step_of}
use Rattle.restricted_step.proofs.Whole.{action-ok, step-by-number}
use Rattle.restricted_state.specs.Step.{RowFor, handed_back, stepped}
use Rattle.restricted_state.specs.Alone.{step_answer_of}

-- ---- what is declared, read into arrays of zeros
pub zero_room : RestrictedRoom (replicate VARIABLES (pos 0)) (replicate MODES 0) (replicate MODES 0)
zero_room = record {
  start_long = length-replicate VARIABLES (pos 0);
  sizes_long = length-replicate {A = ℕ} MODES 0;
  values_long = length-replicate {A = ℕ} MODES 0;
}

-- ---- a file's verdict
module _ (file : List ℕ) where
  pub file-rejected : {number place : ℕ} → rejected number place ≡ verdict_of restricted_limits file → refused number place ≡ read_restricted file
  file-rejected e = ap (λ (v : ModelVerdict). on_verdict v (task_in file)) e

  pub file-accepted : {v m a : ℕ} → accepted v m a ≡ verdict_of restricted_limits file → read_restricted file ≡ given (task_in file)
  file-accepted e = sym (ap (λ (v : ModelVerdict). on_verdict v (task_in file)) e)

  pub actions-counted : Bytes file → {v m a : ℕ} → accepted v m a ≡ verdict_of restricted_limits file → a ≡ length (task_in file).actions
  actions-counted bytes {v} {m} {a} e =
      verdict-counts-actions restricted_limits file bytes (subst Is e tt) v m a (sym e)
      ∙ sym (length-map (actions_of (commands_of restricted_limits file)) restricted_action_of)

-- ---- what a step hands back is the answer: no refusal where the action applied, else 12 at place 0
abbrev pub told : Bool → Option (ℕ × ℕ)
told applied = cond applied none (some (12, 0))

answered : (n m : ℕ) (x z : State) (b : Bool) (o : Option State) → (b, z) ≡ handed_back n m x o
    → (told b, z) ≡ step_answer_of x (if_applies o 0 (λ y. given (with_rest n m x y)))
answered n m x z b none e = ap (λ (p : Bool × State). (told p.0, p.1)) e
answered n m x z b (some y) e = ap (λ (p : Bool × State). (told p.0, p.1)) e

-- action k of a task
abbrev task_step : RestrictedTask → State → ℕ → Answer State
task_step t x k = step_alone (length t.starts) (length t.modes) (length t.actions) (step_restricted t) x k

-- ---- the rows of the action that has these bytes, of an accepted file
module _ (file : List ℕ) (bytes : Bytes file) (k : ℕ) {part : List ℕ} (of : BytesOfAction restricted_limits file k part)
    {r : Declared} {start : List ℤ} {sizes modes : List ℕ}
    (stored : RestrictedStored file (replicate VARIABLES (pos 0)) (replicate MODES 0) (replicate MODES 0) r start sizes modes)
    {marks : List ℕ} {numbers : List ℤ} (says : Says (fitting_restricted (restricted_action_of (decode_action part))) marks numbers) where
  abbrev t : RestrictedTask
  t = task_in file

  is : read_restricted file ≡ given t
  is = file-accepted file (given-of restricted_limits file k of).accepted

  held : HoldsRestricted t r start sizes modes
  held = restricted-held zero_room stored t is

  below : k < length t.actions
  below = let g = given-of restricted_limits file k of in omega (arith, g.below, actions-counted file bytes g.accepted)

  is-action : get_elem? t.actions k ≡ some (row_is marks numbers)
  is-action = restricted-action-decoded file bytes t is marks numbers k below
      (subst (λ (s : List ℕ). Says (fitting_restricted (restricted_action_of (decode_action s))) marks numbers) (given-of restricted_limits file k of).are says)

  pub row-for : RowFor r.variables r.modes sizes marks numbers
  row-for = record {
    variables_few = held.variables_few;
    modes_few = held.modes_few;
    sizes_long = held.room.sizes_long;
    ok = rw (held.variable_count, held.sizes_are) (action-ok t (accepted-restricted-ok file t is) k (row_is marks numbers) is-action);
  }

  -- the step of task t in a state with n variables and m modes of its own
  abbrev of_task : ℕ → ℕ → State → Answer State
  of_task n m x = if_applies (step_restricted t (declared_part n m x) k) 0 (λ y. given (with_rest n m x y))

  pub step-taken : (x z : State) (b : Bool) → (b, z) ≡ stepped r.variables r.modes sizes marks numbers x
      → (told b, z) ≡ step_answer_of x (step_restricted_alone file x k)
  step-taken x z b e =
      let y = declared_part r.variables r.modes x in
      let s : step_of (take r.modes sizes) y (row_is marks numbers) ≡ step_restricted t y k =
      rw held.sizes_are (step-by-number t y k (row_is marks numbers) is-action) in
      answered r.variables r.modes x z b (step_restricted t y k) (e ∙ ap (handed_back r.variables r.modes x) s)
      ∙ ap₂ (λ (n m : ℕ). step_answer_of x (of_task n m x)) held.variable_count held.mode_count
      ∙ ap (λ (there : Bool). step_answer_of x (cond there (of_task (length t.starts) (length t.modes) x) (refused 11 0)))
      (sym (lt-ltb k (length t.actions) below))
      ∙ ap (λ (o : Answer RestrictedTask). step_answer_of x (then o (λ u. task_step u x k))) (sym is)

-- ---- there is no such action, or no such task
module _ (file : List ℕ) (bytes : Bytes file) (x : State) (k : ℕ) where
  pub alone-refused : {number place : ℕ} → action_place restricted_limits file k ≡ refused number place
      → step_restricted_alone file x k ≡ refused number (step_place number place)
  alone-refused = step-refused restricted_limits file k (task_in file) (λ t. task_step t x k) none
    where
      none : (v m a : ℕ) → accepted v m a ≡ verdict_of restricted_limits file → a ≤ k → task_step (task_in file) x k ≡ refused 11 0
      none v m a q l = rw (le-ltb k (length (task_in file).actions) (omega (arith, actions-counted file bytes q, l)))
