-- From bytes to the judge: what the readers leave of an accepted file is a state from which its task can go on, and what the judge finds is
-- what the definition answers.
-- Assumes nothing.
use mathlib.Core.Path.{◌≡◌, refl, sym, ap, ap₂, ◌∙◌, subst}
use Prim.Native.Nat.{ℕ, suc, ◌≤◌, ◌<◌}
use native.Mathlib.Omega.{arith}
use mathlib.Core.Bool.{Bool, true, false, ◌&&◌, cond}
use mathlib.Core.List.{List, [], ◌∷◌, ◌++◌}
use lib.ListN.{length, get_or, take, drop, replicate, length-replicate, take-append-drop}
use lib.Seq.{length-take-le}
use lib.IntN.{ℤ, pos, nat_abs}
use borrow.Author.Tests.{le-leb, lt-ltb}
use Rattle.integers.specs.All.{All}
use Rattle.integers.specs.Numbers.{Bytes}
use Rattle.std.specs.Prelude.{Ok, Err}
use Rattle.answers.specs.Answer.{Answer, given, refused, then}
use Rattle.answers.specs.Refusals.{refusal_is}
use Rattle.answers.specs.declared.Refusal.{Refusal}
use Rattle.lists.specs.Writing.{splice}
use Rattle.lists.proofs.Writing.{length-splice}
use Rattle.model.specs.Tasks.{RestrictedAction, RestrictedTask, State}
use Rattle.model.specs.Limits.{restricted_limits}
use Rattle.model.specs.Reading.{Accepted as accepted, Rejected as rejected, verdict_of}
use Rattle.model.specs.Decoding.{restricted_action_of, read_restricted}
use Rattle.model.specs.TaskOk.{InRange, ModeOk, RestrictedActionOk, RestrictedTaskOk}
use Rattle.model.specs.ActionBytes.{decode_action}
use Rattle.model.specs.Plans.{plan_numbers, read_plan}
use Rattle.model.specs.Steps.{values_within, modes_below_sizes, figure, sizes_of, start_modes, applies_restricted, restricted_start}
use Rattle.model.specs.Steps.{restricted_goal_holds, step_restricted}
use Rattle.model.specs.Judging.{judge, declared_part, judge_restricted_task, judge_restricted}
use Rattle.model.proofs.AcceptedOk.{accepted-restricted-ok}
use Rattle.plan_bytes.specs.Counted.{count_of}
use Rattle.plan_bytes.proofs.Steps.{steps_of, few-steps, no_steps, halves_long}
use Rattle.file_declarations.specs.declared.Declared.{Declared}
use Rattle.file_declarations.specs.Stored.{RestrictedStored}
use Rattle.file_declarations.specs.Holding.{HoldsRestricted}
use Rattle.file_declarations.proofs.Accepted.{restricted-starts, restricted-modes, restricted-held}
use Rattle.file_parts.specs.Row.{row_is, Says}
use Rattle.file_actions.specs.Places.{edges_of, goal_part}
use Rattle.file_actions.specs.Views.{fitting_restricted}
use Rattle.file_actions.proofs.Accepted.{restricted-edges, places-at, restricted-goal, restricted-goal-ok, restricted-goal-decoded}
use Rattle.restricted_step.specs.Sizes.{VARIABLES, MODES}
use Rattle.restricted_step.specs.Steps.{state_of}
use Rattle.restricted_step.specs.Usable.{Usable}
use Rattle.restricted_step.specs.Whole.{task_in, Beyond, declared_of, StandingIn}
use Rattle.restricted_step.proofs.Effects.{beyond-then}
use Rattle.restricted_step.proofs.Usable.{usable}
use Rattle.restricted_step.proofs.Whole.{within-append, zeros_within, below-declared, applies-declared, sizes-many}
use Rattle.restricted_runs.specs.Slots.{PlacesKept}
use Rattle.restricted_state.proofs.Accepting.{zero_room, file-rejected, file-accepted, actions-counted}
use Rattle.restricted_judge.specs.Judging.{judgement_of, AcceptedPlan, judging_from, Walked}
use Rattle.restricted_judge.proofs.Walking.{judging-ends}

-- ---- the start of a task that keeps to the rules is sound
starts-within : (zs : List ℤ) → All (InRange restricted_limits) zs → values_within figure zs ≡ true
starts-within [] h = refl
starts-within (z ∷ zs) (h, hs) = ap₂ ◌&&◌ (le-leb (nat_abs z) figure (omega (arith, h))) (starts-within zs hs)

starts-below : (ms : List (ℕ × ℕ)) → All (ModeOk restricted_limits) ms → modes_below_sizes (sizes_of ms) (start_modes ms) ≡ true
starts-below [] h = refl
starts-below (m ∷ ms) (h, hs) = ap₂ ◌&&◌ (lt-ltb m.1 m.0 h.0) (starts-below ms hs)

-- ---- what is declared, read into arrays of zeros
module _ (file : List ℕ) (is : read_restricted file ≡ given (task_in file)) {r : Declared} {start : List ℤ} {sizes modes : List ℕ}
    (stored : RestrictedStored file (replicate VARIABLES (pos 0)) (replicate MODES 0) (replicate MODES 0) r start sizes modes) where
  H₀ : HoldsRestricted (task_in file) r start sizes modes
  H₀ = restricted-held zero_room stored (task_in file) is

  ok : RestrictedTaskOk (task_in file)
  ok = accepted-restricted-ok file (task_in file) is

  pub start_is_lem : declared_of (task_in file) (state_of start modes) ≡ restricted_start (task_in file)
  start_is_lem = sym (ap₂ (λ (i j : ℕ). declared_part i j (state_of start modes)) H₀.variable_count H₀.mode_count) ∙ H₀.start_is

  pub beyond-starts : Beyond (length (task_in file).starts) (replicate VARIABLES (pos 0)) start
  beyond-starts = subst (λ (i : ℕ). Beyond i (replicate VARIABLES (pos 0)) start) H₀.variable_count
      (record { rest = (restricted-starts zero_room stored).all_starts.rest; long = H₀.room.start_long ∙ sym (length-replicate VARIABLES (pos 0)) })

  pub beyond-modes : Beyond (length (task_in file).modes) (replicate MODES 0) modes
  beyond-modes = subst (λ (i : ℕ). Beyond i (replicate MODES 0) modes) H₀.mode_count
      (record { rest = (restricted-modes zero_room stored).all_values.rest; long = H₀.room.values_long ∙ sym (length-replicate {A = ℕ} MODES 0) })

  start-within : values_within figure start ≡ true
  start-within = subst (λ (l : List ℤ). values_within figure l ≡ true) (take-append-drop (length (task_in file).starts) start)
      (within-append (take (length (task_in file).starts) start) (drop (length (task_in file).starts) start)
      (ap (λ (x : State). values_within figure x.values) start_is_lem ∙ starts-within (task_in file).starts ok.starts_in)
      (ap (values_within figure) beyond-starts.rest ∙ zeros_within (length (task_in file).starts) VARIABLES))

  start-below : modes_below_sizes (sizes_of (task_in file).modes) modes ≡ true
  start-below = sym (below-declared (length (task_in file).modes) (sizes_of (task_in file).modes) modes (sizes-many (task_in file)))
      ∙ ap (λ (x : State). modes_below_sizes (sizes_of (task_in file).modes) x.modes) start_is_lem
      ∙ starts-below (task_in file).modes ok.modes_in

  pub start-standing : StandingIn (task_in file) (state_of start modes)
  start-standing = record {
    values_long = omega (arith, H₀.room.start_long, H₀.variable_count, H₀.variables_few);
    modes_long = omega (arith, H₀.room.values_long, H₀.mode_count, H₀.modes_few, sizes-many (task_in file));
    within = start-within;
    below = start-below;
  }

-- ---- the places of the actions, in a table with room for them
module _ {file plan : List ℕ} {count steps : ℕ} (input : AcceptedPlan file plan count steps) where
  pub few : count ≤ restricted_limits.actions
  few = omega (arith, (accepted-restricted-ok file (task_in file) input.accepted).actions_few, input.count_is)

  pub placed : (room : ℕ) → count < room → (places : List ℕ) → places ≡ splice (replicate room 0) 0 (edges_of file) → PlacesKept file places count
  placed room h places e = record {
    bytes = input.bytes;
    accepted = input.accepted;
    count_is = input.count_is;
    places_are = λ k b. ap (λ (l : List ℕ). get_or l k 0) e
        ∙ places-at file (replicate room 0) (omega (arith, edges, input.count_is, length-replicate {A = ℕ} room 0)) k (omega (arith, edges, b, input.count_is));
    few = few;
    long = omega (arith, long);
  }
    where
      long : length places ≡ room
      long = ap length e ∙ length-splice (edges_of file) (replicate room 0) 0 ∙ length-replicate {A = ℕ} room 0

      edges : length (edges_of file) ≡ suc (length (task_in file).actions)
      edges = restricted-edges file input.bytes (task_in file) input.accepted

-- ---- the goal, as an action that keeps to the rules
module _ {file plan : List ℕ} {count steps : ℕ} (input : AcceptedPlan file plan count steps) {bytes marks : List ℕ} {numbers : List ℤ}
    (part : bytes ≡ goal_part file count)
    (says : Says (fitting_restricted (restricted_action_of (decode_action bytes))) marks numbers) where
  abbrev t : RestrictedTask
  t = task_in file

  abbrev goal : RestrictedAction
  goal = restricted-goal file input.bytes t input.accepted

  task-ok : RestrictedTaskOk t
  task-ok = accepted-restricted-ok file t input.accepted

  goal-is : row_is marks numbers ≡ goal
  goal-is = (restricted-goal-decoded file input.bytes t input.accepted marks numbers
      (subst (λ (s : List ℕ). Says (fitting_restricted (restricted_action_of (decode_action s))) marks numbers)
      (part ∙ ap (goal_part file) input.count_is) says)).is

  goal-ok : RestrictedActionOk restricted_limits (length t.starts) (sizes_of t.modes) goal
  goal-ok = restricted-goal-ok file input.bytes t input.accepted

  pub goal-usable : Usable marks numbers
  goal-usable = usable (length t.starts) (sizes_of t.modes) marks numbers task-ok.starts_few (omega (arith, task-ok.modes_few, sizes-many t))
      (rw goal-is goal-ok)

  -- it holds of a whole state as of what the task declares of it
  goal-met : (x : State) → applies_restricted (row_is marks numbers) x ≡ restricted_goal_holds t (declared_of t x)
  goal-met x = ap (λ (a : RestrictedAction). applies_restricted a x) goal-is
      ∙ sym (applies-declared (length t.starts) (length t.modes) (sizes_of t.modes) (sizes-many t) goal goal-ok x)

-- ---- an accepted file and a plan
module _ {file plan : List ℕ} {count steps : ℕ} (input : AcceptedPlan file plan count steps) {r : Declared} {start : List ℤ} {sizes modes : List ℕ}
    (stored : RestrictedStored file (replicate VARIABLES (pos 0)) (replicate MODES 0) (replicate MODES 0) r start sizes modes) where
  whole : judging_from (task_in file) (plan_numbers plan) 0 (declared_of (task_in file) (state_of start modes))
      ≡ judge_restricted_task (task_in file) (plan_numbers plan)
  whole = ap (judge (length (task_in file).actions) (step_restricted (task_in file)) (restricted_goal_holds (task_in file)) 0 (plan_numbers plan))
      (start_is_lem file input.accepted stored)

  -- a step was refused
  pub judged-ended : {refusal : Refusal} {y : State} → Walked file plan steps (state_of start modes) (Err refusal) y
      → refusal_is refusal ≡ judge_restricted_task (task_in file) (plan_numbers plan)
  judged-ended w = w.judged ∙ whole

  -- all steps were taken: the goal decides
  module _ {values' : List ℤ} {modes' : List ℕ} (w : Walked file plan steps (state_of start modes) (Ok tt) (state_of values' modes'))
      {bytes marks : List ℕ} {numbers : List ℤ} (part : bytes ≡ goal_part file count)
      (says : Says (fitting_restricted (restricted_action_of (decode_action bytes))) marks numbers) (b : Bool)
      (met : b ≡ applies_restricted (row_is marks numbers) (state_of values' modes')) where
    abbrev end : State
    end = declared_of (task_in file) (state_of values' modes')

    ends : cond b (given (steps, end)) (refused 13 steps) ≡ judge_restricted_task (task_in file) (plan_numbers plan)
    ends =
        ap (λ (t : Bool). cond {A = Answer (ℕ × State)} t (given (steps, end)) (refused 13 steps)) (met ∙ goal-met input part says (state_of values' modes'))
        ∙ sym (judging-ends (task_in file) (plan_numbers plan) steps end (omega (arith, input.steps_are)))
        ∙ w.judged ∙ whole

    pub judged-unmet : b ≡ false → refused 13 steps ≡ judge_restricted_task (task_in file) (plan_numbers plan)
    judged-unmet f = rw f at ends

    pub judged-valid : b ≡ true → (given steps, state_of values' modes') ≡ judgement_of (judge_restricted_task (task_in file) (plan_numbers plan))
    judged-valid t = (λ i. (given steps, state_of (v i) (x i))) ∙ ap judgement_of (rw t at ends)
      where
        S : StandingIn (task_in file) (state_of start modes)
        S = start-standing file input.accepted stored

        B : Beyond (length (task_in file).starts) (replicate VARIABLES (pos 0)) values'
        B = beyond-then (beyond-starts file input.accepted stored) w.spared.values

        C : Beyond (length (task_in file).modes) (replicate MODES 0) modes'
        C = beyond-then (beyond-modes file input.accepted stored) w.spared.modes

        few-values : length (take (length (task_in file).starts) values') ≡ length (task_in file).starts
        few-values = length-take-le (length (task_in file).starts) values' (omega (arith, w.spared.values.long, S.values_long))

        few-modes : length (take (length (task_in file).modes) modes') ≡ length (task_in file).modes
        few-modes = length-take-le (length (task_in file).modes) modes' (omega (arith, w.spared.modes.long, S.modes_long, sizes-many (task_in file)))

        v : values' ≡ take (length (task_in file).starts) values' ++ drop (length (take (length (task_in file).starts) values')) (replicate VARIABLES (pos 0))
        v = sym (take-append-drop (length (task_in file).starts) values')
            ∙ ap (λ (l : List ℤ). take (length (task_in file).starts) values' ++ l)
            (B.rest ∙ ap (λ (k : ℕ). drop k (replicate VARIABLES (pos 0))) (sym few-values))

        x : modes' ≡ take (length (task_in file).modes) modes' ++ drop (length (take (length (task_in file).modes) modes')) (replicate MODES 0)
        x = sym (take-append-drop (length (task_in file).modes) modes')
            ∙ ap (λ (l : List ℕ). take (length (task_in file).modes) modes' ++ l) (C.rest ∙ ap (λ (k : ℕ). drop k (replicate MODES 0)) (sym few-modes))

-- ---- judging from bytes: the file's refusals, those of the plan's bytes, then the judge
module _ (file plan : List ℕ) where
  abbrev on_task : RestrictedTask → Answer (ℕ × State)
  on_task t = then (read_plan plan) (judge_restricted_task t)

  pub judged-rejected : {number place : ℕ} → rejected number place ≡ verdict_of restricted_limits file → refused number place ≡ judge_restricted file plan
  judged-rejected e = ap (λ (a : Answer RestrictedTask). then a on_task) (file-rejected file e)

  module _ {v m a : ℕ} (e : accepted v m a ≡ verdict_of restricted_limits file) where
    on-task : then (read_plan plan) (judge_restricted_task (task_in file)) ≡ judge_restricted file plan
    on-task = ap (λ (a : Answer RestrictedTask). then a on_task) (sym (file-accepted file e))

    pub judged-no-plan : {number place : ℕ} → refused number place ≡ count_of plan → refused number place ≡ judge_restricted file plan
    judged-no-plan {number} {place} c =
        ap (λ (p : Answer (List ℕ)). then p (judge_restricted_task (task_in file))) (sym (no_steps plan number place c)) ∙ on-task

    pub judged-task : {steps : ℕ} → given steps ≡ count_of plan → judge_restricted_task (task_in file) (plan_numbers plan) ≡ judge_restricted file plan
    judged-task {steps} c = ap (λ (p : Answer (List ℕ)). then p (judge_restricted_task (task_in file))) (sym (steps_of plan steps c).0) ∙ on-task

    pub accepted-plan : {steps : ℕ} → Bytes file → given steps ≡ count_of plan → AcceptedPlan file plan a steps
    accepted-plan {steps} bytes c = record {
      bytes = bytes;
      accepted = file-accepted file e;
      count_is = actions-counted file bytes e;
      steps_are = (steps_of plan steps c).1;
      long = omega (arith, (steps_of plan steps c).1, halves_long plan);
      few = few-steps plan steps c;
    }
