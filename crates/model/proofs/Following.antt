-- PROJECTING FOLLOWS SOURCE STEPS: for every file and plan, judging the plan against R and keeping its source numbers answers what comparing the
-- plan with the numbers of each source step answers.
-- Assumes nothing.
use mathlib.Core.Path.{◌≡◌, refl, sym, ap, ap₂, ◌∙◌, subst}
use Prim.Native.Nat.{ℕ, ◌%◌, ◌≤◌}
use native.Mathlib.Omega.{arith}
use mathlib.Core.Bool.{◌&&◌, Bool, true, false, not, cond}
use mathlib.Core.Option.{Option, none, some}
use mathlib.Core.List.{List, ◌∷◌}
use lib.ListN.{length}
use lib.Dec.{T, eqb, ltb, nltb→le}
use lib.IntN.{ℤ}
use Rattle.integers.specs.All.{All}
use Rattle.answers.specs.Answer.{Answer, given, refused, then}
use Rattle.lists.proofs.Numbers.{length-halves}
use Rattle.model.specs.Tasks.{SourceAction, SourceTask, RestrictedTask, State}
use Rattle.model.specs.Steps.{source_step_of, restricted_step_of, sound_source, sound_restricted, sizes_of, lower_bounds, upper_bounds, source_start}
use Rattle.model.specs.Steps.{step_source, source_goal_holds, restricted_start, restricted_goal_holds}
use Rattle.model.specs.Stages.{NamedAction, lower_actions, opening, source_number, hold_count}
use Rattle.model.specs.Lowering.{helpers_at_rest, lower_measuring, lower_task, lower_file, rest_state}
use Rattle.model.specs.Expansion.{project_task}
use Rattle.model.specs.NamedSystems.{NamedState, NamedSource, by_name, at_rest, step_named, step_named_source, stage_steps, price_at, dead_end_steps}
use Rattle.model.specs.Decoding.{read_source, read_restricted}
use Rattle.model.specs.Plans.{plan_bytes_of, plan_numbers, read_plan}
use Rattle.model.specs.Judging.{judge, judge_restricted_task, project_bytes}
use Rattle.model.specs.InTask.{ActionIn, Distinct, targets}
use Rattle.model.specs.TaskOk.{SourceTaskOk}
use Rattle.model.specs.Following.{project_over, macro_numbers, dead_end_numbers, opens, project_from}
use Rattle.model.proofs.Answers.{Gives, given-injective}
use Rattle.model.proofs.StageWalk.{Rest, all_map}
use Rattle.model.proofs.Arrays.{modes-laid-hold}
use Rattle.model.proofs.Outcomes.{Good}
use Rattle.model.proofs.NumberedPairing.{Agree, RestrictedAgrees, restricted-steps-agree, lower_in_lem, SourceAgrees, source-steps-agree, rest-agrees, goal-conds}
use Rattle.model.proofs.StepBounds.{within-is-sound}
use Rattle.model.proofs.Guards.{guard-step}
use Rattle.model.proofs.GuardedPairing.{WithinBounds, within-bounds-is-sound, step-within-bounds}
use Rattle.model.proofs.AcceptedPairing.{Accepted}
use Rattle.model.proofs.AcceptedSource.{accepted}
use Rattle.model.proofs.LoweredOk.{lowered-task-ok, lowered-length}
use Rattle.model.proofs.Figure.{Within, start-within, steps-within}
use Rattle.model.proofs.LoweredPairing.{Kept, kept-steps, kept-goals, rest-of-start}
use Rattle.model.proofs.ReadsBack.{reads-back}
use Rattle.model.proofs.AcceptedOk.{accepted-source-ok}
use Rattle.model.proofs.FollowingWalks.{then-made, judged_as}
use Rattle.model.proofs.FollowingPlans.{judging-is-following}
use Rattle.model.proofs.FollowingAgrees.{judges-agree, projections-agree, guarded-judge}
use Rattle.model.proofs.FollowingNamed.{opens_named, goal_named, goal_lowered, named-projects}

module _ (t : SourceTask) (S : SourceTaskOk t) where
  abbrev n : ℕ
  n = length t.variables

  abbrev holds : ℕ
  holds = hold_count t.actions

  abbrev m : ℕ
  m = length t.modes

  abbrev lo : ℕ → ℤ
  lo = lower_bounds t

  abbrev hi : ℕ → ℤ
  hi = upper_bounds t

  abbrev sizes : List ℕ
  sizes = sizes_of t.modes

  abbrev R : List NamedAction
  R = lower_actions lo hi 1 t.actions

  abbrev own : ℕ → Option ℕ
  own = source_number lo hi t.actions

  A : Accepted n holds m lo hi t.actions sizes t.goal_modes t.goal_conditions (source_start t)
  A = accepted t S

  -- ---- the source: numbered states within their bounds go with the named ones
  abbrev Same : State → NamedSource → Type 0
  Same x s = WithinBounds n m lo hi sizes x × (s ≡ by_name x)

  inside : (x y : State) (k : ℕ) → WithinBounds n m lo hi sizes x → source_step_of lo hi t.actions x k ≡ some y → WithinBounds n m lo hi sizes y
  inside = step-within-bounds n holds m lo hi t.actions A.actions_in sizes A.sizes_length A.sets

  steps-same : (x : State) (s : NamedSource) (k : ℕ) → Same x s → Agree Same (step_source t x k) (step_named_source lo hi t.actions s k)
  steps-same x s k (w, e) = subst (λ (o : Option State). Agree Same o (step_named_source lo hi t.actions s k))
      (sym (guard-step (sound_source lo hi sizes) (source_step_of lo hi t.actions) (WithinBounds n m lo hi sizes) inside (within-bounds-is-sound n m lo hi sizes) x k w))
      (go (source_step_of lo hi t.actions x k) refl (step_named_source lo hi t.actions s k)
      (source-steps-agree n holds m lo hi t.actions A.actions_in x s k (w.0, w.1, e)))
    where
      go : (o : Option State) → source_step_of lo hi t.actions x k ≡ o → (o' : Option NamedSource) → Agree (SourceAgrees n m) o o' → Agree Same o o'
      go none q none a = tt
      go none q (some s') a = absurd a
      go (some y) q none a = absurd a
      go (some y) q (some s') a = (inside x y k w q, a.2)

  abbrev numbers_of : NamedSource → ℕ → List ℕ
  numbers_of s a = opening lo hi t.actions a ∷ stage_steps lo hi t.actions s a

  abbrev dead_end_of : NamedSource → ℕ → List ℕ
  dead_end_of s a = opening lo hi t.actions a ∷ dead_end_steps lo hi t.actions s a

  all_once : All (λ (a : SourceAction). Distinct (targets a.effects)) t.actions
  all_once = all_map (ActionIn n holds m) (λ (a : SourceAction). Distinct (targets a.effects)) (λ a i. i.targets_once) t.actions A.actions_in

  abbrev goal_t : NamedSource → Bool
  goal_t = goal_named lo hi t.actions all_once t.goal_modes t.goal_conditions

  abbrev opens_t : NamedSource → ℕ → Bool
  opens_t = opens_named lo hi t.actions all_once

  source-side : (count most i : ℕ) (q : List ℕ)
      → project_over count (step_source t) (source_goal_holds t) own (macro_numbers t) (dead_end_numbers t) (opens t) most i q (source_start t)
      ≡ project_over count (step_named_source lo hi t.actions) goal_t own numbers_of dead_end_of opens_t most i q (by_name (source_start t))
  source-side count most i q = projections-agree Same (step_source t) (step_named_source lo hi t.actions) steps-same
      (source_goal_holds t) goal_t (λ x s h. ap goal_t (sym h.1)) count own
      (macro_numbers t) numbers_of (λ x s a h. ap (λ (u : NamedSource). numbers_of u a) (sym h.1))
      (opens t) opens_t (λ x s a h. ap (λ (u : NamedSource). opens_t u a) (sym h.1))
      (dead_end_numbers t) dead_end_of (λ x s a h e f. ap (λ (u : NamedSource). dead_end_of u a) (sym h.1))
      most i q (source_start t) (by_name (source_start t)) ((A.values_length, A.modes_length, A.good, A.below), refl)

  -- ---- R: no plan within the limit passes the figure, and numbered states go with the named ones
  abbrev count : ℕ
  count = length (lower_task t).actions

  abbrev goal_r : State → Bool
  goal_r = restricted_goal_holds (lower_task t)

  abbrev goal_names : NamedState → Bool
  goal_names = goal_lowered lo hi t.actions all_once t.goal_modes t.goal_conditions

  -- R with its sums measured
  abbrev measuring : RestrictedTask
  measuring = lower_measuring t

  goals-same : (x : State) (y : NamedState) → RestrictedAgrees n holds m x y → restricted_goal_holds measuring x ≡ goal_names y
  goals-same x y (L, M) = ap₂ ◌&&◌ (modes-laid-hold m t.goal_modes x.modes y.mode y.control 0 A.goal_modes_in M)
      (goal-conds n holds m lo hi t.goal_conditions A.goal_conditions_in x.values y.value L)

  -- with its sums kept, with its sums measured, by names
  R-side : (c q : List ℕ) → length q ≤ 1_000_000
      → then (judge_restricted_task (lower_task t) q) (λ v. given c) ≡ judged_as count (step_named R) goal_names c 0 q (at_rest (by_name (source_start t)))
  R-side c q l =
      let F = lowered-task-ok t S in
      ap (λ (a : Answer (ℕ × State)). then a (λ v. given c)) (
      guarded-judge count (restricted_step_of (lower_task t).actions) goal_r (sound_restricted (sizes_of (lower_task t).modes)) (Within (lower_task t) F) 1_000_000
      (steps-within (lower_task t) F) (within-is-sound (length (lower_task t).starts) (sizes_of (lower_task t).modes))
      q 0 (restricted_start (lower_task t)) (omega arith) (start-within (lower_task t) F)
      ∙ ap (judge count (restricted_step_of (lower_task t).actions) goal_r 0 q) (sym (rest-of-start t S)))
      ∙ judges-agree (Kept t) (restricted_step_of (lower_task t).actions) (restricted_step_of measuring.actions) (kept-steps t S)
      goal_r (restricted_goal_holds measuring) (kept-goals t S) count c q 0 (rest_state t (source_start t)) (helpers_at_rest holds (source_start t)) (refl, refl)
      ∙ judges-agree (RestrictedAgrees n holds m) (restricted_step_of measuring.actions) (step_named R)
      (restricted-steps-agree n holds m R (lower_in_lem n holds m lo hi t.actions 1 A.actions_in))
      (restricted_goal_holds measuring) goal_names goals-same count c q 0 (helpers_at_rest holds (source_start t)) (at_rest (by_name (source_start t)))
      (rest-agrees n holds m lo hi (source_start t) A.values_length A.modes_length)

  -- judging a plan against R and projecting it, of an accepted task
  pub task-follows : (q : List ℕ) → length q ≤ 1_000_000
      → then (judge_restricted_task (lower_task t) q) (λ v. given (project_task t q)) ≡ project_from t (length q) 0 q (source_start t)
  task-follows q l = R-side (project_task t q) q l ∙ subst Statement (sym (lowered-length t)) named ∙ sym (source-side count (length q) 0 q)
    where
      Statement : ℕ → Type 0
      Statement k = judged_as k (step_named R) goal_names (project_task t q) 0 q (at_rest (by_name (source_start t)))
          ≡ project_over k (step_named_source lo hi t.actions) goal_t own numbers_of dead_end_of opens_t (length q) 0 q (by_name (source_start t))

      named : Statement (length R)
      named = judging-is-following (step_named_source lo hi t.actions) (step_named R) Rest at_rest (Good lo hi) (opening lo hi t.actions) own
          (stage_steps lo hi t.actions) (price_at t.actions) (dead_end_steps lo hi t.actions) (length R) goal_t goal_names opens_t
          (named-projects lo hi t.actions all_once t.goal_modes t.goal_conditions) (length q) 0 q (by_name (source_start t)) A.good (omega arith)

-- ---- bytes
plan-length : (plan q : List ℕ) → read_plan plan ≡ given q → length q ≤ 1_000_000
unfolding read_plan
plan-length plan q e = go (eqb (length plan % 2) 1) (ltb 2_000_000 (length plan)) refl e
  where
    go : (a b : Bool) → ltb 2_000_000 (length plan) ≡ b → cond a (refused 10 (length plan)) (cond b (refused 10 (length plan)) (given (plan_numbers plan))) ≡ given q → length q ≤ 1_000_000
    go true b r e = absurd (subst Gives (sym e) tt)
    go false true r e = absurd (subst Gives (sym e) tt)
    go false false r e = omega (arith, ap length (given-injective e), length-halves plan, nltb→le 2_000_000 (length plan) (subst (λ (x : Bool). T (not x)) (sym r) tt))

pub projecting-follows : (file plan : List ℕ)
    → project_bytes file plan ≡ then (read_source file) (λ t. then (read_plan plan) (λ q. then (project_from t (length q) 0 q (source_start t)) (λ p. given (plan_bytes_of p))))
projecting-follows file plan = go (read_source file) refl
  where
    judging : SourceTask → Answer (List ℕ) → RestrictedTask → Answer (List ℕ)
    judging t b r = then b (λ q. then (judge_restricted_task r q) (λ v. given (plan_bytes_of (project_task t q))))

    following : SourceTask → List ℕ → Answer (List ℕ)
    following t q = then (project_from t (length q) 0 q (source_start t)) (λ p. given (plan_bytes_of p))

    planned : (t : SourceTask) → SourceTaskOk t → (b : Answer (List ℕ)) → read_plan plan ≡ b → judging t b (lower_task t) ≡ then b (following t)
    planned t S (given q) r = then-made (judge_restricted_task (lower_task t) q) (project_task t q) plan_bytes_of ∙ ap (λ (a : Answer (List ℕ)). then a (λ p. given (plan_bytes_of p))) (task-follows t S q (plan-length plan q r))
    planned t S (refused number place) r = refl

    go : (a : Answer SourceTask) → read_source file ≡ a → then a (λ t. then (read_restricted (lower_file t)) (judging t (read_plan plan))) ≡ then a (λ t. then (read_plan plan) (following t))
    go (given t) e = let S : SourceTaskOk t = accepted-source-ok file t e in
        ap (λ (a : Answer RestrictedTask). then a (judging t (read_plan plan))) (reads-back (lower_task t) (lowered-task-ok t S)) ∙ planned t S (read_plan plan) refl
    go (refused number place) e = refl
