-- The plans of an accepted task T and of R pair off: those of T and of R with its sums measured do, by names and numbers; keeping the sums carries
-- that over; and the tests on states that the judges make change no run of T, and none of R within the limit, R being a restricted task that keeps to
-- the rules.
-- Assumes nothing.
use mathlib.Core.Path.{◌≡◌, refl, sym, ap, subst}
use Prim.Native.Nat.{ℕ, suc, ◌<◌}
use mathlib.Core.List.{List, [], ◌∷◌, map-append}
use lib.ListN.{length}
use Rattle.integers.specs.All.{All}
use Rattle.model.specs.Walks.{Pairing}
use Rattle.model.specs.Tasks.{NumericCondition, SourceTask, State}
use Rattle.model.specs.Steps.{source_step_of, restricted_step_of, sound_source, sound_restricted, sizes_of, lower_bounds, upper_bounds, source_start, step_source}
use Rattle.model.specs.Steps.{restricted_start, step_restricted, restricted_goal_holds}
use Rattle.model.specs.Stages.{stage_count, hold_count}
use Rattle.model.specs.Sums.{sums_of, with_sums}
use Rattle.model.specs.Lowering.{helpers_at_rest, lower_measuring, lower_task, rest_state}
use Rattle.model.specs.Expansion.{opening_of, source_number_of, stage_steps_of, price_from}
use Rattle.model.specs.InTask.{SourceGoal, LoweredGoal}
use Rattle.model.specs.TaskOk.{ConditionIn, SourceTaskOk, RestrictedTaskOk}
use Rattle.model.proofs.Guards.{pairing-guarded}
use Rattle.model.proofs.GuardedPairing.{WithinBounds, within-bounds-is-sound, step-within-bounds}
use Rattle.model.proofs.NumberedPairing.{Agree, numbered-plans-pair-off}
use Rattle.model.proofs.Sums.{KeepsSums, kept-steps-agree, kept-goals-agree, pairing-carried}
use Rattle.model.proofs.KeptOk.{actions-measure, goal-measures}
use Rattle.model.proofs.StepBounds.{within-is-sound}
use Rattle.model.proofs.AcceptedPairing.{Accepted}
use Rattle.model.proofs.AcceptedSource.{accepted}
use Rattle.model.proofs.LoweredOk.{lowered-task-ok, measuring-task-ok}
use Rattle.model.proofs.Figure.{Within, start-within, steps-within}

-- a state of R, and the same with its sums measured
abbrev pub Kept : SourceTask → State → State → Type 0
Kept t = KeepsSums (length (lower_measuring t).starts) (sums_of (lower_measuring t))

-- the pairing of the plans of T and R, with a goal of T and one of R
abbrev pub PlansPairOff : SourceTask → List (ℕ × ℕ) → List (NumericCondition ℕ) → (State → Type 0) → Type 0
PlansPairOff t gp gc GoalR =
    Pairing (step_source t) (step_restricted (lower_task t)) (rest_state t)
    (opening_of t) (source_number_of t) (stage_steps_of t) (price_from t.actions)
    (source_start t) (SourceGoal gp gc) GoalR 1_000_000

module _ (t : SourceTask) (S : SourceTaskOk t) where
  A : Accepted (length t.variables) (hold_count t.actions) (length t.modes) (lower_bounds t) (upper_bounds t) t.actions (sizes_of t.modes)
      t.goal_modes t.goal_conditions (source_start t)
  A = accepted t S

  pub kept-steps : (X x : State) (k : ℕ) → Kept t X x
      → Agree (Kept t) (restricted_step_of (lower_task t).actions X k) (restricted_step_of (lower_measuring t).actions x k)
  kept-steps =
      let M = measuring-task-ok t S in kept-steps-agree (lower_measuring t) (actions-measure (lower_measuring t) M) (goal-measures (lower_measuring t) M)

  pub kept-goals : (X x : State) → Kept t X x → restricted_goal_holds (lower_task t) X ≡ restricted_goal_holds (lower_measuring t) x
  kept-goals =
      let M = measuring-task-ok t S in kept-goals-agree (lower_measuring t) (actions-measure (lower_measuring t) M) (goal-measures (lower_measuring t) M)

  -- R's start is T's, helpers at rest and sums true
  pub rest-of-start : rest_state t (source_start t) ≡ restricted_start (lower_task t)
  rest-of-start = ap (λ (l : List ℕ). record { values = (lower_task t).starts; modes = l })
      (sym (map-append (λ (p : ℕ × ℕ). p.1) t.modes ((suc (stage_count (lower_bounds t) (upper_bounds t) t.actions), 0) ∷ [])))

  -- DEMAND 3 over lists and numbers, for any goal of T that is declared, and a goal of R that is that goal with control 0
  pub plans-pair-off : (gp : List (ℕ × ℕ)) (gc : List (NumericCondition ℕ))
      → All (λ (p : ℕ × ℕ). p.0 < length t.modes) gp → All (ConditionIn (length t.variables)) gc
      → (GoalR : State → Type 0) → ((X x : State) → Kept t X x → GoalR X → LoweredGoal (length t.modes) gp gc x)
      → ((X x : State) → Kept t X x → LoweredGoal (length t.modes) gp gc x → GoalR X) → PlansPairOff t gp gc GoalR
  plans-pair-off gp gc gp_in gc_in GoalR goal_in goal_out =
      pairing-guarded (source_step_of (lower_bounds t) (upper_bounds t) t.actions) (restricted_step_of (lower_task t).actions) (rest_state t)
      (opening_of t) (source_number_of t) (stage_steps_of t) (price_from t.actions)
      (source_start t) (SourceGoal gp gc) GoalR 1_000_000
      (sound_source (lower_bounds t) (upper_bounds t) (sizes_of t.modes)) (WithinBounds n m (lower_bounds t) (upper_bounds t) (sizes_of t.modes))
      (step-within-bounds n holds m (lower_bounds t) (upper_bounds t) t.actions A.actions_in (sizes_of t.modes) A.sizes_length A.sets)
      (within-bounds-is-sound n m (lower_bounds t) (upper_bounds t) (sizes_of t.modes))
      (A.values_length, A.modes_length, A.good, A.below)
      (sound_restricted (sizes_of (lower_task t).modes)) (Within (lower_task t) R) (steps-within (lower_task t) R)
      (within-is-sound (length (lower_task t).starts) (sizes_of (lower_task t).modes))
      (subst (Within (lower_task t) R 0) (sym rest-of-start) (start-within (lower_task t) R)) carried
    where
      n : ℕ
      n = length t.variables

      m : ℕ
      m = length t.modes

      holds : ℕ
      holds = hold_count t.actions

      R : RestrictedTaskOk (lower_task t)
      R = lowered-task-ok t S

      carried : Pairing (source_step_of (lower_bounds t) (upper_bounds t) t.actions) (restricted_step_of (lower_task t).actions) (rest_state t)
          (opening_of t) (source_number_of t) (stage_steps_of t) (price_from t.actions) (source_start t) (SourceGoal gp gc) GoalR 1_000_000
      carried =
          pairing-carried (source_step_of (lower_bounds t) (upper_bounds t) t.actions) (restricted_step_of (lower_measuring t).actions)
          (restricted_step_of (lower_task t).actions) (Kept t) kept-steps (with_sums (sums_of (lower_measuring t))) (λ X x k. k.1)
          (helpers_at_rest holds) (opening_of t) (source_number_of t) (stage_steps_of t) (price_from t.actions)
          (source_start t) (refl, refl) (SourceGoal gp gc) (LoweredGoal m gp gc) GoalR 1_000_000 goal_in goal_out
          (numbered-plans-pair-off n holds m (lower_bounds t) (upper_bounds t) t.actions A.actions_in gp gc gp_in gc_in (source_start t)
          A.values_length A.modes_length A.good)
