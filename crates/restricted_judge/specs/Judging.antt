-- Judging a restricted plan: what the answers say, and what the parts of the judge keep.
-- Assumes nothing.
use Rattle.std.specs.Prelude.{◌≡◌, ℕ, ◌*◌, ◌≤◌, List, length, drop, replicate, pos, Result, Ok, Err, ⊤}
use Rattle.integers.specs.Numbers.{Bytes}
use Rattle.answers.specs.Answer.{Answer, given, refused}
use Rattle.model.specs.Tasks.{RestrictedTask, State}
use Rattle.model.specs.Decoding.{read_restricted}
use Rattle.model.specs.Plans.{plan_numbers}
use Rattle.model.specs.Steps.{step_restricted, restricted_goal_holds}
use Rattle.model.specs.Judging.{judge, with_rest}
use Rattle.restricted_step.specs.Sizes.{VARIABLES, MODES}
use Rattle.restricted_step.specs.Steps.{state_of}
use Rattle.restricted_step.specs.Whole.{task_in, declared_of, SparedIn}
use Rattle.restricted_state.specs.Step.{whole_is}
use Rattle.answers.specs.Refusals.{refusal_is, answer_of}
use Rattle.answers.specs.declared.Refusal.{Refusal}
use Rattle.restricted_judge.specs.declared.Judgement.{Judgement}

-- ---- the count of steps or the refusal; and the end state in front of zeros, or zeros alone on a refusal
abbrev pub zeros : State
zeros = state_of (replicate VARIABLES (pos 0)) (replicate MODES 0)

abbrev pub judgement_is : Judgement → Answer ℕ × State
judgement_is r = (answer_of r.verdict, whole_is r.state)

abbrev pub judgement_of : Answer (ℕ × State) → Answer ℕ × State
judgement_of (given v) = (given v.0, with_rest (length v.1.values) (length v.1.modes) zeros v.1)
judgement_of (refused number place) = (refused number place, zeros)

-- the same, where the refusal stands for its judgement
abbrev pub judged_is : Result Judgement Refusal → Answer ℕ × State
judged_is (Ok r) = judgement_is r
judged_is (Err r) = (refusal_is r, zeros)

-- ---- the whole plan: all steps are taken, or one is refused
abbrev pub walk_is : Result ⊤ Refusal → Answer (ℕ × State) → Answer (ℕ × State)
walk_is (Ok _) a = a
walk_is (Err r) a = refusal_is r

-- a file that is accepted, and a plan
pub record AcceptedPlan (file plan : List ℕ) (count steps : ℕ) : Type 0 where
  pub bytes : Bytes file
  pub accepted : read_restricted file ≡ given (task_in file)
  pub count_is : count ≡ length (task_in file).actions
  pub steps_are : steps ≡ length (plan_numbers plan)
  pub long : 2 * steps ≤ length plan
  pub few : steps ≤ 1000000

-- what comes of the steps of a plan from step i on, from state x
abbrev pub judging_from : RestrictedTask → List ℕ → ℕ → State → Answer (ℕ × State)
judging_from t plan i x = judge (length t.actions) (step_restricted t) (restricted_goal_holds t) i (drop i plan) x

-- what stands beyond the task's variables and modes is as before, where the walk goes through
abbrev pub WalkSpared : Result ⊤ Refusal → RestrictedTask → State → State → Type 0
WalkSpared (Ok _) t x y = SparedIn t x y
WalkSpared (Err r) t x y = Unit {0}

pub record Walked (file plan : List ℕ) (steps : ℕ) (x : State) (r : Result ⊤ Refusal) (y : State) : Type 0 where
  pub judged : walk_is r (judging_from (task_in file) (plan_numbers plan) steps (declared_of (task_in file) y))
      ≡ judging_from (task_in file) (plan_numbers plan) 0 (declared_of (task_in file) x)
  pub spared : WalkSpared r (task_in file) x y
