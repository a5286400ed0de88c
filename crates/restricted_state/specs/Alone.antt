-- A step by itself: what the answer says.
-- Assumes nothing.
use Rattle.std.specs.Prelude.{◌≡◌, ℕ, List, Result, Ok, Err, ⊤}
use Rattle.std.proofs.Math.Option.{Option, none, some}
use Rattle.answers.specs.Answer.{Answer, given, refused}
use Rattle.model.specs.Tasks.{State}
use Rattle.model.specs.Limits.{restricted_limits}
use Rattle.model.specs.Judging.{step_restricted_alone}
use Rattle.file_actions.specs.Places.{BytesOfAction}
use Rattle.answers.specs.Refusals.{number_of}
use Rattle.answers.specs.declared.Refusal.{Refusal}
use Rattle.restricted_state.specs.declared.StepAnswer.{StepAnswer}
use Rattle.restricted_state.specs.Step.{whole_is}

-- the refusal, or none where the action applied; and the state after the step, or the state before on a refusal
abbrev pub refusal_is : Result ⊤ Refusal → Option (ℕ × ℕ)
refusal_is (Ok _) = none
refusal_is (Err r) = some (number_of r.reason, r.place)

abbrev pub step_answer_is : StepAnswer → Option (ℕ × ℕ) × State
step_answer_is r = (refusal_is r.verdict, whole_is r.state)

abbrev pub step_answer_of : State → Answer State → Option (ℕ × ℕ) × State
step_answer_of x (given y) = (none, y)
step_answer_of x (refused number place) = (some (number, place), x)

-- the action that has these bytes, of an accepted file, was taken from a state
pub record StepTaken (file bytes : List ℕ) (x : State) (r : StepAnswer) : Type 0 where
  pub meets : (k : ℕ) → BytesOfAction restricted_limits file k bytes → step_answer_is r ≡ step_answer_of x (step_restricted_alone file x k)
