-- The answers of the judge, in the words of the model.
-- Assumes nothing.
use Rattle.std.specs.Prelude.{ℕ, Bool, cond, length, replicate, pos, Result, Ok, Err, ⊤}
use Rattle.answers.specs.Answer.{Answer, given, refused}
use Rattle.model.specs.Tasks.{State}
use Rattle.model.specs.Judging.{with_rest}
use Rattle.answers.specs.Refusals.{refusal_is, answer_of}
use Rattle.answers.specs.declared.Refusal.{Refusal}
use Rattle.answers.specs.declared.Reason.TheVariants.{GoalNotMet}
use Rattle.source_walk.specs.declared.Judgement.{Judgement}
use Rattle.source_step.specs.Sizes.{VARIABLES, MODES}
use Rattle.source_step.specs.Step.{state}
use Rattle.source_state.specs.Step.{whole_is}

-- what a plan comes to, from what its steps come to and what follows them
abbrev pub on_progress : {A : Type 0} → Result ⊤ Refusal → Answer A → Answer A
on_progress (Ok _) a = a
on_progress (Err r) a = refusal_is r

abbrev pub last_verdict : Result ⊤ Refusal → Bool → ℕ → Result ℕ Refusal
last_verdict (Ok _) met steps = cond met (Ok steps) (Err (record { reason = GoalNotMet; place = steps }))
last_verdict (Err r) met steps = Err r

-- what is handed back on a refusal
abbrev pub zeros : State
zeros = state (replicate VARIABLES (pos 0)) (replicate MODES 0)

-- the count of steps or the refusal, and beside it the whole arrays
abbrev pub judgement_is : Judgement → Answer ℕ × State
judgement_is j = (answer_of j.verdict, whole_is j.state)

-- the end state in front of zeros, or zeros alone on a refusal
abbrev pub judgement_of : Answer (ℕ × State) → Answer ℕ × State
judgement_of (given v) = (given v.0, with_rest (length v.1.values) (length v.1.modes) zeros v.1)
judgement_of (refused number place) = (refused number place, zeros)

-- a verdict over the arrays at the end
abbrev pub with_state : Result ℕ Refusal → State → Answer ℕ × State
with_state (Ok steps) x = (given steps, x)
with_state (Err r) x = (refusal_is r, zeros)

-- a plan with a verdict, at a price
abbrev pub priced_by : Result ℕ Refusal → ℕ → Answer ℕ
priced_by (Ok steps) price = given price
priced_by (Err r) price = refusal_is r
