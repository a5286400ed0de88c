-- What a step taken by itself answers, in the words of the model.
-- Assumes nothing.
use Rattle.std.specs.Prelude.{◌≡◌, ℕ, ◌≤◌, List, ℤ, Result, Ok, Err, ⊤}
use Rattle.std.proofs.Math.ListN.{get_elem?}
use Rattle.std.proofs.Math.Option.{some}
use Rattle.file_declarations.specs.declared.Declared.{Declared}
use Rattle.file_declarations.specs.Holding.{HoldsSource}
use Rattle.source_step.specs.Sizes.{VARIABLES, MODES}
use Rattle.source_step.specs.Row.{RowOf}
use Rattle.answers.specs.Answer.{Answer, given, refused}
use Rattle.model.specs.Tasks.{SourceTask, SourceAction, State}
use Rattle.model.specs.Decoding.{read_source}
use Rattle.model.specs.Limits.{source_limits}
use Rattle.model.specs.Judging.{step_source_alone}
use Rattle.file_actions.specs.Places.{BytesOfAction}
use Rattle.answers.specs.Refusals.{refusal_is}
use Rattle.answers.specs.declared.Refusal.{Refusal}
use Rattle.source_state.specs.declared.StepAnswer.{StepAnswer}
use Rattle.source_state.specs.Step.{whole_is}

abbrev pub verdict_over : Result ⊤ Refusal → State → Answer State
verdict_over (Ok _) y = given y
verdict_over (Err r) y = refusal_is r

-- an answer, and beside it the state that comes back
abbrev pub step_answer_is : StepAnswer → Answer State × State
step_answer_is r = (verdict_over r.verdict (whole_is r.state), whole_is r.state)

-- the state after, or on a refusal the state x that was handed in
abbrev pub state_back : State → Answer State → State
state_back x (given y) = y
state_back x (refused number place) = x

abbrev pub returned : State → Answer State → Answer State × State
returned x a = (a, state_back x a)

-- a step of the action that has these bytes was taken by itself in a state of the task of an accepted file
pub record StepTaken (file bytes : List ℕ) (x : State) (r : StepAnswer) : Type 0 where
  pub meets : (k : ℕ) → BytesOfAction source_limits file k bytes → step_answer_is r ≡ returned x (step_source_alone file x k)

-- the rows of the action that has these bytes, of an accepted file, and of its own conditions on sums were made
pub record RowRead (file bytes : List ℕ) (marks : List ℕ) (numbers sums : List ℤ) (r : Declared) : Type 0 where
  pub lower : List ℤ
  pub upper : List ℤ
  pub start : List ℤ
  pub sizes : List ℕ
  pub first : List ℕ
  pub action : SourceAction
  pub row : RowOf r.variables r.modes lower upper sizes marks numbers sums action
  pub few : (r.variables ≤ VARIABLES) × (r.modes ≤ MODES)
  pub holds : (t : SourceTask) → read_source file ≡ given t → HoldsSource t r lower upper start sizes first
  pub found : (t : SourceTask) → read_source file ≡ given t → (k : ℕ) → BytesOfAction source_limits file k bytes → get_elem? t.actions k ≡ some action
