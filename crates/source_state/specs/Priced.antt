-- What pricing answers, in the words of the model.
-- Assumes nothing.
use Rattle.std.specs.Prelude.{◌≡◌, ℕ, List, Result}
use Rattle.model.specs.Tasks.{State}
use Rattle.model.specs.Limits.{source_limits}
use Rattle.model.specs.Judging.{price_step}
use Rattle.file_actions.specs.Places.{BytesOfAction}
use Rattle.answers.specs.Refusals.{answer_of}
use Rattle.answers.specs.declared.Refusal.{Refusal}

-- a step of the action that has these bytes, of an accepted file, was priced by itself
pub record StepPriced (file bytes : List ℕ) (x : State) (r : Result ℕ Refusal) : Type 0 where
  pub meets : (k : ℕ) → BytesOfAction source_limits file k bytes → answer_of r ≡ price_step file x k
