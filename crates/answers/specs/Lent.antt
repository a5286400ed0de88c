-- What a call that fills lent output answers and leaves: the clause that its contract states.
-- Assumes nothing.
use Rattle.std.specs.Prelude.{◌≡◌, ℕ, List, Result}
use Rattle.answers.specs.Answer.{Answer, lent}
use Rattle.answers.specs.Refusals.{answer_of}
use Rattle.answers.specs.declared.Refusal.{Refusal}

-- of output that held `old`, the call answers `r` and leaves `after`, as `lent` says of the answer that the definitions give
pub record Lent (old : List ℕ) (answer : Answer (List ℕ)) (after : List ℕ) (r : Result ℕ Refusal) : Type 0 where
  pub meets : (answer_of r, after) ≡ lent old answer
