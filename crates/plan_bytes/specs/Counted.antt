-- How many steps a plan has.
-- Assumes nothing.
use Rattle.std.specs.Prelude.{ℕ, List, length}
use Rattle.answers.specs.Answer.{Answer, given, then}
use Rattle.model.specs.Plans.{read_plan}

-- the count of a plan's steps, or its refusal
abbrev pub count_of : List ℕ → Answer ℕ
count_of plan = then (read_plan plan) (λ p. given (length p))
