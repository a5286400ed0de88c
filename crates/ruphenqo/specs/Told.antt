-- What a caller in C is told of an answer: 0 or the refusal's number, returned; the refusal's place, and 0 where there is none, behind a pointer;
-- results through further pointers, which a refusal leaves as they were.
-- Assumes nothing.
use Rattle.std.specs.Prelude.{◌≡◌, ℕ, List, [], ◌∷◌, ◌++◌, length, drop, ℤ}
use Rattle.answers.specs.Answer.{Answer, given, refused}
use Rattle.model.specs.Tasks.{State}
use Rattle.model.specs.Reading.{Verdict, Accepted, Rejected}

abbrev pub code_of : {A : Type 0} → Answer A → ℕ
code_of (given a) = 0
code_of (refused number place) = number

abbrev pub place_of : {A : Type 0} → Answer A → ℕ
place_of (given a) = 0
place_of (refused number place) = place

-- what stands behind the further pointers after the call: what `f` makes of the result, or on a refusal what stood there before
abbrev pub result_or : {A B : Type 0} → B → (A → B) → Answer A → B
result_or old f (given a) = f a
result_or old f (refused number place) = old

-- of an answer, the call returns `code` and leaves `place` and `after` where `old` was
pub record Told {A B : Type 0} (answer : Answer A) (f : A → B) (old : B) (code place : ℕ) (after : B) : Type 0 where
  pub returns : code ≡ code_of answer
  pub placed : place ≡ place_of answer
  pub stored : after ≡ result_or old f answer

-- ---- the results
-- reading: the counts of variables, modes and actions
abbrev pub counts_of : Verdict → Answer (List ℕ)
counts_of (Accepted variables modes actions) = given (variables ∷ modes ∷ actions ∷ [])
counts_of (Rejected number place) = refused number place

abbrev pub itself : {A : Type 0} → A → A
itself a = a

-- the state in two arrays
abbrev pub state_of : List ℤ → List ℕ → State
state_of values modes = record { values = values; modes = modes }

-- in front of zeros: as a list stands in an array that has room for more, and a state in two
abbrev pub over : {A : Type 0} → List A → List A → List A
over zeros l = l ++ drop (length l) zeros

abbrev pub state_over : State → State → State
state_over zeros x = state_of (over zeros.values x.values) (over zeros.modes x.modes)

-- judging: the count of steps, and the end state in front of zeros
abbrev pub end_over : State → ℕ × State → ℕ × State
end_over zeros v = (v.0, state_over zeros v.1)
