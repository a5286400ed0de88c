-- The reasons of refusals by document 01's numbers, and what a call answers in the words of the definitions.
-- Assumes nothing.
use Rattle.std.specs.Prelude.{◌≡◌, ◌≢◌, ℕ, List, ◌++◌, Result, Ok, Err}
use lib.Chars.{codes}
use Rattle.std.specs.Fmt.{decimal}
use Rattle.answers.specs.Answer.{Answer, given, refused}
use Rattle.answers.specs.declared.Reason.{Reason}
use Rattle.answers.specs.declared.Reason.TheVariants.{NotAllowed, CutShort, BytesBehind, OverLimit, Undeclared, OutOfRange, NamedTwice}
use Rattle.answers.specs.declared.Reason.TheVariants.{OutputShort, OverMillion, PlanLength, NoAction, DoesNotApply, GoalNotMet, SumWithoutTerm}
use Rattle.answers.specs.declared.Refusal.{Refusal}
use Rattle.answers.specs.declared.UnknownNumber.{UnknownNumber}

abbrev pub number_of : Reason → ℕ
number_of NotAllowed = 1
number_of CutShort = 2
number_of BytesBehind = 3
number_of OverLimit = 4
number_of Undeclared = 5
number_of OutOfRange = 6
number_of NamedTwice = 7
number_of OutputShort = 8
number_of OverMillion = 9
number_of PlanLength = 10
number_of NoAction = 11
number_of DoesNotApply = 12
number_of GoalNotMet = 13
number_of SumWithoutTerm = 14

-- a number is a reason's, or it is none of theirs
abbrev pub Numbered : ℕ → Result Reason UnknownNumber → Type 0
Numbered number (Ok reason) = number ≡ number_of reason
Numbered number (Err _) = (reason : Reason) → number ≢ number_of reason

abbrev pub refusal_at : Reason → ℕ → Refusal
refusal_at reason place = record { reason = reason; place = place }

-- the word and the two numbers, as a refusal is printed
abbrev pub printed : Refusal → List ℕ
printed r = codes "refused " ++ (decimal (number_of r.reason) ++ (codes " " ++ decimal r.place))

-- a refusal, and what a call answers whose result says a value of the definitions
abbrev pub refusal_is : {A : Type 0} → Refusal → Answer A
refusal_is r = refused (number_of r.reason) r.place

abbrev pub answer_by : {A B : Type 0} → (A → B) → Result A Refusal → Answer B
answer_by f (Ok a) = given (f a)
answer_by f (Err r) = refusal_is r

-- what a call answers whose result is itself a value of the definitions
abbrev pub answer_of : {A : Type 0} → Result A Refusal → Answer A
answer_of (Ok a) = given a
answer_of (Err r) = refusal_is r
