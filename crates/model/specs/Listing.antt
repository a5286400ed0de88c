-- Document 01, "The listing program": its whole output, as bytes of ASCII text, for every task.bin and plan.bin.
-- Assumes nothing.
use Rattle.std.specs.Prelude.{ℕ, zero, suc, ◌+◌, ◌/◌, ◌%◌, Bool, true, false, cond, List, [], ◌∷◌, ◌++◌, ltb, length, ℤ, pos, negsuc}
use Rattle.std.proofs.Math.Option.{Option, none, some}
use Rattle.answers.specs.Answer.{Answer, given, refused, then}
use Rattle.model.specs.Tasks.{SourceTask, State}
use Rattle.model.specs.Decoding.{read_source}
use Rattle.model.specs.Plans.{read_plan}
use Rattle.model.specs.Steps.{step_source, source_start}
use Rattle.model.specs.Expansion.{price_from}
use Rattle.model.specs.Judging.{judge_source_task, price_task}

-- ---- numbers in decimal
-- the second is computed only where it is chosen
abbrev pub unless : Bool → List ℕ → (Unit {0} → List ℕ) → List ℕ
unless true a b = a
unless false a b = b tt

-- the digits of n, the most significant first, in at most so many places
unfoldable pub digits : ℕ → ℕ → List ℕ
digits zero n = []
digits (suc places) n = unless (ltb n 10) ((48 + n) ∷ []) (λ _. digits places (n / 10) ++ ((48 + n % 10) ∷ []))

-- no number has more digits than one more than itself
unfoldable pub decimal : ℕ → List ℕ
decimal n = digits (suc n) n

-- "a negative number has a leading minus"
unfoldable pub decimal_signed : ℤ → List ℕ
decimal_signed (pos n) = decimal n
decimal_signed (negsuc n) = 45 ∷ decimal (suc n)

-- ---- lines: "Fields stand one space apart", "each line ends in a line feed"
abbrev pub fields_of : List ℤ → List ℕ
fields_of [] = 10 ∷ []
fields_of (z ∷ zs) = 32 ∷ (decimal_signed z ++ fields_of zs)

-- "step action cost values"
abbrev pub header : List ℕ
header = 115 ∷ 116 ∷ 101 ∷ 112 ∷ 32 ∷ 97 ∷ 99 ∷ 116 ∷ 105 ∷ 111 ∷ 110 ∷ 32 ∷ 99 ∷ 111 ∷ 115 ∷ 116 ∷ 32 ∷ 118 ∷ 97 ∷ 108 ∷ 117 ∷ 101 ∷ 115 ∷ 10 ∷ []

-- "step number, action, step price, all variables after it"
unfoldable pub step_line : ℕ → ℕ → ℕ → State → List ℕ
step_line i k price y = decimal i ++ fields_of (pos k ∷ pos price ∷ y.values)

-- the lines of steps from step i on
abbrev pub or_no_lines : Option State → (State → List ℕ) → List ℕ
or_no_lines none f = []
or_no_lines (some y) f = f y

unfoldable pub step_lines : SourceTask → ℕ → List ℕ → State → List ℕ
step_lines t i [] x = []
step_lines t i (k ∷ ks) x = or_no_lines (step_source t x k) (λ y. step_line i k (price_from t.actions x k) y ++ step_lines t (suc i) ks y)

-- "last, `goal` and total price"
abbrev pub goal_line : ℕ → List ℕ
goal_line total = 103 ∷ 111 ∷ 97 ∷ 108 ∷ fields_of (pos total ∷ [])

-- "On a refusal the whole output is the one line `refused`, number, place."
abbrev pub refused_line : ℕ → ℕ → List ℕ
refused_line number place = 114 ∷ 101 ∷ 102 ∷ 117 ∷ 115 ∷ 101 ∷ 100 ∷ fields_of (pos number ∷ pos place ∷ [])

-- ---- the listing of a task and a plan
abbrev pub listed : List ℕ → List ℕ → Answer (List ℕ)
listed file plan =
    then (read_source file)
    (λ t. then (read_plan plan)
    (λ p. then (judge_source_task t p)
    (λ v. then (price_task t false p)
    (λ total. given (header ++ (step_lines t 0 p (source_start t) ++ goal_line total))))))

abbrev pub text_of : Answer (List ℕ) → List ℕ
text_of (given text) = text
text_of (refused number place) = refused_line number place

unfoldable pub listing : List ℕ → List ℕ → List ℕ
listing file plan = text_of (listed file plan)

-- ---- the program. `none`: a file that can't be opened
-- "no file"
abbrev pub no_file : List ℕ
no_file = 110 ∷ 111 ∷ 32 ∷ 102 ∷ 105 ∷ 108 ∷ 101 ∷ 10 ∷ []

-- "too large"
abbrev pub too_large : List ℕ
too_large = 116 ∷ 111 ∷ 111 ∷ 32 ∷ 108 ∷ 97 ∷ 114 ∷ 103 ∷ 101 ∷ 10 ∷ []

-- "task.bin (up to 16,384 bytes) and plan.bin (up to 32,768)"
unfoldable pub listing_program_of : Option (List ℕ) → Option (List ℕ) → List ℕ
listing_program_of none plan = no_file
listing_program_of (some task) none = no_file
listing_program_of (some task) (some plan) = cond (ltb 16_384 (length task)) too_large (cond (ltb 32_768 (length plan)) too_large (listing task plan))
