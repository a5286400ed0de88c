-- Document 01, "Worked by hand": the cases marked *, one behind another, and what each says.
-- Assumes nothing.
use Rattle.std.specs.Prelude.{◌≡◌, ℕ, List, [], ◌∷◌, ◌++◌, replicate, ℤ, pos, negsuc}
use Rattle.integers.specs.Division.{quotient_of, residue_of}
use Rattle.answers.specs.Answer.{Answer, given, refused}
use Rattle.model.specs.Tasks.{State}
use Rattle.model.specs.Plans.{plan_bytes_of}
use Rattle.model.specs.Judging.{judge_source, price_plan, lower_bytes, expand_bytes}
use Rattle.model.specs.Listing.{listing}

-- y by c: q, r. A source task and a plan: what judging, pricing, expanding or listing answers. A source task: what lowering answers
pub data Case : Type 0 where
  divides : ℤ → ℤ → ℤ → ℤ → Case
  judged : List ℕ → List ℕ → Answer (ℕ × State) → Case
  priced : List ℕ → List ℕ → Answer ℕ → Case
  expanded : List ℕ → List ℕ → List ℕ → Case
  listed : List ℕ → List ℕ → List ℕ → Case
  lowered : List ℕ → List ℕ → Case

abbrev pub Holds : Case → Type 0
Holds (divides y c q r) = (quotient_of y c ≡ q) × (residue_of y c ≡ r)
Holds (judged file plan answer) = judge_source file plan ≡ answer
Holds (priced file plan answer) = price_plan file plan ≡ answer
Holds (expanded file plan numbers) = expand_bytes file plan ≡ given (plan_bytes_of numbers)
Holds (listed file plan text) = listing file plan ≡ text
Holds (lowered file bytes) = lower_bytes file ≡ given bytes

abbrev pub values : List ℤ → State
values zs = record { values = zs; modes = [] }

abbrev pub first_action : List ℕ
first_action = 0 ∷ 0 ∷ []

-- V 0 9 7; A; Q 0 0 2; G; Z
abbrev pub listing_task : List ℕ
listing_task = 86 ∷ 0 ∷ 0 ∷ 0 ∷ 0 ∷ 9 ∷ 0 ∷ 0 ∷ 0 ∷ 7 ∷ 0 ∷ 0 ∷ 0 ∷ 65 ∷ 81 ∷ 0 ∷ 0 ∷ 2 ∷ 0 ∷ 0 ∷ 0 ∷ 71 ∷ 90 ∷ []

-- V 0 9 4; A; L 0 1; T 0 2; G; Z; and the same with upper 8
abbrev pub doubling : List ℕ
doubling = 86 ∷ 0 ∷ 0 ∷ 0 ∷ 0 ∷ 9 ∷ 0 ∷ 0 ∷ 0 ∷ 4 ∷ 0 ∷ 0 ∷ 0 ∷ 65 ∷ 76 ∷ 0 ∷ 1 ∷ 0 ∷ 0 ∷ 0 ∷ 84 ∷ 0 ∷ 2 ∷ 0 ∷ 0 ∷ 0 ∷ 71 ∷ 90 ∷ []

abbrev pub doubling_to_eight : List ℕ
doubling_to_eight = 86 ∷ 0 ∷ 0 ∷ 0 ∷ 0 ∷ 8 ∷ 0 ∷ 0 ∷ 0 ∷ 4 ∷ 0 ∷ 0 ∷ 0 ∷ 65 ∷ 76 ∷ 0 ∷ 1 ∷ 0 ∷ 0 ∷ 0 ∷ 84 ∷ 0 ∷ 2 ∷ 0 ∷ 0 ∷ 0 ∷ 71 ∷ 90 ∷ []

-- V 0 9 4; G; C 0 ≥ 5; Z
abbrev pub five_from_four : List ℕ
five_from_four = 86 ∷ 0 ∷ 0 ∷ 0 ∷ 0 ∷ 9 ∷ 0 ∷ 0 ∷ 0 ∷ 4 ∷ 0 ∷ 0 ∷ 0 ∷ 71 ∷ 67 ∷ 0 ∷ 2 ∷ 5 ∷ 0 ∷ 0 ∷ 0 ∷ 90 ∷ []

-- G; Z
abbrev pub empty_goal : List ℕ
empty_goal = 71 ∷ 90 ∷ []

-- the listing of the first action of `listing_task`: "step action cost values", "0 0 35 3", "goal 35"
abbrev pub head_line : List ℕ
head_line =
    115 ∷ 116 ∷ 101 ∷ 112 ∷ 32 ∷ 97 ∷ 99 ∷ 116 ∷ 105 ∷ 111 ∷ 110 ∷ 32 ∷ 99 ∷ 111 ∷ 115 ∷ 116 ∷ 32 ∷ 118 ∷ 97 ∷ 108 ∷ 117 ∷ 101 ∷ 115 ∷ 10 ∷ []

abbrev pub step_line : List ℕ
step_line = 48 ∷ 32 ∷ 48 ∷ 32 ∷ 51 ∷ 53 ∷ 32 ∷ 51 ∷ 10 ∷ []

abbrev pub goal_line : List ℕ
goal_line = 103 ∷ 111 ∷ 97 ∷ 108 ∷ 32 ∷ 51 ∷ 53 ∷ 10 ∷ []

abbrev pub marked_cases : List Case
marked_cases =
    divides (pos 7) (pos 2) (pos 3) (pos 1)
    ∷ divides (negsuc 6) (pos 2) (negsuc 3) (pos 1)
    ∷ divides (pos 7) (negsuc 1) (negsuc 2) (pos 1)
    ∷ divides (negsuc 6) (negsuc 1) (pos 4) (pos 1)
    ∷ divides (pos 0) (pos 5) (pos 0) (pos 0)
    ∷ expanded listing_task first_action
    (0 ∷ (replicate 7 1 ++ (3 ∷ (replicate 7 4 ++ (6 ∷ (replicate 3 7 ++ (9 ∷ 10 ∷ 12 ∷ (replicate 7 13 ++ (15 ∷ (replicate 3 16 ++ (18 ∷ [])))))))))))
    ∷ priced listing_task first_action (given 35)
    ∷ listed listing_task first_action (head_line ++ (step_line ++ goal_line))
    ∷ judged doubling first_action (given (1, values (pos 9 ∷ [])))
    ∷ priced doubling first_action (given 26)
    ∷ judged doubling_to_eight first_action (refused 12 0)
    ∷ judged empty_goal [] (given (0, values []))
    ∷ judged five_from_four [] (refused 13 0)
    ∷ lowered (86 ∷ 0 ∷ 0 ∷ 0 ∷ 0 ∷ 9 ∷ 0 ∷ 0 ∷ 0 ∷ 7 ∷ 0 ∷ 0 ∷ 0 ∷ 65 ∷ 43 ∷ 0 ∷ 255 ∷ 255 ∷ 255 ∷ 255 ∷ 71 ∷ 90 ∷ [])
    (85 ∷ 7 ∷ 0 ∷ 0 ∷ 0 ∷ 85 ∷ 0 ∷ 0 ∷ 0 ∷ 0 ∷ 85 ∷ 0 ∷ 0 ∷ 0 ∷ 0 ∷ 77 ∷ 1 ∷ 0 ∷ 0 ∷ 0
    ∷ 65 ∷ 80 ∷ 0 ∷ 0 ∷ 0 ∷ 67 ∷ 0 ∷ 2 ∷ 1 ∷ 0 ∷ 0 ∷ 0 ∷ 43 ∷ 0 ∷ 255 ∷ 255 ∷ 255 ∷ 255 ∷ 71 ∷ 80 ∷ 0 ∷ 0 ∷ 0 ∷ 90 ∷ [])
    ∷ []
