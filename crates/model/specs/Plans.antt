-- Document 01, "Files": "A plan is action numbers of 16 bits, no header, at most 1,000,000 of them. Zero bytes is the empty plan."
-- Assumes nothing.
use Rattle.std.specs.Prelude.{ℕ, ◌%◌, cond, List, length, eqb, ltb}
use Rattle.answers.specs.Answer.{Answer, given, refused}
use Rattle.lists.specs.Numbers.{numbers_bytes, halves}

abbrev pub plan_bytes_of : List ℕ → List ℕ
plan_bytes_of = numbers_bytes 2

abbrev pub plan_numbers : List ℕ → List ℕ
plan_numbers = halves

-- 10, with the plan's byte length: odd, or over 2,000,000
unfoldable pub read_plan : List ℕ → Answer (List ℕ)
read_plan bytes =
    cond (eqb (length bytes % 2) 1) (refused 10 (length bytes))
    (cond (ltb 2_000_000 (length bytes)) (refused 10 (length bytes))
    (given (plan_numbers bytes)))
