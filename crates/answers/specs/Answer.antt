-- What every entry point answers: its result, or a refusal with its number and place; and what becomes of lent output.
-- Assumes nothing.
use Rattle.std.specs.Prelude.{ℕ, cond, List, ◌++◌, leb, length, drop}

pub data Answer (A : Type 0) : Type 0 where
  given : A → Answer A
  refused : ℕ → ℕ → Answer A

-- the first refusal stands; a result goes on to what follows
abbrev pub then : {A B : Type 0} → Answer A → (A → Answer B) → Answer B
then (given a) f = f a
then (refused number place) f = refused number place

-- A call that writes a result into lent output, `old` being what the output holds before: what it answers, and what the output holds after.
-- 8: the output is shorter than the result; its place is the bytes needed. No refusal writes. Output beyond the result is untouched.
unfoldable pub lent : List ℕ → Answer (List ℕ) → Answer ℕ × List ℕ
lent old (given bytes) = cond (leb (length bytes) (length old)) (given (length bytes), bytes ++ drop (length bytes) old) (refused 8 (length bytes), old)
lent old (refused number place) = (refused number place, old)
