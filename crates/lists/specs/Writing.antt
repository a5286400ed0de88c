-- Bytes stored into lent output: what a function that writes them requires and ensures.
-- Assumes nothing.
use Rattle.std.specs.Prelude.{◌≡◌, ℕ, zero, suc, ◌+◌, ◌≤◌, List, [], ◌∷◌, length, set}

-- the output with the bytes xs stored one by one from a place on; a store past the end changes nothing
abbrev pub splice : List ℕ → ℕ → List ℕ → List ℕ
splice out at [] = out
splice out at (x ∷ xs) = splice (set out at x) (at + 1) xs

-- how far a writer goes: to the end of the output; where the output has length 0 nothing is stored and the bytes are only counted, up to
-- a number that no result reaches
abbrev pub capacity : ℕ → ℕ
capacity zero = 4294967296
capacity (suc n) = suc n

-- required: from the place on, the output has room for the bytes
pub record Room (out : List ℕ) (at : ℕ) (xs : List ℕ) : Type 0 where
  pub fits : at + length xs ≤ capacity (length out)

-- ensured: `after` is the output with the bytes stored from the place on, and `next` is the place behind them
pub record Wrote (out : List ℕ) (at : ℕ) (xs after : List ℕ) (next : ℕ) : Type 0 where
  pub place : next ≡ at + length xs
  pub bytes : after ≡ splice out at xs
