-- How far a plan agrees with a run of one number.
-- Assumes nothing.
use Rattle.std.specs.Prelude.{◌≡◌, ℕ, ◌+◌, ◌*◌, ◌-◌, ◌<◌, ◌≤◌, List, length, get_or, drop, replicate}
use Rattle.model.specs.Following.{agreeing}

-- four from number i on, each of 16 bits, as one number of 64 bits
abbrev pub four_at : List ℕ → ℕ → ℕ
four_at xs i = get_or xs i 0 + 65536 * get_or xs (i + 1) 0 + 4294967296 * get_or xs (i + 2) 0 + 281474976710656 * get_or xs (i + 3) 0

-- so many of them, one behind another, are one number
pub record Fours (xs : List ℕ) (i n four : ℕ) : Type 0 where
  pub each : (j : ℕ) → j < n → four_at xs (i + 4 * j) ≡ four

-- in front of xs, i of m numbers were found to be k: what is left gives what the whole gives
pub record Passed (k : ℕ) (xs : List ℕ) (m i : ℕ) : Type 0 where
  pub room : m ≤ length xs
  pub bound : i ≤ m
  pub same : i + agreeing (replicate (m - i) k) (drop i xs) ≡ agreeing (replicate m k) xs
