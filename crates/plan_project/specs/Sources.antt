-- Which source action the number of a restricted action opens, by a table.
-- Assumes nothing.
use Rattle.std.specs.Prelude.{◌≡◌, ℕ, ◌<◌, ◌≤◌, cond, List, ltb, length, get_or, ℤ}
use Rattle.std.proofs.Math.Option.{Option, none, some}
use Rattle.model.specs.Tasks.{SourceAction}
use Rattle.model.specs.Stages.{opening, source_number}

-- the restricted numbers that the table has room for
abbrev pub OPENINGS : ℕ
OPENINGS = 3200

-- what stands in it for a number that opens no source action, and is the number of none
abbrev pub NONE : ℕ
NONE = 32

-- what the table has at a number; NONE past its end
abbrev pub entry_at : List ℕ → ℕ → ℕ
entry_at numbers k = cond (ltb k OPENINGS) (get_or numbers k 0) NONE

-- a source action by its number, or none
abbrev pub named : ℕ → Option ℕ
named s = cond (ltb s NONE) (some s) none

-- the source action that a restricted number opens
abbrev pub source_in : List ℕ → ℕ → Option ℕ
source_in numbers k = named (entry_at numbers k)

-- every action in the table is one of the first so many
abbrev pub Below : ℕ → List ℕ → Type 0
Below count numbers = (k a : ℕ) → source_in numbers k ≡ some a → a < count

-- these are the numbers that open them
abbrev pub OpenedBy : (ℕ → ℕ) → List ℕ → Type 0
OpenedBy opening numbers = (k a : ℕ) → source_in numbers k ≡ some a → opening a ≡ k

-- the numbers of so many openings, which the table has room for
pub record Openable (openings : List ℕ) (count : ℕ) : Type 0 where
  pub few : count ≤ 32
  pub small : (k : ℕ) → k < count → get_or openings k 0 < OPENINGS

-- the table tells of every number what the definitions tell of it
pub record Sourced (openings : List ℕ) (count : ℕ) (numbers : List ℕ) : Type 0 where
  pub is : (lower upper : ℕ → ℤ) (acts : List SourceAction) → length acts ≡ count
      → ((k : ℕ) → k < count → get_or openings k 0 ≡ opening lower upper acts k)
      → (k : ℕ) → source_in numbers k ≡ source_number lower upper acts k
