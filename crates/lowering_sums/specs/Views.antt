-- What R keeps of the sums of a task, in the words of the model.
-- Assumes nothing.
use Rattle.std.specs.Prelude.{ℕ, ◌≤◌, ◌<◌, List, ℤ, nat_abs}
use Rattle.integers.specs.Numbers.{bits_of}
use Rattle.lists.specs.Each.{tabulate}
use Rattle.commands.specs.Encoding.{encode}
use Rattle.commands.specs.declared.Command.TheVariants.{Start}
use Rattle.model.specs.Steps.{integer_at, natural_at}
use Rattle.source_step.specs.Row.{weights_in}
use Rattle.lowering_sums.specs.declared.Added.{Added}

-- ---- the first `count` sums of the row that has their weights
abbrev pub sums_in : ℕ → List ℤ → List (List (ℕ × ℤ))
sums_in count weights = tabulate count (weights_in weights)

-- ---- some + of an action: at most so many, none of more than this
abbrev pub ADDED : ℕ
ADDED = 4

abbrev pub most_added : ℕ
most_added = 20_000

abbrev pub added_at : List ℕ → List ℤ → ℕ → ℕ × ℤ
added_at variables amounts i = (natural_at variables i, integer_at amounts i)

abbrev pub added_is : Added → List (ℕ × ℤ)
added_is a = tabulate a.count (added_at a.variables a.amounts)

pub record AddedSmall (a : Added) : Type 0 where
  pub few : a.count ≤ ADDED
  pub amounts : (i : ℕ) → i < a.count → nat_abs (integer_at a.amounts i) ≤ most_added

-- the most that one of them adds to a sum
abbrev pub most_part : ℕ
most_part = 800_000_000

-- ---- a number that a file has room for; the bytes of a U
abbrev pub Fits : ℤ → Type 0
Fits z = nat_abs z < 2147483648

abbrev pub start_bytes : ℤ → List ℕ
start_bytes z = encode (Start (bits_of 4 z))
