-- Powers of ten, and how they are counted off a number.
-- Assumes nothing.
use Rattle.std.specs.Prelude.{◌≡◌, ℕ, ◌+◌, ◌-◌, ◌*◌, ◌^◌, ◌≤◌, ◌<◌, cond, List, ltb}
use Rattle.lists.specs.Each.{tabulate}
use Rattle.listing_text.specs.declared.Counted.{Counted}

-- a number of 64 bits has at most so many digits
abbrev pub PLACES : ℕ
PLACES = 20

-- the powers of ten that such a number can have
abbrev pub powers_of_ten : List ℕ
powers_of_ten = tabulate PLACES (λ k. 10 ^ k)

-- a power is counted off so many times at once, where what is left has it so often
abbrev pub taken_off : ℕ → ℕ → Counted → Counted
taken_off times power c =
    cond (ltb c.rest (times * power)) c (record { digit = c.digit + times; rest = c.rest - times * power })

-- what was counted off n, a power at most so often, and what is left, less than so many times the power
pub record Off (n power most fewer : ℕ) (c : Counted) : Type 0 where
  pub is : c.digit * power + c.rest ≡ n
  pub few : c.digit ≤ most
  pub below : c.rest < fewer * power
