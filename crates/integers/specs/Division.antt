-- Euclidean division, for every sign: y = c × q + r with 0 ≤ r < |c|. The definitions compute; c = 0 is read as 1, so that every
-- quotient is defined (no accepted task divides by 0).
-- Assumes nothing.
use Rattle.std.specs.Prelude.{◌≡◌, ℕ, zero, suc, ◌-◌, ◌/◌, ◌%◌, ℤ, pos, negsuc, nat_abs, ◌+ℤ◌, ◌*ℤ◌, ◌≤ℤ◌, ◌<ℤ◌}

-- |c| − 1
abbrev pub unit_less : ℤ → ℕ
unit_less (pos zero) = zero
unit_less (pos (suc n)) = n
unit_less (negsuc n) = n

-- 1 or −1
abbrev pub sign : ℤ → ℤ
sign (pos n) = pos 1
sign (negsuc n) = negsuc 0

-- y divided by the unit u + 1, rounded down
abbrev pub floor : ℤ → ℕ → ℤ
floor (pos n) u = pos (n / suc u)
floor (negsuc n) u = negsuc (n / suc u)

-- what is left of y, from 0 to u
abbrev pub remainder : ℤ → ℕ → ℕ
remainder (pos n) u = n % suc u
remainder (negsuc n) u = u - n % suc u

-- q
abbrev pub quotient_of : ℤ → ℤ → ℤ
quotient_of y c = floor y (unit_less c) *ℤ sign c

-- r
abbrev pub residue_of : ℤ → ℤ → ℤ
residue_of y c = pos (remainder y (unit_less c))

-- q and r are the quotient and the residue of y by c
pub record Euclid (y c q r : ℤ) : Type 0 where
  pub sum : y ≡ c *ℤ q +ℤ r
  pub low : pos 0 ≤ℤ r
  pub high : r <ℤ pos (nat_abs c)
