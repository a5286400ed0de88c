-- The relations of a condition, by their numbers in a file: 0 <, 1 ≤, 2 ≥, 3 >, 4 equal; and the range tests.
-- Assumes nothing.
use Rattle.std.specs.Prelude.{ℕ, zero, suc, Bool, ◌&&◌, leb, ℤ, nat_abs}
use Rattle.std.specs.Int.Signed.{le_z, lt_z}

pub data Relation : Type 0 where
  below at_most at_least above equal : Relation

-- a number over 4 is refused by the reader before it is asked what it means; it is read as 4
abbrev pub relation_of : ℕ → Relation
relation_of zero = below
relation_of (suc zero) = at_most
relation_of (suc (suc zero)) = at_least
relation_of (suc (suc (suc zero))) = above
relation_of (suc (suc (suc (suc n)))) = equal

abbrev pub relation_number : Relation → ℕ
relation_number below = 0
relation_number at_most = 1
relation_number at_least = 2
relation_number above = 3
relation_number equal = 4

-- value RELATION constant
abbrev pub related : Relation → ℤ → ℤ → Bool
related below value constant = lt_z value constant
related at_most value constant = le_z value constant
related at_least value constant = le_z constant value
related above value constant = lt_z constant value
related equal value constant = le_z constant value && le_z value constant

abbrev pub between : ℤ → ℤ → ℤ → Bool
between lower upper value = le_z lower value && le_z value upper

-- |value| ≤ limit
abbrev pub within_limit : ℕ → ℤ → Bool
within_limit limit value = leb (nat_abs value) limit
