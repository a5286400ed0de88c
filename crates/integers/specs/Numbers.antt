-- Numbers of a width in bytes, least byte first, unsigned and in two's complement. Every definition and law is for any width.
-- Assumes nothing.
use Rattle.std.specs.Prelude.{ℕ, zero, suc, ◌+◌, ◌-◌, ◌*◌, ◌/◌, ◌%◌, ◌^◌, ◌<◌, cond, List, [], ◌∷◌, ltb, take, drop, ℤ, pos, negsuc}
use Rattle.integers.specs.All.{All}

-- a list of bytes, as every slice of bytes is
abbrev pub Bytes : List ℕ → Type 0
Bytes s = All (λ (b : ℕ). b < 256) s

-- the bytes of a number, as many as the width says
abbrev pub bytes_of : ℕ → ℕ → List ℕ
bytes_of zero n = []
bytes_of (suc width) n = n % 256 ∷ bytes_of width (n / 256)

-- the number whose bytes, least first, are the list
abbrev pub number_of : List ℕ → ℕ
number_of [] = 0
number_of (b ∷ rest) = b + 256 * number_of rest

-- the number of a width that stands at a place
abbrev pub number_at : List ℕ → ℕ → ℕ → ℕ
number_at bytes place width = number_of (take width (drop place bytes))

-- a signed number as bits of a width, two's complement
abbrev pub bits_of : ℕ → ℤ → ℕ
bits_of width (pos n) = n
bits_of width (negsuc n) = 256 ^ width - suc n

-- and back: the upper half of the numbers of a width are the negative ones
abbrev pub signed_of : ℕ → ℕ → ℤ
signed_of width bits = cond (ltb (2 * bits) (256 ^ width)) (pos bits) (negsuc (256 ^ width - suc bits))
