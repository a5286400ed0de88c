-- Lists of numbers as bytes, and back.
-- Assumes nothing.
use Rattle.std.specs.Prelude.{ℕ, ◌+◌, ◌*◌, List, [], ◌∷◌, ◌++◌}
use Rattle.integers.specs.Numbers.{bytes_of}

-- the bytes of numbers of one width, one number behind another
abbrev pub numbers_bytes : ℕ → List ℕ → List ℕ
numbers_bytes width [] = []
numbers_bytes width (k ∷ ks) = bytes_of width k ++ numbers_bytes width ks

-- the numbers of two bytes that a list of bytes holds, as a plan is read; an odd last byte is dropped
abbrev pub halves : List ℕ → List ℕ
halves [] = []
halves (low ∷ []) = []
halves (low ∷ high ∷ rest) = (low + 256 * high) ∷ halves rest
