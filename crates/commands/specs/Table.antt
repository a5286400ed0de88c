-- The commands of a file: the byte of each, and the widths in bytes of its operands, in one fixed list.
-- Assumes nothing.
use Rattle.std.specs.Prelude.{ℕ, suc, ◌+◌, cond, List, [], ◌∷◌, eqb, ltb, get_or}

-- the ASCII byte of each command
abbrev pub letter_v : ℕ
letter_v = 86

abbrev pub letter_u : ℕ
letter_u = 85

abbrev pub letter_m : ℕ
letter_m = 77

abbrev pub letter_a : ℕ
letter_a = 65

abbrev pub letter_c : ℕ
letter_c = 67

abbrev pub letter_p : ℕ
letter_p = 80

abbrev pub letter_e : ℕ
letter_e = 69

abbrev pub plus_sign : ℕ
plus_sign = 43

abbrev pub letter_l : ℕ
letter_l = 76

abbrev pub letter_t : ℕ
letter_t = 84

abbrev pub letter_q : ℕ
letter_q = 81

abbrev pub letter_r : ℕ
letter_r = 82

abbrev pub letter_g : ℕ
letter_g = 71

abbrev pub letter_z : ℕ
letter_z = 90

abbrev pub letter_k : ℕ
letter_k = 75

pub record Row : Type 0 where
  pub byte : ℕ
  pub widths : List ℕ

abbrev pub row : ℕ → List ℕ → Row
row b ws = record { byte = b; widths = ws }

-- one row a command, in the order V U M A C P E + L T Q R G Z K
abbrev pub table : List Row
table =
    row letter_v (4 ∷ 4 ∷ 4 ∷ [])
    ∷ row letter_u (4 ∷ [])
    ∷ row letter_m (2 ∷ 2 ∷ [])
    ∷ row letter_a []
    ∷ row letter_c (1 ∷ 1 ∷ 4 ∷ [])
    ∷ row letter_p (1 ∷ 2 ∷ [])
    ∷ row letter_e (1 ∷ 2 ∷ [])
    ∷ row plus_sign (1 ∷ 4 ∷ [])
    ∷ row letter_l (1 ∷ 4 ∷ [])
    ∷ row letter_t (1 ∷ 4 ∷ [])
    ∷ row letter_q (1 ∷ 1 ∷ 4 ∷ [])
    ∷ row letter_r (1 ∷ 1 ∷ 4 ∷ [])
    ∷ row letter_g []
    ∷ row letter_z []
    ∷ row letter_k (1 ∷ 4 ∷ [])
    ∷ []

-- how many rows
abbrev pub rows : ℕ
rows = 15

abbrev pub row_at : ℕ → Row
row_at i = get_or table i (row 0 [])

-- the width of operand j of row i, and 0 where the command has no such operand
abbrev pub width_at : ℕ → ℕ → ℕ
width_at i j = get_or (row_at i).widths j 0

-- the number of the first row with the byte, counted from i; past the last row where there is none
abbrev pub seek : ℕ → List Row → ℕ → ℕ
seek b [] i = i
seek b (r ∷ rs) i = cond (eqb b r.byte) i (seek b rs (suc i))

abbrev pub row_of : ℕ → ℕ
row_of b = seek b table 0

-- the length of a command, its own byte with it
abbrev pub size_of_row : ℕ → ℕ
size_of_row i = 1 + width_at i 0 + width_at i 1 + width_at i 2

-- the length of the command that begins with the byte; 1 where no command does
unfoldable pub size_of_byte : ℕ → ℕ
size_of_byte b = cond (ltb (row_of b) rows) (size_of_row (row_of b)) 1
