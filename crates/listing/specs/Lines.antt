-- The parts of a line, and how long it may be.
-- Assumes nothing.
use Rattle.std.specs.Prelude.{ℕ, ◌+◌, ◌≤◌, List, ◌∷◌, ◌++◌, length, ℤ, pos}
use Rattle.lists.specs.Writing.{capacity, Room}
use Rattle.model.specs.Listing.{decimal, decimal_signed, fields_of}

-- a space, and a number
abbrev pub field : ℤ → List ℕ
field z = 32 ∷ decimal_signed z

-- the line of step i, which took action k at a price and left these values
abbrev pub line_of : ℕ → ℕ → ℕ → List ℤ → List ℕ
line_of i k price values = decimal i ++ fields_of (pos k ∷ pos price ∷ values)

-- room for the line of a step by the widths of its numbers alone: three of at most 20 digits, eight values of at most 20 characters, and what
-- parts them. In the listing of a valid plan a line is shorter (`Parts.LONGEST`)
abbrev pub LINE : ℕ
LINE = 231

-- required: room for so many bytes, the most that are written, or for these bytes
pub data RoomFor (out : List ℕ) (at most : ℕ) (xs : List ℕ) : Type 0 where
  for_most : at + most ≤ capacity (length out) → RoomFor out at most xs
  for_these : Room out at xs → RoomFor out at most xs
