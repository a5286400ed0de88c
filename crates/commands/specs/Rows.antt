-- The table as the code has it: a row is five numbers, and its widths are three. And what reading by a row gives.
-- Assumes nothing.
use Rattle.std.specs.Prelude.{List, [], ◌∷◌, ◌≡◌, ℕ, ◌^◌, ◌≤◌, ◌<◌, length, get_or}
use Rattle.answers.specs.declared.Reason.TheVariants.{CutShort}
use Rattle.commands.specs.declared.Command.TheVariants.{Refused}
use Rattle.commands.specs.Table.{Row, width_at}
use Rattle.commands.specs.Reading.{command_at, made}

-- the byte, how many operands, and three widths, 0 where there is no operand
abbrev pub written : Row → List ℕ
written r = r.byte ∷ length r.widths ∷ get_or r.widths 0 0 ∷ get_or r.widths 1 0 ∷ get_or r.widths 2 0 ∷ []

-- the three widths of row i; no operand is wider than 4 bytes
pub record Widths (i : ℕ) (widths : List ℕ) : Type 0 where
  pub are : widths ≡ width_at i 0 ∷ width_at i 1 ∷ width_at i 2 ∷ []
  pub first : width_at i 0 ≤ 4
  pub second : width_at i 1 ≤ 4
  pub third : width_at i 2 ≤ 4

-- the command at the front of s is cut short
abbrev pub Cut : List ℕ → Type 0
Cut s = command_at s ≡ Refused CutShort

-- the command at the front of s is that of row i with the numbers for operands, each of which fits its width
pub record Whole (s : List ℕ) (i x y z : ℕ) : Type 0 where
  pub is : command_at s ≡ made i (x ∷ y ∷ z ∷ [])
  pub first : x < 256 ^ width_at i 0
  pub second : y < 256 ^ width_at i 1
  pub third : z < 256 ^ width_at i 2
