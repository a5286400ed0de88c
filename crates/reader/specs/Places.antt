-- The places of a file's commands, one behind another.
-- Assumes nothing.
use Rattle.std.specs.Prelude.{ℕ, ◌+◌, ◌-◌, cond, List, leb, length, get_or}
use Rattle.commands.specs.Table.{size_of_byte}

-- the place behind the command at a place; where the file ends before or inside it, the place itself
abbrev pub place_after : List ℕ → ℕ → ℕ
place_after file at = cond (leb (size_of_byte (get_or file at 0)) (length file - at)) (at + size_of_byte (get_or file at 0)) at
