-- How many variables and modes the arrays of a restricted state have room for. The names are those of the code.
-- Assumes nothing.
use Rattle.std.specs.Prelude.{ℕ}

abbrev pub VARIABLES : ℕ
VARIABLES = 64

abbrev pub MODES : ℕ
MODES = 8
