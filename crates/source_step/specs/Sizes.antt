-- How many variables and modes the arrays of a source state have room for, how many numeric effects an action has at most, how many actions and
-- conditions on sums a source task, and how many rows it is made ready in. The names are those of the code; sums_row is its SUMS_ROW.
-- Assumes nothing.
use Rattle.std.specs.Prelude.{ℕ}

abbrev pub VARIABLES : ℕ
VARIABLES = 8

abbrev pub MODES : ℕ
MODES = 4

abbrev pub ACTIONS : ℕ
ACTIONS = 32

abbrev pub EFFECTS : ℕ
EFFECTS = 3

abbrev pub SUMS : ℕ
SUMS = 4

-- rows for the actions of a task and for its goal, and behind them that of its sums
abbrev pub ROWS : ℕ
ROWS = 34

abbrev pub sums_row : ℕ
sums_row = 33
