-- The command at the front of what remains of a file.
-- Assumes nothing.
use Rattle.std.specs.Prelude.{ℕ, ◌+◌, cond, List, [], ◌∷◌, eqb, leb, length, get_or}
use Rattle.integers.specs.Numbers.{number_at}
use Rattle.commands.specs.Table.{rows, row_of, width_at, size_of_row}
use Rattle.answers.specs.declared.Reason.TheVariants.{NotAllowed, CutShort}
use Rattle.commands.specs.declared.Command.{Command}
use Rattle.commands.specs.declared.Command.TheVariants.{Variable, Start, Mode, Action, Condition, ModeCondition, ModeEffect, Add, Linear, Term, Quotient}
use Rattle.commands.specs.declared.Command.TheVariants.{Residue, Goal, End, Sum, Refused}

-- the commands in the order of the table's rows, each with its operands among x, y and z
abbrev pub commands : ℕ → ℕ → ℕ → List Command
commands x y z =
    Variable x y z
    ∷ Start x
    ∷ Mode x y
    ∷ Action
    ∷ Condition x y z
    ∷ ModeCondition x y
    ∷ ModeEffect x y
    ∷ Add x y
    ∷ Linear x y
    ∷ Term x y
    ∷ Quotient x y z
    ∷ Residue x y z
    ∷ Goal
    ∷ End
    ∷ Sum x y
    ∷ []

-- the command of row i, made of its operands
abbrev pub made : ℕ → List ℕ → Command
made i vs = get_or (commands (get_or vs 0 0) (get_or vs 1 0) (get_or vs 2 0)) i (Refused NotAllowed)

-- the command of row i at the front of s: its operands stand one behind another after its byte
abbrev pub read_row : List ℕ → ℕ → Command
read_row s i =
    get_or (commands (number_at s 1 (width_at i 0)) (number_at s (1 + width_at i 0) (width_at i 1)) (number_at s (1 + width_at i 0 + width_at i 1) (width_at i 2))) i (Refused NotAllowed)

-- 1: no command has the byte. 2: nothing remains, or the operands are not all there
unfoldable pub command_at : List ℕ → Command
command_at s =
    cond (eqb (length s) 0) (Refused CutShort)
    (cond (leb rows (row_of (get_or s 0 0))) (Refused NotAllowed)
    (cond (leb (size_of_row (row_of (get_or s 0 0))) (length s)) (read_row s (row_of (get_or s 0 0))) (Refused CutShort)))
