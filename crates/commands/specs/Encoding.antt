-- The bytes of a command: its byte, then its operands at the widths that the table gives.
-- Assumes nothing.
use Rattle.std.specs.Prelude.{ℕ, ◌^◌, ◌<◌, List, [], ◌∷◌, ◌++◌, T, ltb, get_or}
use Rattle.integers.specs.Numbers.{bytes_of}
use Rattle.commands.specs.Table.{rows, row_at, width_at}
use Rattle.commands.specs.declared.Command.{Command}
use Rattle.commands.specs.declared.Command.TheVariants.{Variable, Start, Mode, Action, Condition, ModeCondition, ModeEffect, Add, Linear, Term, Quotient}
use Rattle.commands.specs.declared.Command.TheVariants.{Residue, Goal, End, Sum, Refused}

-- the table's row of a command; a refusal has none
abbrev pub row_number : Command → ℕ
row_number (Variable lower upper start) = 0
row_number (Start start) = 1
row_number (Mode size start) = 2
row_number Action = 3
row_number (Condition var relation constant) = 4
row_number (ModeCondition mode value) = 5
row_number (ModeEffect mode value) = 6
row_number (Add var constant) = 7
row_number (Linear target constant) = 8
row_number (Term var weight) = 9
row_number (Quotient target operand divisor) = 10
row_number (Residue target operand divisor) = 11
row_number Goal = 12
row_number End = 13
row_number (Sum relation constant) = 14
row_number (Refused reason) = 15

abbrev pub operands : Command → List ℕ
operands (Variable lower upper start) = lower ∷ upper ∷ start ∷ []
operands (Start start) = start ∷ []
operands (Mode size start) = size ∷ start ∷ []
operands Action = []
operands (Condition var relation constant) = var ∷ relation ∷ constant ∷ []
operands (ModeCondition mode value) = mode ∷ value ∷ []
operands (ModeEffect mode value) = mode ∷ value ∷ []
operands (Add var constant) = var ∷ constant ∷ []
operands (Linear target constant) = target ∷ constant ∷ []
operands (Term var weight) = var ∷ weight ∷ []
operands (Quotient target operand divisor) = target ∷ operand ∷ divisor ∷ []
operands (Residue target operand divisor) = target ∷ operand ∷ divisor ∷ []
operands Goal = []
operands End = []
operands (Sum relation constant) = relation ∷ constant ∷ []
operands (Refused reason) = []

abbrev pub byte_of : Command → ℕ
byte_of c = (row_at (row_number c)).byte

-- numbers at the widths beside them
abbrev pub at_widths : List ℕ → List ℕ → List ℕ
at_widths [] vs = []
at_widths (w ∷ ws) [] = []
at_widths (w ∷ ws) (v ∷ vs) = bytes_of w v ++ at_widths ws vs

abbrev pub encode : Command → List ℕ
encode c = byte_of c ∷ at_widths (row_at (row_number c)).widths (operands c)

-- the bytes of a command by its row as the code has it: the row's byte, then each of three numbers at its width, none where the width is 0
abbrev pub row_bytes : ℕ → List ℕ → List ℕ
row_bytes i vs =
    at_widths (1 ∷ width_at i 0 ∷ width_at i 1 ∷ width_at i 2 ∷ []) ((row_at i).byte ∷ get_or vs 0 0 ∷ get_or vs 1 0 ∷ get_or vs 2 0 ∷ [])

-- the bytes of commands, one behind another
abbrev pub encode_all : List Command → List ℕ
encode_all [] = []
encode_all (c ∷ cs) = encode c ++ encode_all cs

-- a command of the table, and no refusal
abbrev pub NoRefusal : Command → Type 0
NoRefusal c = T (ltb (row_number c) rows)

-- as many numbers as widths, and each below 256 to the power of its width
abbrev pub InWidths : List ℕ → List ℕ → Type 0
InWidths [] [] = Unit {0}
InWidths [] (v ∷ vs) = ⊥
InWidths (w ∷ ws) [] = ⊥
InWidths (w ∷ ws) (v ∷ vs) = (v < 256 ^ w) × InWidths ws vs

-- a command whose operands fit the widths that the table gives them; no refusal is one
abbrev pub Fits : Command → Type 0
Fits c = NoRefusal c × InWidths (row_at (row_number c)).widths (operands c)
