-- Document 01, "Files": what stands before the first action, "V and M in any mix"; in a restricted file U in place of V.
-- Assumes nothing.
use Rattle.std.specs.Prelude.{ℕ, suc, Bool, cond, List, [], ◌∷◌, length, get_or}
use Rattle.commands.specs.Table.{letter_v, letter_u, letter_m}
use Rattle.commands.specs.Reading.{command_at}
use Rattle.commands.specs.declared.Command.{Command}
use Rattle.model.specs.Rules.{is_one_of}
use Rattle.model.specs.Reading.{remainders}

-- the byte of the command that declares a variable: V in a source file, U in a restricted one
abbrev pub variable_letter : Bool → ℕ
variable_letter restricted = cond restricted letter_u letter_v

-- the bytes of the commands that declare
abbrev pub declaring : Bool → List ℕ
declaring restricted = letter_m ∷ variable_letter restricted ∷ []

-- the commands from the front of what remains on, up to the first whose byte is none of the letters
unfoldable pub letters_along : List ℕ → List (List ℕ) → List Command
letters_along letters [] = []
letters_along letters (rest ∷ more) = cond (is_one_of (get_or rest 0 0) letters) (command_at rest ∷ letters_along letters more) []

abbrev pub commands_with : List ℕ → ℕ → List ℕ → List Command
commands_with letters most rest = letters_along letters (remainders most rest)

-- the declarations of a file. Each command has at least one byte, so a file has no more commands than bytes
abbrev pub declarations : Bool → List ℕ → List Command
declarations restricted file = commands_with (declaring restricted) (suc (length file)) file
