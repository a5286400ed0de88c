-- Document 01, "Refusals by number", 1 to 7: a whole file. "Commands are taken in file order", up to the first refusal or Z.
-- Assumes nothing.
use Rattle.std.specs.Prelude.{ℕ, zero, suc, ◌+◌, cond, List, [], ◌∷◌, eqb, length, get_or, drop}
use Rattle.commands.specs.Table.{size_of_byte}
use Rattle.commands.specs.Reading.{command_at}
use Rattle.commands.specs.declared.Command.{Command}
use Rattle.model.specs.Limits.{Limits}
use Rattle.model.specs.ReadingState.{ReadingState, Progress, Going, Ended, Stopped, begin}
use Rattle.model.specs.Rules.{take_of}

-- THE WALK that every reading of a file goes along: what remains of it from each of its commands on, at most so many. A command is as long
-- as its byte says
unfoldable pub remainders : ℕ → List ℕ → List (List ℕ)
remainders zero rest = []
remainders (suc most) rest = rest ∷ remainders most (drop (size_of_byte (get_or rest 0 0)) rest)

-- accepted, with the counts of variables, modes and actions; or a refusal's number and place
pub data Verdict : Type 0 where
  Accepted : ℕ → ℕ → ℕ → Verdict
  Rejected : ℕ → ℕ → Verdict

-- the place of a refusal is the offset of the command; of 2 it is the file's length
abbrev pub refused_at : ℕ → ℕ → ℕ → Verdict
refused_at number at file_length = cond (eqb number 2) (Rejected number file_length) (Rejected number at)

abbrev pub accepted_with : ReadingState → Verdict
accepted_with p = Accepted p.declared.variables p.declared.modes p.actions

-- Z, with so many bytes remaining from it on. 3, at the offset after Z: bytes follow it
abbrev pub ended_at : ReadingState → ℕ → ℕ → Verdict
ended_at p at remaining = cond (eqb remaining 1) (accepted_with p) (Rejected 3 (at + 1))

-- what follows from taking the command at an offset: the answer, or what the rest of the file gives
abbrev pub after_command : (ReadingState → Verdict) → ℕ → ℕ → ℕ → ReadingState → Progress → Verdict
after_command next at remaining file_length p Going = next p
after_command next at remaining file_length p Ended = ended_at p at remaining
after_command next at remaining file_length p (Stopped number) = refused_at number at file_length

-- the answer from a state and an offset on
unfoldable pub verdict_along : Limits → ℕ → ReadingState → ℕ → List (List ℕ) → Verdict
verdict_along l file_length p at [] = refused_at 2 at file_length
verdict_along l file_length p at (rest ∷ more) =
    after_command (λ q. verdict_along l file_length q (at + size_of_byte (get_or rest 0 0)) more) at (length rest) file_length
    (take_of l p rest).state (take_of l p rest).progress

abbrev pub verdict_from : Limits → ℕ → ℕ → ReadingState → ℕ → List ℕ → Verdict
verdict_from l file_length most p at rest = verdict_along l file_length p at (remainders most rest)

-- each command has at least one byte, so a file has no more commands than bytes
unfoldable pub verdict_of : Limits → List ℕ → Verdict
verdict_of l file = verdict_from l (length file) (suc (length file)) begin 0 file

-- ---- the commands before Z, or before the one that is refused
abbrev pub gather : (ReadingState → List Command) → Command → ReadingState → Progress → List Command
gather next c p Going = c ∷ next p
gather next c p Ended = []
gather next c p (Stopped number) = []

unfoldable pub commands_along : Limits → ReadingState → List (List ℕ) → List Command
commands_along l p [] = []
commands_along l p (rest ∷ more) = gather (λ q. commands_along l q more) (command_at rest) (take_of l p rest).state (take_of l p rest).progress

abbrev pub commands_from : Limits → ℕ → ReadingState → List ℕ → List Command
commands_from l most p rest = commands_along l p (remainders most rest)

unfoldable pub commands_of : Limits → List ℕ → List Command
commands_of l file = commands_from l (suc (length file)) begin file
