-- The texts of refusals, by number: ASCII, without a line feed or a terminator.
-- Assumes nothing.
use Rattle.std.specs.Prelude.{ℕ, List, [], ◌∷◌, get_or}
use Prim.Native.Char.{code}
use Prim.Native.String.{String, [] as []ᵗ, ◌∷◌ as ◌∷ᵗ◌}

-- a text's characters as bytes
abbrev pub bytes_of_text : String → List ℕ
bytes_of_text []ᵗ = []
bytes_of_text (c ∷ᵗ s) = code c ∷ bytes_of_text s

-- the answer 0, then the refusals from 1 on
abbrev pub texts : List String
texts =
    "no refusal"
    ∷ "a byte is unknown or not allowed there"
    ∷ "the file ends too soon"
    ∷ "bytes follow the end of the file's commands"
    ∷ "one more than a limit"
    ∷ "undeclared, or a value or relation out of range"
    ∷ "an operand is out of range"
    ∷ "an effect or a variable is named twice"
    ∷ "the output is too short"
    ∷ "the expansion is over 1,000,000 steps"
    ∷ "the plan's length is odd or too large"
    ∷ "no such action"
    ∷ "the action does not apply"
    ∷ "the goal is not met"
    ∷ "a sum has no term"
    ∷ []

-- every number past the last
abbrev pub unknown : String
unknown = "no such refusal number"

abbrev pub refusal_text : ℕ → List ℕ
refusal_text number = bytes_of_text (get_or texts number unknown)
