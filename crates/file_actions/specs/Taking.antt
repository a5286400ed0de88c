-- The commands of an action one by one, and what is taken of them into a parts row: as much as there is room for.
-- Assumes nothing.
use Rattle.std.specs.Prelude.{◌≡◌, ℕ, ◌+◌, ◌<◌, Bool, cond, List, [], ◌∷◌, ◌++◌, ℤ, length, drop}
use Rattle.commands.specs.declared.Command.{Command}
use Rattle.model.specs.Tasks.{RestrictedAction}
use Rattle.model.specs.Decoding.{conditions_of, mode_conditions_of, mode_effects_of, additions_of}
use Rattle.model.specs.ActionBytes.{commands_in}
use Rattle.file_parts.specs.Row.{Says}
use Rattle.file_actions.specs.Views.{fitting_restricted}

-- `left` are the commands from an offset on
pub record CommandsLeft (s : List ℕ) (at : ℕ) (left : List Command) : Type 0 where
  pub most : ℕ
  pub enough : length s < most + at
  pub are : left ≡ commands_in most (drop at s)

-- the parts that commands give: C, P and E of either kind of action; a + is a part of a restricted one, and an effect of a source one
abbrev pub parts_of : Bool → List Command → RestrictedAction
parts_of restricted cs = record {
  mode_conditions = mode_conditions_of cs;
  conditions = conditions_of cs;
  mode_effects = mode_effects_of cs;
  additions = cond restricted (additions_of cs) [];
}

-- rows that say the parts of commands say those of one command more
abbrev pub Takes : (restricted : Bool) (c : Command) (marks : List ℕ) (numbers : List ℤ) (marks' : List ℕ) (numbers' : List ℤ) → Type 0
Takes restricted c marks numbers marks' numbers' =
    (passed : List Command) → Says (fitting_restricted (parts_of restricted passed)) marks numbers
    → Says (fitting_restricted (parts_of restricted (passed ++ (c ∷ [])))) marks' numbers'
