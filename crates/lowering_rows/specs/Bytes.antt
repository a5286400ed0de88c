-- The bytes of a restricted file by its parts: what one element of a list of the task makes; and the bytes of a parts row.
-- Assumes nothing.
use Rattle.std.specs.Prelude.{◌≡◌, ℕ, ◌+◌, ◌<◌, Bool, true, false, length, ℤ, nat_abs}
use mathlib.Core.List.{List, [], ◌∷◌, ◌++◌, flat_map}
use Rattle.integers.specs.Numbers.{bytes_of, bits_of}
use Rattle.integers.specs.Relation.{relation_number}
use Rattle.lists.specs.Each.{tabulate}
use Rattle.lists.specs.Writing.{Wrote}
use Rattle.commands.specs.Encoding.{encode, encode_all}
use Rattle.commands.specs.declared.Command.TheVariants.{Condition, ModeCondition, ModeEffect, Add}
use Rattle.model.specs.Tasks.{NumericCondition, RestrictedAction}
use Rattle.model.specs.Steps.{integer_at, natural_at}
use Rattle.model.specs.FourRelations.{in_four_relations}
use Rattle.model.specs.Sums.{kept_additions}
use Rattle.model.specs.Lowering.{variable_of, action_commands}
use Rattle.file_parts.specs.Layout.{
  MARKS,
  NUMBERS,
  condition_count,
  mode_condition_count,
  mode_condition_mode,
  mode_condition_value,
  mode_effect_count,
  mode_effect_mode,
  mode_effect_value,
  addition_count,
  addition_amount,
}
use Rattle.file_parts.specs.Row.{PartsFit}
use Rattle.file_parts.specs.With.{with_additions}
use Rattle.lowering_stages.specs.declared.Stage.{Stage}
use Rattle.lowering_sums.specs.Views.{sums_in}
use Rattle.lowering_rows.specs.declared.Kept.{Kept}
use Rattle.lowering_rows.specs.declared.ModePart.{ModePart}
use Rattle.lowering_rows.specs.declared.ModePart.TheVariants.{Condition as ACondition, Effect as AnEffect}
use Rattle.lowering_stages.specs.Stages.{stroke_is, turn_is}

-- ---- the bytes of one element: P, C, E, +
abbrev pub mode_condition_bytes : ℕ × ℕ → List ℕ
mode_condition_bytes p = encode (ModeCondition p.0 p.1)

abbrev pub condition_bytes : NumericCondition ℕ → List ℕ
condition_bytes c = encode (Condition (variable_of c.measured) (relation_number c.relation) (bits_of 4 c.constant))

-- a condition in the four relations of a restricted file
abbrev pub four_bytes : NumericCondition ℕ → List ℕ
four_bytes c = flat_map condition_bytes (in_four_relations c.measured c.relation c.constant)

abbrev pub mode_effect_bytes : ℕ × ℕ → List ℕ
mode_effect_bytes e = encode (ModeEffect e.0 e.1)

-- of the one or of the other
abbrev pub mode_part_bytes : ModePart → ℕ × ℕ → List ℕ
mode_part_bytes ACondition p = mode_condition_bytes p
mode_part_bytes AnEffect p = mode_effect_bytes p

abbrev pub addition_bytes : ℕ × ℤ → List ℕ
addition_bytes e = encode (Add e.0 (bits_of 4 e.1))

-- the bytes of an action
abbrev pub restricted_action_bytes : RestrictedAction → List ℕ
restricted_action_bytes a = encode_all (action_commands a [])

-- ---- an action with the + on the kept variables, numbered from `first` on, that go with its own
abbrev pub with_kept : ℕ → List (List (ℕ × ℤ)) → RestrictedAction → RestrictedAction
with_kept first sums x = with_additions x (kept_additions first sums x.additions)

-- the sums that are kept
abbrev pub sums_kept : Kept → List (List (ℕ × ℤ))
sums_kept k = sums_in k.sums k.weights.now

-- ---- the bytes of a row: a byte, A or G; then P, C, E, +
abbrev pub row_bytes : ℕ → RestrictedAction → List ℕ
row_bytes b x =
    bytes_of 1 b
    ++ (flat_map mode_condition_bytes x.mode_conditions
    ++ (flat_map condition_bytes x.conditions ++ (flat_map mode_effect_bytes x.mode_effects ++ (flat_map addition_bytes x.additions ++ []))))

-- ---- its P or its E, which stand in its marks alone, by three places: of their count, of the first mode, of the first value
abbrev pub places_of : ModePart → ℕ × ℕ × ℕ
places_of ACondition = (mode_condition_count, mode_condition_mode, mode_condition_value)
places_of AnEffect = (mode_effect_count, mode_effect_mode, mode_effect_value)

abbrev pub part_at : ℕ × ℕ × ℕ → List ℕ → ℕ → ℕ × ℕ
part_at places marks i = (natural_at marks (places.1 + i), natural_at marks (places.2 + i))

abbrev pub mode_parts_in : ModePart → List ℕ → List (ℕ × ℕ)
mode_parts_in part marks = let places = places_of part in tabulate (natural_at marks places.0) (part_at places marks)

-- what its writer requires: constants and amounts fit the width of a file's
pub record Writable (marks : List ℕ) (numbers : List ℤ) : Type 0 where
  pub few : PartsFit 0 0 0 0 marks
  pub constants : (i : ℕ) → i < natural_at marks condition_count → nat_abs (integer_at numbers i) < 2147483648
  pub amounts : (i : ℕ) → i < natural_at marks addition_count → nat_abs (integer_at numbers (addition_amount + i)) < 2147483648

-- ---- the three rows of a stage
abbrev pub stage_rows : ℕ → ℕ → ℕ → ℕ → Stage → List RestrictedAction
stage_rows a control number next s = stroke_is true control number s ∷ stroke_is false control number s ∷ turn_is a control number next s ∷ []

-- output with bytes written, and rows that are whole
pub record WroteRows (out : List ℕ) (at : ℕ) (xs after : List ℕ) (next : ℕ) (marks : List ℕ) (numbers : List ℤ) : Type 0 where
  pub wrote : Wrote out at xs after next
  pub marks_long : length marks ≡ MARKS
  pub numbers_long : length numbers ≡ NUMBERS
