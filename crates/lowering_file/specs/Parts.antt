-- The bytes of a restricted file besides its actions, and what their writers require.
-- Assumes nothing.
use Rattle.std.specs.Prelude.{◌≡◌, ℕ, Bool, cond, List, ◌++◌, length, take, ℤ}
use Rattle.lists.specs.Each.{tabulate}
use Rattle.commands.specs.Encoding.{encode}
use Rattle.commands.specs.declared.Command.TheVariants.{Mode}
use Rattle.model.specs.Steps.{natural_at}
use Rattle.model.specs.Sums.{sum_values}
use Rattle.model.specs.Lowering.{resting_helpers}
use Rattle.file_parts.specs.Layout.{NUMBERS}
use Rattle.file_parts.specs.Row.{row_is, PartsFit}
use Rattle.lowering_rows.specs.Macros.{Fit}

-- ---- the bytes of an M; for those of a U see lowering_sums, specs/Views
abbrev pub mode_bytes : ℕ × ℕ → List ℕ
mode_bytes m = encode (Mode m.0 m.1)

-- ---- modes as two arrays have them: sizes and values
abbrev pub mode_at : List ℕ → List ℕ → ℕ → ℕ × ℕ
mode_at sizes values i = (natural_at sizes i, natural_at values i)

abbrev pub modes_in : ℕ → List ℕ → List ℕ → List (ℕ × ℕ)
modes_in n sizes values = tabulate n (mode_at sizes values)

-- ---- how many holds there are, by whether some action has several effects
abbrev pub holds_of : Bool → ℕ
holds_of several = cond several 3 0

-- ---- where all variables start: the n declared ones, as an array has them, the helpers at 0, and the kept ones at their sums
abbrev pub starts_in : ℕ → List ℤ → Bool → List (List (ℕ × ℤ)) → List ℤ
starts_in n starts several sums = (take n starts ++ resting_helpers (holds_of several)) ++ sum_values sums (take n starts)

-- ---- what a writer requires: the rows of a goal, which has room for one P more
pub record GoalWritable (marks : List ℕ) (numbers : List ℤ) : Type 0 where
  pub room : PartsFit 0 1 0 0 marks
  pub numbers_long : length numbers ≡ NUMBERS
  pub fit : Fit (row_is marks numbers)
