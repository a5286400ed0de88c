-- What a source action becomes, from its rows and from its task; and what is known of both when it is lowered.
-- Assumes nothing.
use Rattle.std.specs.Prelude.{◌≡◌, ℕ, ◌+◌, ◌≤◌, ◌<◌, length, ℤ, nat_abs}
use mathlib.Core.List.{List, [], ◌∷◌, map, flat_map}
use Rattle.integers.specs.All.{All}
use Rattle.model.specs.Tasks.{NumericCondition, Effect, SourceAction, RestrictedAction}
use Rattle.model.specs.Limits.{source_limits, restricted_limits}
use Rattle.model.specs.TaskOk.{RestrictedActionOk}
use Rattle.model.specs.Stages.{Stage, first_stage, stages_of, stages_actions, macro}
use Rattle.model.specs.Steps.{integer_at, natural_at}
use Rattle.model.specs.FourRelations.{in_four}
use Rattle.model.specs.Sums.{on_kept}
use Rattle.model.specs.Lowering.{numbered_all}
use Rattle.file_parts.specs.Layout.{MARKS, NUMBERS, addition_count, addition_variable, addition_amount}
use Rattle.file_parts.specs.Row.{row_is}
use Rattle.file_parts.specs.With.{with_conditions}
use Rattle.file_actions.specs.declared.Effects.{Effects}
use Rattle.file_actions.specs.declared.SumConditions.{SumConditions}
use Rattle.file_actions.specs.Views.{sum_room, sums_is as conditions_is, effects_is}
use Rattle.lowering_stages.specs.declared.Shape.{Shape}
use Rattle.lowering_stages.specs.Stages.{PlacesOk}
use Rattle.lowering_stages.specs.Openings.{with_opening}
use Rattle.lowering_stages.specs.Shapes.{lower_of, upper_of, Bounded}
use Rattle.source_step.specs.Row.{WeightsSmall}
use Rattle.lowering_sums.specs.Views.{most_added}
use Rattle.lowering_rows.specs.Bytes.{restricted_action_bytes, with_kept}

-- ---- constants and amounts fit the width of a file's
abbrev pub Constant : NumericCondition ℕ → Type 0
Constant c = nat_abs c.constant < 2147483648

abbrev pub Amount : ℕ × ℤ → Type 0
Amount e = nat_abs e.1 < 2147483648

pub record Fit (x : RestrictedAction) : Type 0 where
  pub constants : All Constant x.conditions
  pub amounts : All Amount x.additions

abbrev pub AllFit : List RestrictedAction → Type 0
AllFit acts = All Fit acts

-- ---- in a task of this shape: the opening or single action of an action with these effects whose parts are x, `next` being its first stage
abbrev pub opening_in : Shape → ℕ → List Effect → RestrictedAction → RestrictedAction
opening_in h next es x = with_opening h.variables h.modes next (lower_of h) (upper_of h) es x

-- an action with its own K's as C on the kept variables, from number j on
abbrev pub with_own : ℕ → SumConditions → RestrictedAction → RestrictedAction
with_own j own x = with_conditions x (on_kept j (conditions_is own))

-- stages numbered from s, of n variables and m modes, their + followed by those on the kept variables; and their bytes
abbrev pub kept_stages : ℕ → List (List (ℕ × ℤ)) → ℕ → ℕ → ℕ → List Stage → List RestrictedAction
kept_stages first sums n m s ds = map (with_kept first sums) (numbered_all n m (stages_actions s ds))

abbrev pub stages_bytes : ℕ → List (List (ℕ × ℤ)) → ℕ → ℕ → ℕ → List Stage → List ℕ
stages_bytes first sums n m s ds = flat_map restricted_action_bytes (kept_stages first sums n m s ds)

-- the whole, its stages being numbered from `from`
abbrev pub macro_with : ℕ → List (List (ℕ × ℤ)) → Shape → ℕ → List Effect → RestrictedAction → List RestrictedAction
macro_with first sums h from es x =
    in_four (with_kept first sums (opening_in h (first_stage from (stages_of (lower_of h) (upper_of h) es)) es x))
    ∷ kept_stages first sums h.variables h.modes from (stages_of (lower_of h) (upper_of h) es)

-- ---- so many sums of a task, by their weights, whose variables are kept from number `first` on
pub record Keeps (first sums : ℕ) (weights : List ℤ) : Type 0 where
  pub few : sums ≤ sum_room
  pub small : WeightsSmall weights
  pub numbers : first + sum_room ≤ 255

-- ---- a row that has one + at most, on a variable by its number in a file, of no more than an action adds
pub record OneAddition (marks : List ℕ) (numbers : List ℤ) : Type 0 where
  pub marks_long : length marks ≡ MARKS
  pub numbers_long : length numbers ≡ NUMBERS
  pub few : natural_at marks addition_count ≤ 1
  pub variable : natural_at marks addition_count ≡ 1 → natural_at marks addition_variable < 256
  pub small : natural_at marks addition_count ≡ 1 → nat_abs (integer_at numbers addition_amount) ≤ most_added

-- ---- an action of a task of this shape: its rows, which have no +, and its effects
pub record Lowerable (h : Shape) (marks : List ℕ) (numbers : List ℤ) (r : Effects) : Type 0 where
  pub bounded : Bounded h
  pub marks_long : length marks ≡ MARKS
  pub numbers_long : length numbers ≡ NUMBERS
  pub no_additions : (row_is marks numbers).additions ≡ []
  pub effects : PlacesOk h.variables r
  pub conditions_few : length (row_is marks numbers).conditions ≤ source_limits.conditions
  pub mode_conditions_few : length (row_is marks numbers).mode_conditions ≤ source_limits.mode_conditions
  pub mode_effects_few : length (row_is marks numbers).mode_effects ≤ source_limits.modes

-- the stages of its effects, and what it becomes, its stages being numbered from `from`
abbrev pub stages_in : Shape → Effects → List Stage
stages_in h r = stages_of (lower_of h) (upper_of h) (effects_is r)

abbrev pub macro_in : Shape → ℕ → SourceAction → List RestrictedAction
macro_in h from a = numbered_all h.variables h.modes (macro (lower_of h) (upper_of h) from a)

-- actions that keep to the rules on restricted files
pub record Sound (acts : List RestrictedAction) : Type 0 where
  pub variables : ℕ
  pub sizes : List ℕ
  pub few : length sizes ≤ restricted_limits.modes
  pub ok : All (RestrictedActionOk restricted_limits variables sizes) acts
