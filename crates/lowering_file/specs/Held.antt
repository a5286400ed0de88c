-- What is known of an accepted file while its task is lowered.
-- Assumes nothing.
use Rattle.std.specs.Prelude.{◌≡◌, Bool, ℕ, suc, ◌+◌, ◌≤◌, ◌<◌, length, take, drop, ℤ}
use mathlib.Core.List.{List, [], ◌++◌, map, flat_map}
use Rattle.integers.specs.Numbers.{Bytes}
use Rattle.answers.specs.Answer.{given}
use Rattle.commands.specs.Table.{letter_g}
use Rattle.commands.specs.Encoding.{encode}
use Rattle.commands.specs.declared.Command.TheVariants.{End}
use Rattle.model.specs.Tasks.{NumericCondition, SourceVariable, RestrictedAction, RestrictedTask}
use Rattle.model.specs.Decoding.{read_source}
use Rattle.model.specs.Steps.{lower_bounds, upper_bounds, source_start}
use Rattle.model.specs.Stages.{lower_actions, stage_count, hold_count}
use Rattle.model.specs.FourRelations.{in_four}
use Rattle.model.specs.Sums.{sums_of_actions, on_kept, keeping_all}
use Rattle.model.specs.Lowering.{numbered_all, lower_measuring, lower_task}
use Rattle.source_step.specs.Sizes.{VARIABLES}
use Rattle.source_step.specs.Row.{ValuesNear}
use Rattle.source_sums.specs.Found.{task_of, SumsOf}
use Rattle.file_parts.specs.Row.{row_is, Says}
use Rattle.file_parts.specs.With.{with_conditions, with_mode_condition}
use Rattle.file_actions.specs.declared.SumConditions.{SumConditions}
use Rattle.file_actions.specs.Views.{sum_room, sums_is as conditions_is, SumsDecoded}
use Rattle.lowering_stages.specs.declared.Shape.{Shape}
use Rattle.lowering_sums.specs.Views.{sums_in, start_bytes}
use Rattle.lowering_rows.specs.declared.Kept.{Kept as KeptHere}
use Rattle.lowering_rows.specs.Bytes.{restricted_action_bytes, row_bytes, WroteRows}
use Rattle.lowering_file.specs.Parts.{mode_bytes, modes_in, holds_of, GoalWritable}
use Rattle.lowering_file.specs.declared.Declarations.{Declarations}
use Rattle.lowering_file.specs.declared.Put.{Put}

-- R but for its sums, which it measures, and for relation 4
abbrev pub measuring : List ℕ → RestrictedTask
measuring file = lower_measuring (task_of file)

-- the file is accepted, has so many actions, and a task of this shape
pub record Held (file : List ℕ) (count : ℕ) (h : Shape) : Type 0 where
  pub bytes : Bytes file
  pub is : read_source file ≡ given (task_of file)
  pub counted : count ≡ length (task_of file).actions
  pub variables_are : h.variables ≡ length (task_of file).variables
  pub modes_are : h.modes ≡ length (task_of file).modes
  pub lowers_are : take h.variables h.lower ≡ map (λ (b : SourceVariable). b.lower) (task_of file).variables
  pub uppers_are : take h.variables h.upper ≡ map (λ (b : SourceVariable). b.upper) (task_of file).variables

-- besides, the starts and the modes that it declares
pub record Declares (file : List ℕ) (count : ℕ) (d : Declarations) : Type 0 where
  pub held : Held file count d.shape
  pub starts_long : length d.starts ≡ VARIABLES
  pub starts_small : ValuesNear d.shape.variables d.starts
  pub starts_are : take d.shape.variables d.starts ≡ (source_start (task_of file)).values
  pub modes_are : modes_in d.shape.modes d.shape.sizes d.values ≡ (task_of file).modes

-- ---- what R keeps of its sums: the variables behind its others, from the first on
pub record Kept : Type 0 where
  pub first : ℕ
  pub count : ℕ
  pub weights : List ℤ

abbrev pub kept_is : KeptHere → Kept
kept_is k = record { first = k.first; count = k.sums; weights = k.weights.now }

abbrev pub sums_is : Kept → List (List (ℕ × ℤ))
sums_is p = sums_in p.count p.weights

-- where there is no sum any number stands for the first
pub record KeptOf (file : List ℕ) (p : Kept) : Type 0 where
  pub sums : SumsOf file p.count p.weights
  pub first_is : 0 < p.count → p.first ≡ length (measuring file).starts
  pub first_low : p.first ≤ VARIABLES + 5

-- ---- to the rows of an action, x, its K's were pushed as C on the kept variables from number j on, so many
pub record OwnPushed (ks : List (NumericCondition ℕ)) (j : ℕ) (x : RestrictedAction) (marks : List ℕ) (numbers : List ℤ) (r : ℕ) : Type 0 where
  pub own : SumConditions
  pub decoded : SumsDecoded ks own
  pub counted : r ≡ own.count
  pub says : Says (with_conditions x (on_kept j (conditions_is own))) marks numbers

-- ---- the goal: its first sum is kept behind those of the actions, whose first is kept as number `first`
abbrev pub goal_sum : List ℕ → ℕ → ℕ
goal_sum file first = first + length (sums_of_actions (measuring file).actions)

-- of the number of its first sum, in a task with so many
pub record GoalFrom (file : List ℕ) (sums number : ℕ) : Type 0 where
  pub is : 0 < sums → number ≡ goal_sum file (length (measuring file).starts)
  pub low : number + sum_room ≤ 255

-- the goal as an action with no effects, its K's as C on kept variables
abbrev pub goal_of : List ℕ → RestrictedAction
goal_of file = record {
  mode_conditions = (task_of file).goal_modes;
  conditions = on_kept (goal_sum file (length (measuring file).starts)) (task_of file).goal_conditions;
  mode_effects = [];
  additions = [];
}

pub record GoalOf (file : List ℕ) (marks : List ℕ) (numbers : List ℤ) : Type 0 where
  pub writable : GoalWritable marks numbers
  pub is : row_is marks numbers ≡ goal_of file

-- ---- what is left of the lowered actions at source action k, whose stages are numbered from `from`, where they measure the sums
abbrev pub measured_at : List ℕ → ℕ → ℕ → List RestrictedAction
measured_at file from k =
    numbered_all (length (task_of file).variables) (length (task_of file).modes)
    (lower_actions (lower_bounds (task_of file)) (upper_bounds (task_of file)) from (drop k (task_of file).actions))

-- and where R keeps them, the next being on variable j
abbrev pub rest_at : List ℕ → Kept → ℕ → ℕ → ℕ → List RestrictedAction
rest_at file p from k j = keeping_all p.first (sums_is p) j (measured_at file from k)

-- the count of all stages
abbrev pub stages_of_task : List ℕ → ℕ
stages_of_task file = stage_count (lower_bounds (task_of file)) (upper_bounds (task_of file)) (task_of file).actions

-- ---- what the declarations take from the actions: the size of control, and whether some action has several effects
pub record Told (file : List ℕ) (control : ℕ) (several : Bool) : Type 0 where
  pub control_is : control ≡ suc (stages_of_task file)
  pub holds_are : holds_of several ≡ hold_count (task_of file).actions

-- ---- the lowered file by its parts: all U, all M, the actions, and the goal with the end behind it
abbrev pub starts_part : List ℕ → List ℕ
starts_part file = flat_map start_bytes (lower_task (task_of file)).starts

abbrev pub modes_part : List ℕ → List ℕ
modes_part file = flat_map mode_bytes (lower_task (task_of file)).modes

abbrev pub actions_part : List ℕ → List ℕ
actions_part file = flat_map restricted_action_bytes (lower_task (task_of file)).actions

abbrev pub goal_end : List ℕ → List ℕ
goal_end file = row_bytes letter_g (in_four (with_mode_condition (goal_of file) (length (task_of file).modes, 0))) ++ encode End

-- in the order of the file; and with the actions first, as they are counted
abbrev pub in_file_order : List ℕ → List ℕ
in_file_order file = starts_part file ++ (modes_part file ++ (actions_part file ++ (goal_end file ++ [])))

abbrev pub actions_first : List ℕ → List ℕ
actions_first file = actions_part file ++ (starts_part file ++ (modes_part file ++ (goal_end file ++ [])))

-- ---- output with bytes written, rows that are whole, and what the declarations and the goal take from the actions
pub record Acted (file : List ℕ) (first : ℕ) (out : List ℕ) (at : ℕ) (xs after : List ℕ) (p : Put) (marks : List ℕ) (numbers : List ℤ) : Type 0 where
  pub rows : WroteRows out at xs after p.place marks numbers
  pub told : Told file p.control p.several
  pub goal_sum_is : p.goal_sum ≡ goal_sum file first
