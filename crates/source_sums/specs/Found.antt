-- The conditions on sums of an accepted file, all in one row.
-- Assumes nothing.
use Rattle.std.specs.Prelude.{◌≡◌, ℕ, ◌+◌, ◌≤◌, ◌<◌, Bool, true, false, cond, List, [], ◌∷◌, eqb, length, take, get_or, ℤ}
use Rattle.model.specs.Tasks.{NumericCondition, SourceTask}
use Rattle.model.specs.Limits.{source_limits}
use Rattle.model.specs.Reading.{commands_of}
use Rattle.model.specs.Decoding.{sum_conditions_of, source_task_of}
use Rattle.model.specs.ActionBytes.{edge_of, action_part, decode_action}
use Rattle.model.specs.Sums.{sums_of_source_actions, sums_of_source}
use Rattle.file_actions.specs.declared.SumConditions.{SumConditions}
use Rattle.file_actions.specs.Places.{goal_part}
use Rattle.file_actions.specs.Views.{sum_room, sums_is, SumsDecoded}
use Rattle.source_sums.specs.Asked.{Weighs, Asks}
use Rattle.source_sums.specs.Put.{Blank}

-- the task of an accepted file
abbrev pub task_of : List ℕ → SourceTask
task_of file = source_task_of (commands_of source_limits file)

-- where its actions begin, and behind them its goal
abbrev pub PlacesOf : List ℕ → ℕ → List ℕ → Type 0
PlacesOf file count places = (k : ℕ) → k ≤ count → get_or places k 0 ≡ edge_of file k

-- ---- whether a byte stands anywhere in bytes
abbrev pub has_byte : ℕ → List ℕ → Bool
has_byte b [] = false
has_byte b (x ∷ xs) = cond (eqb x b) true (has_byte b xs)

-- ---- how many conditions on sums stand before those of action k, and before those of the goal, whose number is the count of actions
abbrev pub first_sum : List ℕ → ℕ → ℕ
first_sum file k = length (sums_of_source_actions (take k (task_of file).actions))

-- the K's of a part, however they are decoded, are those of the row from `first` on, and those behind them begin at `next`
pub record PartAsks (ks : List (NumericCondition ℕ)) (first next : ℕ) (sums : List ℤ) : Type 0 where
  pub next_is : (own : SumConditions) → SumsDecoded ks own → next ≡ first + own.count
  pub asks : (own : SumConditions) → SumsDecoded ks own → Asks first (sums_is own) sums

-- ---- all of them, those of the actions in order, then those of the goal: how many, and their row
pub record SumsOf (file : List ℕ) (total : ℕ) (sums : List ℤ) : Type 0 where
  pub counted : total ≡ length (sums_of_source (task_of file))
  pub few : total ≤ sum_room
  pub blank : Blank total sums
  pub weighs : Weighs 0 (sums_of_source (task_of file)) sums

-- each action and the goal find their own there
pub record SumsAsk (file : List ℕ) (count total : ℕ) (sums : List ℤ) : Type 0 where
  pub actions : (k : ℕ) → k < count → PartAsks (sum_conditions_of (decode_action (action_part file k))) (first_sum file k) (first_sum file (k + 1)) sums
  pub goal : PartAsks (sum_conditions_of (decode_action (goal_part file count))) (first_sum file count) total sums
  pub below : (k : ℕ) → k ≤ count → first_sum file k ≤ total
