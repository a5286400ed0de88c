-- Actions of an accepted file that are kept in slots, each as its parts rows, with a tag for each slot, which says whose action stands there. A
-- tag that is no action's number says that none does.
-- Assumes nothing.
use Rattle.std.specs.Prelude.{◌≡◌, ℕ, ◌<◌, ◌≤◌, List, [], length, get_or, ℤ}
use Rattle.std.proofs.Math.Option.{some}
use Rattle.std.proofs.Math.ListN.{get_elem?}
use Rattle.integers.specs.Numbers.{Bytes}
use Rattle.answers.specs.Answer.{given}
use Rattle.model.specs.Tasks.{RestrictedAction}
use Rattle.model.specs.Limits.{restricted_limits}
use Rattle.model.specs.Decoding.{read_restricted}
use Rattle.model.specs.ActionBytes.{edge_of}
use Rattle.file_parts.specs.Layout.{MARKS, NUMBERS}
use Rattle.file_parts.specs.Row.{row_is}
use Rattle.restricted_step.specs.Whole.{task_in}

-- ---- where the actions of an accepted file stand
pub record PlacesKept (file places : List ℕ) (count : ℕ) : Type 0 where
  pub bytes : Bytes file
  pub accepted : read_restricted file ≡ given (task_in file)
  pub count_is : count ≡ length (task_in file).actions
  pub places_are : (k : ℕ) → k ≤ count → get_or places k 0 ≡ edge_of file k
  pub few : count ≤ restricted_limits.actions
  pub long : count < length places

-- ---- the action in a slot
abbrev pub slot_is : List (List ℕ) → List (List ℤ) → ℕ → RestrictedAction
slot_is marks numbers s = row_is (get_or marks s []) (get_or numbers s [])

-- a slot that is tagged with an action's number holds this action of the file
pub record Held (file : List ℕ) (count : ℕ) (tags : List ℕ) (marks : List (List ℕ)) (numbers : List (List ℤ)) : Type 0 where
  pub marks_long : length marks ≡ length tags
  pub numbers_long : length numbers ≡ length tags
  pub rows_long : (s : ℕ) → s < length tags → (length (get_or marks s []) ≡ MARKS) × (length (get_or numbers s []) ≡ NUMBERS)
  pub holds : (s : ℕ) → s < length tags → get_or tags s 0 < count → get_elem? (task_in file).actions (get_or tags s 0) ≡ some (slot_is marks numbers s)

-- one slot holds action k, and there are as many slots as before
pub record Kept (file : List ℕ) (count slots slot k : ℕ) (tags : List ℕ) (marks : List (List ℕ)) (numbers : List (List ℤ)) : Type 0 where
  pub held : Held file count tags marks numbers
  pub slots_are : length tags ≡ slots
  pub is : get_elem? (task_in file).actions k ≡ some (slot_is marks numbers slot)
