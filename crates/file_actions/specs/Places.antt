-- Where the actions of a file stand: the answers of the code in the words of the definitions.
-- Assumes nothing.
use Rattle.std.specs.Prelude.{◌≡◌, ℕ, suc, ◌+◌, ◌-◌, ◌<◌, cond, List, [], ◌∷◌, eqb, length, get_or, take, drop, Result, Ok, Err}
use Rattle.answers.specs.Answer.{Answer, given, refused}
use Rattle.commands.specs.Table.{size_of_byte}
use Rattle.model.specs.Limits.{Limits}
use Rattle.model.specs.ActionBytes.{edges, edge_of, part_at, action_bytes}
use Rattle.std.specs.declared.ops.Range.{Range}
use Rattle.answers.specs.Refusals.{number_of, answer_by}
use Rattle.answers.specs.declared.Refusal.{Refusal}
use Rattle.file_actions.specs.declared.ActionBytes.{ActionBytes}

-- the offsets of the commands A of a file, and last that of G
abbrev pub edges_of : List ℕ → List ℕ
edges_of file = edges (suc (length file)) 0 file

-- `left` are the offsets of the A's and of G from an offset on
pub record EdgesLeft (file : List ℕ) (at : ℕ) (left : List ℕ) : Type 0 where
  pub most : ℕ
  pub enough : length file < most + at
  pub are : left ≡ edges most at (drop at file)

-- from an offset on, number `number` of them is the k-th of the file's, the one behind it the next, and so on
pub record Sought (file : List ℕ) (k at number : ℕ) : Type 0 where
  pub left : List ℕ
  pub there : EdgesLeft file at left
  pub sought : (j : ℕ) → edge_of file (j + k) ≡ get_or left (j + number) (length file)

-- it was found at r: whichever it is, and the next is number 1 from there
pub record Found (file : List ℕ) (from number r : ℕ) : Type 0 where
  pub is : (k : ℕ) → Sought file k from number → (r ≡ edge_of file k) × Sought file (suc k) r 1

-- the bytes from a start up to an end
abbrev pub part_of : List ℕ → ℕ → ℕ → List ℕ
part_of file start end = take (end - start) (drop start file)

abbrev pub placed_is : Result (Range ℕ) Refusal → Answer (ℕ × ℕ)
placed_is = answer_by (λ r. (r.start, r.end))

-- a place told with its bytes: 0 and where they begin, or the refusal's number and place, and no bytes
abbrev pub bytes_told : Answer (ℕ × ℕ) → List ℕ → ℕ × ℕ × List ℕ
bytes_told (given place) file = (0, place.0, part_at file place)
bytes_told (refused number place) file = (number, place, [])

-- so the code tells it
abbrev pub told_is : Result ActionBytes Refusal → ℕ × ℕ × List ℕ
told_is (Ok a) = (0, a.place, a.bytes.now)
told_is (Err r) = (number_of r.reason, r.place, [])

-- the bytes are those of action k of an accepted file; and of one of its actions
abbrev pub BytesOfAction : Limits → List ℕ → ℕ → List ℕ → Type 0
BytesOfAction l file k bytes = action_bytes l file k ≡ given bytes

pub record BytesOfSome (l : Limits) (file bytes : List ℕ) : Type 0 where
  pub number : ℕ
  pub are : BytesOfAction l file number bytes

-- the place of a refusal where a step by itself asks for its action: 11 is at step 0
abbrev pub step_place : ℕ → ℕ → ℕ
step_place number place = cond (eqb number 11) 0 place

abbrev pub at_step : Refusal → Refusal
at_step r = record { reason = r.reason; place = step_place (number_of r.reason) r.place }

-- the goal of a file stands from its G up to its Z, which is the last byte
abbrev pub goal_from : List ℕ → ℕ → List ℕ
goal_from file place = part_of file place (length file - 1)

-- in a file with so many actions its G is behind them
abbrev pub goal_part : List ℕ → ℕ → List ℕ
goal_part file actions = goal_from file (edge_of file actions)

-- the offset behind the first command of a run of bytes, or 0 where there is none
abbrev pub body_start : List ℕ → ℕ
body_start [] = 0
body_start (b ∷ s) = size_of_byte b
