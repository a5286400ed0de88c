-- A listing in parts: what is left of it, what the next part holds, and what is left behind that.
-- Assumes nothing.
use Rattle.std.specs.Prelude.{◌≡◌, ℕ, zero, suc, ◌+◌, ◌-◌, ◌*◌, ◌≤◌, cond, List, [], ◌++◌, ltb, length, take, drop, ℤ, Result, Ok, Err}
use Rattle.lists.specs.Writing.{Wrote}
use Rattle.model.specs.Plans.{plan_numbers}
use Rattle.model.specs.Listing.{header, goal_line, refused_line, listing}
use Rattle.source_step.specs.Step.{state}
use Rattle.source_walk.specs.declared.Task.{Task}
use Rattle.answers.specs.Refusals.{number_of}
use Rattle.answers.specs.declared.Refusal.{Refusal as CallRefusal}
use Rattle.source_walk.specs.Opening.{table_of}
use Rattle.listing.specs.Lines.{LINE}
use Rattle.listing.specs.Listed.{Listable, lines_by, lines_to, prices_by}
use Rattle.listing.specs.declared.Sheet.{Sheet}
use Rattle.listing.specs.declared.Rest.{Rest}
use Rattle.listing.specs.declared.Rest.TheVariants.{Refusal, Lines, Nothing}
use Rattle.listing.specs.declared.Part.{Part}

-- bytes that hold every part: `LINE` for each of 128 lines, and 50 for the header and the goal's line, or for a refusal's
abbrev pub PART : ℕ
PART = 29_618

-- the most bytes of a step's line in a listing: a number of six digits, an action of two, a price of six, eight values of at most six
-- characters, and what parts them
abbrev pub LONGEST : ℕ
LONGEST = 73

-- the most bytes of the header and the goal's line, whose total has at most twelve digits, and of a refusal's line
abbrev pub ENDS : ℕ
ENDS = 42

-- the most bytes of a listing of which this is left at first: the text of any plan of so many steps is no longer
abbrev pub most_of : Rest → ℕ
most_of (Refusal number place) = ENDS
most_of (Lines S) = ENDS + LONGEST * S.task.steps
most_of Nothing = ENDS

-- how many bytes must be lent for a text of so many: 0 where there is room for any listing of so many steps
abbrev pub needed_of : ℕ → Rest → ℕ → ℕ
needed_of room rest long = cond (ltb room (most_of rest)) long 0

-- how many lines are left, the header not counted
abbrev pub lines_left : Rest → ℕ
lines_left (Refusal number place) = 1
lines_left (Lines S) = suc (S.task.steps - S.next)
lines_left Nothing = 0

-- what is left at first of the listing of a plan with a verdict
abbrev pub rest_by : Task → Result ℕ CallRefusal → Rest
rest_by t (Ok steps) = Lines (record { task = t; spent = 0; next = 0 })
rest_by t (Err r) = Refusal (number_of r.reason) r.place

-- the header stands before the first step's line
abbrev pub header_at : ℕ → List ℕ
header_at zero = header
header_at (suc next) = []

-- the step up to which at most so many lines go from one on
abbrev pub part_end : ℕ → ℕ → ℕ → ℕ
part_end next most steps = cond (ltb most (steps - next)) (next + most) steps

-- the goal's line stands behind the last step's
abbrev pub goal_at : ℕ → ℕ → ℕ → List ℕ
goal_at until steps total = cond (ltb until steps) [] (goal_line total)

-- ---- by the numbers of the plan, the rows of the task, and the state before the next step

-- the total price of a plan: that of the steps whose lines are written, and of those that are left
abbrev pub total_of : Sheet → List ℕ → List (List ℕ) → List (List ℤ) → List ℤ → List ℕ → ℕ
total_of S p marks numbers values modes = S.spent + prices_by (table_of S.task marks numbers) (drop S.next p) (state values modes)

-- the bytes that are left
abbrev pub left_of : Rest → List ℕ → List (List ℕ) → List (List ℤ) → List ℤ → List ℕ → List ℕ
left_of (Refusal number place) p marks numbers values modes = refused_line number place
left_of (Lines S) p marks numbers values modes =
    header_at S.next
    ++ (lines_by (table_of S.task marks numbers) S.next (drop S.next p) (state values modes)
    ++ goal_line (total_of S p marks numbers values modes))
left_of Nothing p marks numbers values modes = []

-- those of them that a part of at most so many lines holds
abbrev pub part_of : Rest → ℕ → List ℕ → List (List ℕ) → List (List ℤ) → List ℤ → List ℕ → List ℕ
part_of (Refusal number place) most p marks numbers values modes = refused_line number place
part_of (Lines S) most p marks numbers values modes =
    let until : ℕ = part_end S.next most S.task.steps in
    header_at S.next
    ++ (lines_to (table_of S.task marks numbers) S.next until p (state values modes)
    ++ goal_at until S.task.steps (total_of S p marks numbers values modes))
part_of Nothing most p marks numbers values modes = []

-- required of the lines that are left: their steps can be taken, and are all of the plan's from the next on; what the steps before cost, and
-- so what all do, is a number of 64 bits
pub record Unlisted (S : Sheet) (p : List ℕ) (marks : List (List ℕ)) (numbers : List (List ℤ)) (values : List ℤ) (modes : List ℕ) : Type 0 where
  pub steps_are : S.task.steps ≡ length p
  pub listable : Listable (table_of S.task marks numbers) p S.next S.task.steps S.spent values modes

-- required of what is left
abbrev pub Pending : Rest → List ℕ → List (List ℕ) → List (List ℤ) → List ℤ → List ℕ → Type 0
Pending (Refusal number place) p marks numbers values modes = Unit {0}
Pending (Lines S) p marks numbers values modes = Unlisted S p marks numbers values modes
Pending Nothing p marks numbers values modes = Unit {0}

-- ensured of what is left at first: its bytes are the listing, which is no longer than that of any plan of so many steps
pub record Begun (file plan : List ℕ) (rest : Rest) (marks : List (List ℕ)) (numbers : List (List ℤ)) (values : List ℤ) (modes : List ℕ) : Type 0 where
  pub left : left_of rest (plan_numbers plan) marks numbers values modes ≡ listing file plan
  pub pending : Pending rest (plan_numbers plan) marks numbers values modes
  pub short : length (listing file plan) ≤ most_of rest

-- ensured of a part of at most so many lines: it stands at the front of the output, and the rest is left
pub record PutPart (rest : Rest) (most : ℕ) (p : List ℕ) (marks : List (List ℕ)) (numbers : List (List ℤ)) (values : List ℤ) (modes : List ℕ)
    (old after : List ℕ) (r : Part) (values' : List ℤ) (modes' : List ℕ) : Type 0 where
  pub wrote : Wrote old 0 (part_of rest most p marks numbers values modes) after r.count
  pub few : r.count ≤ 50 + LINE * most
  pub left : left_of rest p marks numbers values modes ≡ part_of rest most p marks numbers values modes ++ left_of r.rest p marks numbers values' modes'
  pub pending : Pending r.rest p marks numbers values' modes'
  pub fewer : lines_left r.rest ≤ lines_left rest - 1

-- the same, of output that holds every part: what was left are the first bytes of the output, and what is left
pub record NextPart (rest : Rest) (p : List ℕ) (marks : List (List ℕ)) (numbers : List (List ℤ)) (values : List ℤ) (modes : List ℕ)
    (after : List ℕ) (r : Part) (values' : List ℤ) (modes' : List ℕ) : Type 0 where
  pub left : left_of rest p marks numbers values modes ≡ take r.count after ++ left_of r.rest p marks numbers values' modes'
  pub fits : r.count ≤ length after
  pub pending : Pending r.rest p marks numbers values' modes'
  pub fewer : lines_left r.rest ≤ lines_left rest - 1
