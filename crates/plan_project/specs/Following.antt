-- A restricted plan followed by source steps, by the rows of their actions: what a source step makes of the plan from a place on, and what the
-- whole plan comes to.
-- Assumes nothing.
use Rattle.std.specs.Prelude.{◌≡◌, ℕ, min, ◌+◌, ◌-◌, ◌*◌, ◌<◌, ◌≤◌, Bool, true, false, cond, ◌&&◌, List, [], eqb, ltb, length, drop, take, set, ℤ, Result, Ok, Err}
use Rattle.std.proofs.Math.Option.{Option, none}
use Rattle.answers.specs.Answer.{Answer, given, refused}
use Rattle.model.specs.Tasks.{State}
use Rattle.model.specs.Steps.{integer_at}
use Rattle.model.specs.Following.{strayed, makes_macro, past_macro, into_macro, project_over}
use Rattle.source_step.specs.Row.{effect_count_at, effects_at, first_outside, held, Stepped}
use Rattle.source_step.specs.Ready.{marks_of, numbers_of, sums_of}
use Rattle.source_step.specs.Table.{Table, held_by, step_by, goal_by, effects_by, values_by}
use Rattle.plan_strokes.specs.Strokes.{strokes_of, step_numbers, price_of_strokes}
use Rattle.plan_project.specs.Sources.{source_in, OpenedBy}
use Rattle.answers.specs.Refusals.{refusal_is}
use Rattle.answers.specs.declared.Refusal.{Refusal}

-- what a plan comes to, from what its next source step comes to and what follows at the place behind it
abbrev pub goes_on : Result ℕ Refusal → List ℕ → (ℕ → List ℕ → Answer (List ℕ)) → Answer (List ℕ)
goes_on (Ok j) q onward = onward j (drop j q)
goes_on (Err r) q onward = refusal_is r

-- it answers so, whatever follows
abbrev pub Answers : Result ℕ Refusal → List ℕ → ((ℕ → List ℕ → Answer (List ℕ)) → Answer (List ℕ)) → Type 0
Answers r q answer = (onward : ℕ → List ℕ → Answer (List ℕ)) → goes_on r q onward ≡ answer onward

-- where it goes on, it does further on in the plan, and only where the step applied
abbrev pub Further : Bool → ℕ → List ℕ → Result ℕ Refusal → Type 0
Further applied i q (Ok j) = (applied ≡ true) × (i < j) × (j ≤ length q)
Further applied i q (Err r) = Unit {0}

-- ---- where a plan goes astray at a place
abbrev pub strayed_at : ℕ → List ℕ → ℕ → Answer (List ℕ)
strayed_at total q place = strayed total place (drop place q)

-- where it has the first `matched` of the `size` numbers of a step from place i on: what follows, or astray
abbrev pub past_at : ℕ → ℕ → ℕ → ℕ → List ℕ → (ℕ → List ℕ → Answer (List ℕ)) → Answer (List ℕ)
past_at total i matched size q onward = cond (eqb matched size) (onward (i + matched) (drop (i + matched) q)) (strayed_at total q (i + matched))

-- the same where the last of them doesn't apply
abbrev pub into_at : ℕ → ℕ → ℕ → ℕ → List ℕ → Answer (List ℕ)
into_at total i matched size q = strayed_at total q (i + min matched (size - 1))

-- ---- the walk to the dead end of an action whose opening applies, and of whose results one is out of bounds
-- of so many strokes, with so many effects: those up to the Move to the target of effect `first`, the first whose result is. Behind it each target
-- has a Clear and a Move
abbrev pub strokes_walked : ℕ → ℕ → ℕ → ℕ
strokes_walked count effects first = count - 2 * (effects - 1 - first)

-- its numbers: those of these strokes and their turns, and not the last turn
abbrev pub dead_end_walk : ℕ → ℕ → ℕ → List ℤ → List ℕ
dead_end_walk opening effects first zs = take (price_of_strokes (take (strokes_walked (length zs) effects first) zs) - 1) (step_numbers opening zs)

-- ---- the action of two rows, in a state
module _ (n m : ℕ) (marks : List ℕ) (numbers sums values : List ℤ) (modes : List ℕ) where
  -- it becomes a macro, and its opening applies
  abbrev pub opens_at : Bool
  opens_at = makes_macro (effects_at marks numbers) && held n m marks numbers sums values modes

  -- the numbers that it becomes, from that of its opening
  abbrev pub numbers_at : ℕ → List ℕ
  numbers_at opening = step_numbers opening (strokes_of (effects_at marks numbers) (integer_at (take n values)))

  -- those up to where it hangs
  abbrev pub dead_end_at : ℕ → List ℕ
  dead_end_at opening =
      dead_end_walk opening (effect_count_at marks) (first_outside n marks numbers values) (strokes_of (effects_at marks numbers) (integer_at (take n values)))

  -- what the plan comes to from place i on, the action being the one that stands there, whether or not it applied
  abbrev pub turned : ℕ → ℕ → List ℕ → ℕ → Bool → (ℕ → List ℕ → Answer (List ℕ)) → Answer (List ℕ)
  turned total i q opening applied onward =
      cond applied (past_macro total (numbers_at opening) i (drop i q) onward)
      (cond opens_at (into_macro total (dead_end_at opening) i (drop i q)) (refused 12 i))

  -- it was taken there, and the plan compared with its numbers
  pub record Advanced (total i : ℕ) (q : List ℕ) (opening : ℕ) (r : Result ℕ Refusal) (values' : List ℤ) (modes' : List ℕ) : Type 0 where
    pub applied : Bool
    pub stepped : Stepped n m marks numbers sums values modes applied values' modes'
    pub answers : Answers r q (turned total i q opening applied)
    pub further : Further applied i q r

-- ---- the actions of a table: those past the last have no steps
module _ (T : Table) where
  abbrev pub step_in : State → ℕ → Option State
  step_in x k = cond (ltb k T.count) (step_by T x k) none

  abbrev pub opens_in : State → ℕ → Bool
  opens_in x k = cond (ltb k T.count) (makes_macro (effects_by T k) && held_by T x k) false

  -- the numbers that action k becomes, its opening being so numbered
  abbrev pub numbers_in : (ℕ → ℕ) → State → ℕ → List ℕ
  numbers_in opening x k = step_numbers (opening k) (cond (ltb k T.count) (strokes_of (effects_by T k) (values_by T x)) [])

  -- and those up to where it hangs
  abbrev pub dead_end_in : (ℕ → ℕ) → State → ℕ → List ℕ
  dead_end_in opening x k =
      dead_end_at T.variables T.modes (marks_of T.marks k) (numbers_of T.numbers k) (sums_of T.numbers) x.values x.modes (opening k)

  -- what a plan projects to by them from step i on, in state x; the restricted task has `total` actions
  abbrev pub project_by : ℕ → List ℕ → (ℕ → ℕ) → ℕ → ℕ → List ℕ → State → Answer (List ℕ)
  project_by total sources opening = project_over total step_in (goal_by T) (source_in sources) (numbers_in opening) (dead_end_in opening) opens_in

-- ---- the first source numbers that are found, noted in a list of 512
abbrev pub noted_at : List ℕ → ℕ → ℕ → List ℕ
noted_at noted i a = cond (ltb i 512) (set noted i a) noted

pub record Notes (noted kept : List ℕ) : Type 0 where
  pub long : length noted ≡ 512
  pub are : length kept ≤ 512 → take (length kept) noted ≡ kept

-- what a plan comes to once its steps are followed: the source numbers found, where the goal is met
abbrev pub followed_to : Result ℕ Refusal → Bool → ℕ → List ℕ → Answer (List ℕ)
followed_to (Ok found) met steps numbers = cond met (given numbers) (refused 13 steps)
followed_to (Err r) met steps numbers = refusal_is r

abbrev pub found_in : Result ℕ Refusal → ℕ → ℕ
found_in (Ok found) n = found
found_in (Err r) n = n

-- a plan was followed from x to x': r; `kept` are the source numbers found
pub record PlanFollowed (T : Table) (total : ℕ) (sources q : List ℕ) (x : State) (r : Result ℕ Refusal) (x' : State) (noted : List ℕ) : Type 0 where
  pub kept : List ℕ
  pub notes : Notes noted kept
  pub counted : found_in r (length kept) ≡ length kept
  pub few : length kept ≤ length q
  pub meets : (opening : ℕ → ℕ) → OpenedBy opening sources
      → project_by T total sources opening (length q) 0 q x ≡ followed_to r (goal_by T x') (length q) kept
