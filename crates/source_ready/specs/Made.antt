-- The parts of the rows of an action, as they are written; and what is asked of an action and of a file.
-- Assumes nothing.
use Rattle.std.specs.Prelude.{◌≡◌, ℕ, min, ◌+◌, ◌*◌, ◌≤◌, ◌<◌, cond, List, [], eqb, length, get_or, take, replicate, set, ℤ, pos, nat_abs}
use Rattle.answers.specs.Answer.{given}
use Rattle.integers.specs.All.{All}
use Rattle.model.specs.Tasks.{NumericCondition, Effect, SourceAction, SourceTask}
use Rattle.model.specs.Limits.{source_limits}
use Rattle.model.specs.TaskOk.{ValuesIn, EffectOk}
use Rattle.model.specs.Steps.{integer_at, natural_at}
use Rattle.model.specs.Decoding.{read_source}
use Rattle.model.specs.ActionBytes.{edge_of}
use Rattle.file_actions.specs.declared.Term.{Term}
use Rattle.file_actions.specs.declared.Effect.{Effect as DecodedEffect}
use Rattle.file_actions.specs.declared.Effects.{Effects}
use Rattle.file_actions.specs.declared.SumConditions.{SumConditions}
use Rattle.file_parts.specs.Row.{mode_conditions_in, mode_effects_in}
use Rattle.file_actions.specs.Views.{term_is, effect_is, effects_is, with_sum_conditions, SumsDecoded}
use Rattle.file_actions.specs.Within.{RowWithin}
use Rattle.file_declarations.specs.Holding.{HoldsSource}
use Rattle.source_ready.specs.declared.Head.{Head}
use Rattle.source_ready.specs.Narrowed.{SizesFit}
use Rattle.source_step.specs.Sizes.{VARIABLES, EFFECTS, SUMS, ROWS, sums_row}
use Rattle.source_step.specs.Layout.{BLOCK, MANY, KIND, TARGET, OPERAND, COUNT, TERM, CONSTANT, WEIGHT, LOWER, UPPER, LINEAR, QUOTIENT, MARKS, NUMBERS}
use Rattle.source_step.specs.Layout.{sum_first}
use Rattle.source_step.specs.Ready.{marks_of, numbers_of, sums_of, RowAt}
use Rattle.source_step.specs.Row.{effect_count_at, kind_at, target_at, constant_at, variable_at, weight_at, effect_of_kind, effect_at, effects_at}
use Rattle.source_step.specs.Row.{sum_first_at, sum_count_at, RowOf}
use Rattle.source_sums.specs.Asked.{Asked}
use Rattle.source_sums.specs.Found.{first_sum, SumsOf, SumsAsk}

-- ---- the terms of block e
abbrev pub term_at : List Term → ℕ → ℕ × ℤ
term_at terms i = term_is (get_or terms i (record { variable = 0; weight = pos 0 }))

-- the first k terms stand in block e, of which term i is f i; the rest is as before
pub record TermsPut (e k : ℕ) (f : ℕ → ℕ × ℤ) (marks : List ℕ) (numbers : List ℤ) (marks' : List ℕ) (numbers' : List ℤ) : Type 0 where
  pub marks_long : length marks' ≡ MARKS
  pub numbers_long : length numbers' ≡ NUMBERS
  pub variables : (i : ℕ) → i < k → variable_at marks' e i ≡ (f i).0
  pub weights : (i : ℕ) → i < k → weight_at numbers' e i ≡ (f i).1
  pub marks_kept : (j : ℕ) → j < TERM + BLOCK * e → natural_at marks' j ≡ natural_at marks j
  pub marks_behind : (j : ℕ) → TERM + BLOCK * e + k ≤ j → natural_at marks' j ≡ natural_at marks j
  pub numbers_kept : (j : ℕ) → j < WEIGHT + BLOCK * e → integer_at numbers' j ≡ integer_at numbers j
  pub numbers_behind : (j : ℕ) → WEIGHT + BLOCK * e + k ≤ j → integer_at numbers' j ≡ integer_at numbers j

-- ---- an effect but for its terms
pub record HeadOf (effect : DecodedEffect) (r : Head) : Type 0 where
  pub is : (terms : List (ℕ × ℤ)) → effect_of_kind r.kind r.target r.operand r.constant terms ≡ effect_is effect terms

-- how many of so many terms count for an effect of a kind
abbrev pub terms_of_kind : ℕ → ℕ → ℕ
terms_of_kind kind terms = cond (eqb kind LINEAR) (min 4 terms) 0

-- ---- the rest of effect e
abbrev pub head_marks : ℕ → ℕ → ℕ → ℕ → ℕ → List ℕ → List ℕ
head_marks e kind target operand count l =
    set (set (set (set l (KIND + BLOCK * e) kind) (TARGET + BLOCK * e) target) (OPERAND + BLOCK * e) operand) (COUNT + BLOCK * e) count

abbrev pub head_numbers : ℕ → ℤ → ℤ → ℤ → List ℤ → List ℤ
head_numbers e c least most l = set (set (set l (CONSTANT + BLOCK * e) c) (LOWER + BLOCK * e) least) (UPPER + BLOCK * e) most

pub record HeadPut (e n : ℕ) (lower upper : List ℤ) (h : Head) (count : ℕ) (marks : List ℕ) (numbers : List ℤ) (marks' : List ℕ) (numbers' : List ℤ) : Type 0 where
  pub marks_are : marks' ≡ head_marks e h.kind h.target h.operand count marks
  pub numbers_are : numbers' ≡ head_numbers e h.constant (integer_at (take n lower) h.target) (integer_at (take n upper) h.target) numbers

-- ---- rows that are 0 from the block of effect e on, but for the marks that name conditions on sums
pub record BlankFrom (e : ℕ) (marks : List ℕ) (numbers : List ℤ) : Type 0 where
  pub marks_long : length marks ≡ MARKS
  pub numbers_long : length numbers ≡ NUMBERS
  pub marks_blank : (j : ℕ) → KIND + BLOCK * e ≤ j → j < sum_first → natural_at marks j ≡ 0
  pub numbers_blank : (j : ℕ) → CONSTANT + BLOCK * e ≤ j → integer_at numbers j ≡ pos 0

-- ---- effect e of rows: it makes no sum, product or quotient that leaves its range
pub record Bounded (e : ℕ) (marks : List ℕ) (numbers : List ℤ) : Type 0 where
  pub constant : nat_abs (constant_at numbers e) ≤ 10000
  pub weights : (i : ℕ) → i < 4 → nat_abs (weight_at numbers e i) ≤ 10000
  pub divides : QUOTIENT ≤ kind_at marks e → 1 ≤ nat_abs (constant_at numbers e)

-- it is this one, with the bounds of its target
pub record BlockIs (e n : ℕ) (lower upper : List ℤ) (f : Effect) (marks : List ℕ) (numbers : List ℤ) : Type 0 where
  pub effect : effect_at marks numbers e ≡ f
  pub bounded : Bounded e marks numbers
  pub target_declared : target_at marks e < n
  pub lower_at : integer_at numbers (LOWER + BLOCK * e) ≡ integer_at (take n lower) (target_at marks e)
  pub upper_at : integer_at numbers (UPPER + BLOCK * e) ≡ integer_at (take n upper) (target_at marks e)

-- it was written into rows that were 0 from its block on
pub record EffectPut (e n : ℕ) (lower upper : List ℤ) (f : Effect) (marks : List ℕ) (numbers : List ℤ) (marks' : List ℕ) (numbers' : List ℤ) : Type 0 where
  pub block : BlockIs e n lower upper f marks' numbers'
  pub marks_kept : (j : ℕ) → j < KIND + BLOCK * e → natural_at marks' j ≡ natural_at marks j
  pub numbers_kept : (j : ℕ) → j < CONSTANT + BLOCK * e → integer_at numbers' j ≡ integer_at numbers j
  pub named : (j : ℕ) → sum_first ≤ j → natural_at marks' j ≡ natural_at marks j
  pub blank : BlankFrom (e + 1) marks' numbers'

-- the effects of rows are these
pub record EffectsAre (n : ℕ) (lower upper : List ℤ) (fs : List Effect) (marks : List ℕ) (numbers : List ℤ) : Type 0 where
  pub effects : effects_at marks numbers ≡ fs
  pub bounded : (e : ℕ) → e < EFFECTS → Bounded e marks numbers
  pub target_declared : (e : ℕ) → e < effect_count_at marks → target_at marks e < n
  pub lower_at : (e : ℕ) → e < effect_count_at marks → integer_at numbers (LOWER + BLOCK * e) ≡ integer_at (take n lower) (target_at marks e)
  pub upper_at : (e : ℕ) → e < effect_count_at marks → integer_at numbers (UPPER + BLOCK * e) ≡ integer_at (take n upper) (target_at marks e)

-- all were written; the marks that name conditions on sums are as before
pub record EffectsPut (n : ℕ) (lower upper : List ℤ) (fs : List Effect) (marks : List ℕ) (numbers : List ℤ) (marks' : List ℕ) (numbers' : List ℤ) : Type 0 where
  pub are : EffectsAre n lower upper fs marks' numbers'
  pub marks_kept : (j : ℕ) → j < MANY → natural_at marks' j ≡ natural_at marks j
  pub named : (j : ℕ) → sum_first ≤ j → natural_at marks' j ≡ natural_at marks j
  pub numbers_kept : (j : ℕ) → j < CONSTANT → integer_at numbers' j ≡ integer_at numbers j

-- ---- the conditions on sums of an action, or of the goal: marks that are 0 but for those that name them
pub record Named (marks : List ℕ) : Type 0 where
  pub long : length marks ≡ MARKS
  pub blank : (j : ℕ) → j < sum_first → natural_at marks j ≡ 0

-- these K's, in a task with so many in all, come behind so many
pub record OwnBehind (ks : List (NumericCondition ℕ)) (total first : ℕ) : Type 0 where
  pub none : total ≡ 0 → ks ≡ []
  pub start : total ≡ 0 → first ≡ 0
  pub room : (own : SumConditions) → SumsDecoded ks own → first + own.count ≤ SUMS

-- they are named, so many from `first` on
pub record OwnNamed (ks : List (NumericCondition ℕ)) (first : ℕ) (marks : List ℕ) (r : ℕ) : Type 0 where
  pub own : SumConditions
  pub decoded : SumsDecoded ks own
  pub counted : r ≡ own.count
  pub named : Named marks
  pub first_is : sum_first_at marks ≡ first
  pub count_is : sum_count_at marks ≡ own.count

-- ---- an action but for its K that keeps to the rules, in a task with these bounds and sizes: its parts row and its effects
pub record RowFits (n m : ℕ) (lower upper : List ℤ) (sizes : List ℕ) (parts : List ℕ) (constants : List ℤ) (effects : Effects) : Type 0 where
  pub few : n ≤ VARIABLES
  pub row : RowWithin source_limits n (take m sizes) parts constants
  pub asks_modes : ValuesIn (take m sizes) (mode_conditions_in parts)
  pub sets_modes : ValuesIn (take m sizes) (mode_effects_in parts)
  pub effects_few : effects.count ≤ EFFECTS
  pub effects_ok : All (EffectOk source_limits n) (effects_is effects)
  pub sizes_fit : SizesFit m sizes
  pub lowers_near : (i : ℕ) → i < n → nat_abs (integer_at lower i) ≤ 10000
  pub uppers_near : (i : ℕ) → i < n → nat_abs (integer_at upper i) ≤ 10000

-- its rows are made, whatever K's it has besides: those that the marks before named
pub record RowMade (n m : ℕ) (lower upper : List ℤ) (sizes : List ℕ) (marks marks' : List ℕ) (numbers' : List ℤ) (a : SourceAction) : Type 0 where
  pub row : (ks : List (NumericCondition ℕ)) (sums : List ℤ) → Asked marks ks sums
      → RowOf n m lower upper sizes marks' numbers' sums (with_sum_conditions a ks)

-- ---- a file
-- action k of it stands between these places
pub record PlacedAt (file places : List ℕ) (k : ℕ) : Type 0 where
  pub start : natural_at places k ≡ edge_of file k
  pub end : natural_at places (k + 1) ≡ edge_of file (k + 1)

-- so does each of its first `count` actions
pub record ActionsPlaced (file places : List ℕ) (count : ℕ) : Type 0 where
  pub each : (k : ℕ) → k < count → PlacedAt file places k

-- where it is accepted, it declares n variables with these bounds, and m modes of these sizes
pub record Declares (file : List ℕ) (n : ℕ) (lower upper : List ℤ) (m : ℕ) (sizes : List ℕ) : Type 0 where
  pub starts : List ℤ
  pub modes : List ℕ
  pub holds : (t : SourceTask) → read_source file ≡ given t → HoldsSource t (record { variables = n; modes = m }) lower upper starts sizes modes

-- tables without the row of an action or of the goal from number k on
pub record BlankRows (k : ℕ) (marks : List (List ℕ)) (numbers : List (List ℤ)) : Type 0 where
  pub marks_long : length marks ≡ ROWS
  pub numbers_long : length numbers ≡ ROWS
  pub marks_blank : (j : ℕ) → k ≤ j → j < sums_row → marks_of marks j ≡ replicate MARKS 0
  pub numbers_blank : (j : ℕ) → k ≤ j → j < sums_row → numbers_of numbers j ≡ replicate NUMBERS (pos 0)

-- the first k of its `count` actions have their rows, in tables with a row for each action, one for the goal and one for the sums, which has all
-- conditions on sums, so many; those of the next begin at `first`
pub record RowsMade (file : List ℕ) (count n : ℕ) (lower upper : List ℤ) (m : ℕ) (sizes : List ℕ) (total k first : ℕ) (marks : List (List ℕ))
    (numbers : List (List ℤ)) : Type 0 where
  pub bound : k ≤ count
  pub blank : BlankRows k marks numbers
  pub sums : SumsOf file total (sums_of numbers)
  pub ask : SumsAsk file count total (sums_of numbers)
  pub first_is : first ≡ first_sum file k
  pub rows : (t : SourceTask) → read_source file ≡ given t → (j : ℕ) → j < k → RowAt t.actions n m lower upper sizes marks numbers j
