-- Conditions on sums written into the row of a task's sums, one behind another.
-- Assumes nothing.
use Rattle.std.specs.Prelude.{◌≡◌, ℕ, ◌+◌, ◌*◌, ◌≤◌, ◌<◌, List, length, ℤ, pos, nat_abs}
use Rattle.integers.specs.All.{All}
use Rattle.integers.specs.Relation.{Relation, related, between}
use Rattle.model.specs.Tasks.{NumericCondition}
use Rattle.model.specs.Limits.{source_limits}
use Rattle.model.specs.Steps.{integer_at, measure, weigh}
use Rattle.model.specs.TaskOk.{InRange}
use Rattle.file_actions.specs.declared.Term.{Term}
use Rattle.file_actions.specs.declared.SumCondition.{SumCondition}
use Rattle.file_actions.specs.declared.SumConditions.{SumConditions}
use Rattle.file_actions.specs.Views.{sum_room, term_room, terms_is, sums_is, sum_terms_is}
use Rattle.source_step.specs.Sizes.{VARIABLES, SUMS}
use Rattle.source_step.specs.Layout.{NUMBERS, sum_least, sum_most}
use Rattle.source_step.specs.Row.{weights_in, WeightsSmall}
use Rattle.source_sums.specs.Asked.{Weighs, Asks}

-- ---- the row has so many sums, and no weight behind them
pub record Blank (count : ℕ) (sums : List ℤ) : Type 0 where
  pub long : length sums ≡ NUMBERS
  pub blank : (i : ℕ) → VARIABLES * count ≤ i → i < VARIABLES * SUMS → integer_at sums i ≡ pos 0
  pub small : WeightsSmall sums

-- ---- terms of a source file
abbrev pub PartSmall : ℕ × ℤ → Type 0
PartSmall t = (t.0 < VARIABLES) × InRange source_limits t.1

abbrev pub TermSmall : ℕ → List Term → Type 0
TermSmall count terms = All PartSmall (terms_is count terms)

-- a K of one: no more terms than there is room for, and its constant
pub record SumSmall (k : SumCondition) : Type 0 where
  pub few : k.term_count ≤ term_room
  pub terms : TermSmall k.term_count k.terms
  pub constant : nat_abs k.constant ≤ source_limits.sum_constant

-- the K's of one action, or of the goal
pub record OwnSmall (own : SumConditions) : Type 0 where
  pub few : own.count ≤ sum_room
  pub terms_few : All (λ (k : SumCondition). k.term_count ≤ term_room) own.places
  pub terms : All (All PartSmall) (sum_terms_is own)
  pub constants : All (λ (k : NumericCondition ℕ). nat_abs k.constant ≤ source_limits.sum_constant) (sums_is own)

-- ---- the weights of one were put into the row as those of sum j
pub record TermsPut (j : ℕ) (terms : List (ℕ × ℤ)) (sums sums' : List ℤ) : Type 0 where
  pub blank : Blank (j + 1) sums'
  pub before : (i : ℕ) → i < VARIABLES * j → integer_at sums' i ≡ integer_at sums i
  pub ranges : (i : ℕ) → VARIABLES * SUMS ≤ i → integer_at sums' i ≡ integer_at sums i
  pub weighs : (f : ℕ → ℤ) → weigh (weights_in sums' j) f ≡ weigh terms f

-- ---- a range has those numbers, as far as sums go, that stand in a relation to a constant
abbrev pub farthest : ℕ
farthest = 4_000_000_000

pub record RangeIs (r : Relation) (c least most : ℤ) : Type 0 where
  pub asks : (z : ℤ) → nat_abs z ≤ farthest → between least most z ≡ related r z c

-- ---- the first so many sums of the row are as before
pub record SameBelow (count : ℕ) (sums sums' : List ℤ) : Type 0 where
  pub weights : (i : ℕ) → i < VARIABLES * count → integer_at sums' i ≡ integer_at sums i
  pub leasts : (j : ℕ) → j < count → integer_at sums' (sum_least + j) ≡ integer_at sums (sum_least + j)
  pub mosts : (j : ℕ) → j < count → integer_at sums' (sum_most + j) ≡ integer_at sums (sum_most + j)

-- ---- a condition was put into the row as that of number j
pub record SumPut (j : ℕ) (k : NumericCondition ℕ) (sums sums' : List ℤ) : Type 0 where
  pub blank : Blank (j + 1) sums'
  pub before : SameBelow j sums sums'
  pub weighs : (f : ℕ → ℤ) → weigh (weights_in sums' j) f ≡ measure k.measured f
  pub range : RangeIs k.relation k.constant (integer_at sums' (sum_least + j)) (integer_at sums' (sum_most + j))

-- the K's of an action, or of the goal, were, from number `from` on
pub record SumsPut (from : ℕ) (own : SumConditions) (sums sums' : List ℤ) : Type 0 where
  pub blank : Blank (from + own.count) sums'
  pub before : SameBelow from sums sums'
  pub weighs : Weighs from (sum_terms_is own) sums'
  pub asks : Asks from (sums_is own) sums'
