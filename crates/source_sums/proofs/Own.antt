-- The K's of an action or of the goal, one by one.
-- Assumes nothing.
use mathlib.Core.Path.{◌≡◌, refl, ap, ◌∙◌, subst}
use mathlib.Core.List.{List, [], ◌∷◌}
use Prim.Native.Nat.{ℕ, zero, suc, ◌≤◌, ◌<◌}
use native.Mathlib.Omega.{arith}
use lib.ListN.{length, get_or, take, length-map, get_or-map}
use lib.Seq.{length-take-le, get_or-take}
use lib.IntN.{ℤ, pos, nat_abs}
use Rattle.integers.specs.All.{All}
use Rattle.model.specs.Tasks.{NumericCondition}
use Rattle.model.specs.Limits.{source_limits}
use Rattle.file_actions.specs.declared.SumCondition.{SumCondition}
use Rattle.file_actions.specs.declared.SumConditions.{SumConditions}
use Rattle.file_actions.specs.Views.{term_room, terms_is, sum_is, sums_is, sum_terms_is}
use Rattle.source_sums.specs.Put.{PartSmall, SumSmall, OwnSmall}

-- ---- lists
-- without an element
pub none_of : {A : Type 0} (xs : List A) → length xs ≡ 0 → xs ≡ []
none_of [] e = refl
none_of (x ∷ xs) e = absurd (omega arith)

-- what holds of every element holds of one by number
pub all-at : {A : Type 0} (P : A → Type 0) (xs : List A) (i : ℕ) (d : A) → All P xs → i < length xs → P (get_or xs i d)
all-at P [] i d h l = absurd (omega arith)
all-at P (x ∷ xs) zero d (p, ps) l = p
all-at P (x ∷ xs) (suc i) d (p, ps) l = all-at P xs i d ps (omega arith)

-- ---- a K by number; what stands for one behind them all
abbrev pub no_condition : SumCondition
no_condition = record { relation = 0; constant = pos 0; term_count = 0; terms = [] }

abbrev pub own_at : SumConditions → ℕ → SumCondition
own_at own i = get_or own.places i no_condition

abbrev pub terms_of : SumCondition → List (ℕ × ℤ)
terms_of k = terms_is k.term_count k.terms

module _ (own : SumConditions) (all : own.count ≤ length own.places) where
  pub terms-long : length (sum_terms_is own) ≡ own.count
  terms-long = length-map (take own.count own.places) terms_of ∙ length-take-le own.count own.places all

  pub terms-at : (i : ℕ) → i < own.count → get_or (sum_terms_is own) i [] ≡ terms_of (own_at own i)
  terms-at i l = get_or-map terms_of (take own.count own.places) i no_condition ∙ ap terms_of (get_or-take own.count own.places i no_condition l)

  pub sums-long : length (sums_is own) ≡ own.count
  sums-long = length-map (take own.count own.places) sum_is ∙ length-take-le own.count own.places all

  pub sum-at : (i : ℕ) → i < own.count → get_or (sums_is own) i (sum_is no_condition) ≡ sum_is (own_at own i)
  sum-at i l = get_or-map sum_is (take own.count own.places) i no_condition ∙ ap sum_is (get_or-take own.count own.places i no_condition l)

  -- each is one of a source file
  pub own_at_lem : OwnSmall own → (i : ℕ) → i < own.count → SumSmall (own_at own i)
  own_at_lem h i l = record {
    few = all-at (λ (k : SumCondition). k.term_count ≤ term_room) own.places i no_condition h.terms_few (omega arith);
    terms = subst (All PartSmall) (terms-at i l) (all-at (All PartSmall) (sum_terms_is own) i [] h.terms (omega (arith, terms-long)));
    constant = subst (λ (k : NumericCondition ℕ). nat_abs k.constant ≤ source_limits.sum_constant) (sum-at i l)
        (all-at (λ (k : NumericCondition ℕ). nat_abs k.constant ≤ source_limits.sum_constant) (sums_is own) i (sum_is no_condition) h.constants
        (omega (arith, sums-long)));
  }
