-- K's put into the row, one behind another: each goes into entries of its own, and those before it ask what they did.
-- Assumes nothing.
use mathlib.Core.Path.{◌≡◌, refl, sym, ap, ◌∙◌, subst}
use mathlib.Core.Bool.{Bool, true, false}
use mathlib.Core.List.{List, [], ◌∷◌, ◌++◌}
use Prim.Native.Nat.{ℕ, ◌+◌, ◌*◌, ◌≤◌, ◌<◌}
use native.Mathlib.Nat.{add-zero}
use native.Mathlib.Numerals.{add-one}
use native.Mathlib.Omega.{arith}
use lib.Dec.{ltb}
use lib.ListN.{length, get_or, take, set, length-set}
use lib.Seq.{take_all, take-suc, length-take-le, get_or-set_same, get_or-set_other}
use lib.IntN.{ℤ, pos}
use borrow.Author.Tests.{ltb-true, ltb-false}
use Rattle.integers.specs.Relation.{relation_of}
use Rattle.model.specs.Tasks.{NumericCondition}
use Rattle.model.specs.Steps.{integer_at, weigh}
use Rattle.file_actions.specs.declared.SumCondition.{SumCondition}
use Rattle.file_actions.specs.declared.SumConditions.{SumConditions}
use Rattle.file_actions.specs.Views.{sum_room, sum_is, sums_is, sum_terms_is}
use Rattle.source_step.specs.Sizes.{VARIABLES, SUMS}
use Rattle.source_step.specs.Layout.{sum_least, sum_most}
use Rattle.source_step.specs.Row.{weights_in}
use Rattle.source_sums.specs.Asked.{Asks}
use Rattle.source_sums.specs.Put.{Blank, TermsPut, RangeIs, SameBelow, SumPut, SumsPut}
use Rattle.source_sums.proofs.Asking.{same_start, same-fewer, same_then, same-weights, asks_none, asks-more}
use Rattle.source_sums.proofs.Own.{no_condition, own_at, terms_of, terms-long, terms-at, sums-long, sum-at}
use Rattle.source_sums.proofs.Weighing.{weights-same}

-- ---- the range of a condition behind its weights
module _ (j : ℕ) (place : SumCondition) {sums₀ sums : List ℤ} (room : j < sum_room) (t : TermsPut j (terms_of place) sums₀ sums) (least most : ℤ) where
  abbrev ranged : List ℤ
  ranged = set (set sums (sum_least + j) least) (sum_most + j) most

  other : (i : ℕ) → (i ≡ sum_least + j → ⊥) → (i ≡ sum_most + j → ⊥) → integer_at ranged i ≡ integer_at sums i
  other i p q = get_or-set_other (set sums (sum_least + j) least) (sum_most + j) i most (pos 0) q ∙ get_or-set_other sums (sum_least + j) i least (pos 0) p

  weight : (i : ℕ) → i < VARIABLES * SUMS → integer_at ranged i ≡ integer_at sums i
  weight i l = other i (λ e. omega arith) (λ e. omega arith)

  pub sum-put : RangeIs (relation_of place.relation) place.constant least most → SumPut j (sum_is place) sums₀ ranged
  sum-put r = record {
    blank = record {
      long = length-set (set sums (sum_least + j) least) (sum_most + j) most ∙ length-set sums (sum_least + j) least ∙ t.blank.long;
      blank = λ i l m. weight i m ∙ t.blank.blank i l m;
      small = λ k v l m. rw (weight (VARIABLES * k + v) (omega arith)) (t.blank.small k v l m);
    };
    before = record {
      weights = λ i l. weight i (omega arith) ∙ t.before i l;
      leasts = λ i l. other (sum_least + i) (λ e. omega arith) (λ e. omega arith) ∙ t.ranges (sum_least + i) (omega arith);
      mosts = λ i l. other (sum_most + i) (λ e. omega arith) (λ e. omega arith) ∙ t.ranges (sum_most + i) (omega arith);
    };
    weighs = λ f.
        ap (λ (ts : List (ℕ × ℤ)). weigh ts f) (weights-same sums ranged j (λ v l. weight (VARIABLES * j + v) (omega arith))) ∙ t.weighs f;
    range = subst (λ (a : ℤ). RangeIs (relation_of place.relation) place.constant a (integer_at ranged (sum_most + j))) (sym least_is)
        (subst (RangeIs (relation_of place.relation) place.constant least) (sym most_is) r);
  }
    where
      long : length (set sums (sum_least + j) least) ≡ length sums
      long = length-set sums (sum_least + j) least

      least_is : integer_at ranged (sum_least + j) ≡ least
      least_is = get_or-set_other (set sums (sum_least + j) least) (sum_most + j) (sum_least + j) most (pos 0) (λ e. omega arith)
          ∙ get_or-set_same sums (sum_least + j) least (pos 0) (omega (arith, t.blank.long))

      most_is : integer_at ranged (sum_most + j) ≡ most
      most_is = get_or-set_same (set sums (sum_least + j) least) (sum_most + j) most (pos 0) (omega (arith, t.blank.long, long))

-- ---- the first i of K's are put, from number `from` on
pub record Filling (from : ℕ) (own : SumConditions) (sums₀ sums : List ℤ) (i : ℕ) : Type 0 where
  pub within : i ≤ own.count
  pub blank : Blank (from + i) sums
  pub before : SameBelow from sums₀ sums
  pub weighs : (k : ℕ) → k < i → (f : ℕ → ℤ) → weigh (weights_in sums (from + k)) f ≡ weigh (get_or (sum_terms_is own) k []) f
  pub asks : Asks from (take i (sums_is own)) sums

pub fill_start : {from : ℕ} {sums : List ℤ} (own : SumConditions) → Blank from sums → Filling from own sums sums 0
fill_start {from} {sums} own h = record {
  within = omega arith;
  blank = rw (add-zero from) h;
  before = same_start from sums;
  weighs = λ k l f. absurd (omega arith);
  asks = asks_none from sums;
}

module _ {from : ℕ} {own : SumConditions} {sums₀ sums : List ℤ} {i : ℕ} (all : own.count ≤ length own.places) (h : Filling from own sums₀ sums i) where
  pub fill-next : i < own.count → from + own.count ≤ sum_room → {sums' : List ℤ} → SumPut (from + i) (sum_is (own_at own i)) sums sums'
      → Filling from own sums₀ sums' (i + 1)
  fill-next l room {sums'} p =
      let next : from + (i + 1) ≡ from + i + 1 = omega arith in
      let long : length (sums_is own) ≡ own.count = sums-long own all in
      record {
        within = omega arith;
        blank = rw next p.blank;
        before = same_then h.before (same-fewer p.before from (omega arith));
        weighs = λ k m f. go k m f (ltb k i) refl;
        asks = subst (λ (ks : List (NumericCondition ℕ)). Asks from ks sums')
            (sym (ap (λ (n : ℕ). take n (sums_is own)) (add-one i) ∙ take-suc (sums_is own) i (sum_is no_condition) (omega arith)
            ∙ ap (λ (k : NumericCondition ℕ). take i (sums_is own) ++ k ∷ []) (sum-at own all i l)))
            (asks-more from i (take i (sums_is own)) (sum_is (own_at own i)) sums sums' (length-take-le i (sums_is own) (omega arith)) (omega arith) p h.asks);
      }
    where
      go : (k : ℕ) → k < i + 1 → (f : ℕ → ℤ) (b : Bool) → ltb k i ≡ b → weigh (weights_in sums' (from + k)) f ≡ weigh (get_or (sum_terms_is own) k []) f
      go k m f true e =
          let n : k < i = ltb-true k i e in
          ap (λ (ts : List (ℕ × ℤ)). weigh ts f) (same-weights p.before (from + k) (omega arith)) ∙ h.weighs k n f
      go k m f false e =
          let n : i ≤ k = ltb-false k i e in
          let s : k ≡ i = omega arith in
          rw s (p.weighs f ∙ ap (λ (ts : List (ℕ × ℤ)). weigh ts f) (sym (terms-at own all i l)))

  pub fill_end : own.count ≤ i → SumsPut from own sums₀ sums
  fill_end l =
      let within = h.within in
      let e : own.count ≡ i = omega arith in
      record {
        blank = rw e h.blank;
        before = h.before;
        weighs = λ k m f. h.weighs k (omega (arith, terms-long own all)) f;
        asks = subst (λ (ks : List (NumericCondition ℕ)). Asks from ks sums) (take_all i (sums_is own) (omega (arith, sums-long own all))) h.asks;
      }
