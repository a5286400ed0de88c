-- The marks that name the conditions on sums of an action, or of the goal, in marks of zeros.
-- Assumes nothing.
use mathlib.Core.Path.{◌≡◌, refl, sym, ap, ◌∙◌, subst}
use Prim.Native.Nat.{ℕ}
use native.Mathlib.Omega.{arith}
use mathlib.Core.List.{List, []}
use lib.ListN.{length, length-set, set, replicate, length-replicate}
use lib.Seq.{get_or-set_same, get_or-set_other}
use borrow.Author.Rules.{rules}
use Rattle.model.specs.Tasks.{NumericCondition}
use Rattle.model.specs.Steps.{natural_at}
use Rattle.file_actions.specs.declared.SumConditions.{SumConditions}
use Rattle.file_actions.specs.Numeric.{no_sums}
use Rattle.file_actions.specs.Views.{SumsDecoded}
use Rattle.source_step.specs.Layout.{MARKS, sum_first, sum_count}
use Rattle.source_ready.specs.Made.{OwnNamed}
use Rattle.source_ready.proofs.Making.{zeros-at}

module _ {marks : List ℕ} (zeros : marks ≡ replicate MARKS 0) where
  pub zeros-long : length marks ≡ MARKS
  zeros-long = ap length zeros ∙ length-replicate {A = ℕ} MARKS 0

  zero-at : (j : ℕ) → natural_at marks j ≡ 0
  zero-at j = ap (λ (l : List ℕ). natural_at l j) zeros ∙ zeros-at MARKS 0 j

  -- none, which begin at 0: the marks as they are
  pub none_named : {ks : List (NumericCondition ℕ)} {first : ℕ} → ks ≡ [] → first ≡ 0 → OwnNamed ks first marks 0
  none_named none start = record {
    own = no_sums;
    decoded = subst (λ (z : List (NumericCondition ℕ)). SumsDecoded z no_sums) (sym none)
        (record { are = refl; few = omega arith; long = refl; terms_few = search (rules) });
    counted = refl;
    named = record { long = zeros-long; blank = λ j l. zero-at j };
    first_is = zero-at sum_first ∙ sym start;
    count_is = zero-at sum_count;
  }

  -- the first, and how many they are
  module _ {ks : List (NumericCondition ℕ)} {own : SumConditions} (decoded : SumsDecoded ks own) (first : ℕ) where
    abbrev begun : List ℕ
    begun = set marks sum_first first

    begun-long : length begun ≡ MARKS
    begun-long = length-set marks sum_first first ∙ zeros-long

    pub own-named : {marks' : List ℕ} → marks' ≡ set begun sum_count own.count → OwnNamed ks first marks' own.count
    own-named {marks'} is = record {
      own = own;
      decoded = decoded;
      counted = refl;
      named = record {
        long = ap length is ∙ length-set begun sum_count own.count ∙ begun-long;
        blank = λ j l. at j ∙ get_or-set_other begun sum_count j own.count 0 (λ q. omega arith) ∙ get_or-set_other marks sum_first j first 0 (λ q. omega arith)
            ∙ zero-at j;
      };
      first_is = at sum_first ∙ get_or-set_other begun sum_count sum_first own.count 0 (λ q. omega arith)
          ∙ get_or-set_same marks sum_first first 0 (omega (arith, zeros-long));
      count_is = at sum_count ∙ get_or-set_same begun sum_count own.count 0 (omega (arith, begun-long));
    }
      where
        at : (j : ℕ) → natural_at marks' j ≡ natural_at (set begun sum_count own.count) j
        at j = ap (λ (l : List ℕ). natural_at l j) is
