-- The K's of an action or of the goal, one by one, and the C's that they become: what is made of the first, with what is left, is the whole.
-- Assumes nothing.
use mathlib.Core.Path.{◌≡◌, refl, sym, ap, ◌∙◌}
use mathlib.Core.List.{List, [], ◌∷◌, ◌++◌, map, append_assoc, append-nil}
use Prim.Native.Nat.{ℕ, zero, suc, ◌+◌, ◌≤◌, ◌<◌}
use native.Mathlib.Nat.{add-zero}
use native.Mathlib.Omega.{arith}
use lib.ListN.{length, get_or, take, drop, length-append}
use lib.IntN.{ℤ, pos}
use Rattle.integers.specs.All.{All}
use Rattle.lists.proofs.Each.{length-tabulate}
use Rattle.lists.proofs.Loops.{There, there-all, rest_more, rest-none}
use Rattle.model.specs.Tasks.{NumericCondition, RestrictedAction}
use Rattle.model.specs.Steps.{natural_at}
use Rattle.model.specs.Sums.{on_kept}
use Rattle.file_parts.specs.Layout.{MARKS, NUMBERS, condition_count, mode_condition_count, mode_effect_count, addition_count}
use Rattle.file_parts.specs.Row.{condition_in, mode_condition_in, mode_effect_in, addition_in, row_is, PartsFit, Says}
use Rattle.file_parts.specs.With.{condition, with_condition, with_conditions}
use Rattle.file_parts.proofs.Pushing.{parts-fit, says-as, pushed}
use Rattle.file_actions.specs.declared.SumCondition.{SumCondition}
use Rattle.file_actions.specs.declared.SumConditions.{SumConditions}
use Rattle.file_actions.specs.Views.{sum_room, sum_is as condition_is, sums_is as conditions_is}

-- ---- what holds of every element holds of one by number
pub all-at : {A : Type 0} (P : A → Type 0) (xs : List A) (i : ℕ) (d : A) → All P xs → i < length xs → P (get_or xs i d)
all-at P [] i d h l = absurd (omega arith)
all-at P (x ∷ xs) zero d (p, ps) l = p
all-at P (x ∷ xs) (suc i) d (p, ps) l = all-at P xs i d ps (omega arith)

-- ---- a K by number; what stands for one behind them all
abbrev pub no_condition : SumCondition
no_condition = record { relation = 0; constant = pos 0; term_count = 0; terms = [] }

abbrev pub own_at : SumConditions → ℕ → SumCondition
own_at own i = get_or own.places i no_condition

-- ---- the first i are pushed as C, on the variables from v on
pub record Becoming (marks₀ : List ℕ) (numbers₀ : List ℤ) (v : ℕ) (own : SumConditions) (i : ℕ) (marks : List ℕ) (numbers : List ℤ) : Type 0 where
  pub here : There own.count own.places own.count
  pub bound : i ≤ own.count
  pub made : List (NumericCondition ℕ)
  pub size : length made ≡ i
  pub says : Says (with_conditions (row_is marks₀ numbers₀) made) marks numbers
  pub same : made ++ on_kept (v + i) (map condition_is (drop i (take own.count own.places))) ≡ on_kept v (conditions_is own)

pub become-start : {marks : List ℕ} {numbers : List ℤ} (v : ℕ) (own : SumConditions) → own.count ≤ length own.places
    → length marks ≡ MARKS → length numbers ≡ NUMBERS → Becoming marks numbers v own 0 marks numbers
become-start {marks} {numbers} v own l h g = record {
  here = there-all own.count own.places l;
  bound = omega arith;
  made = [];
  size = refl;
  says = record { marks_long = h; numbers_long = g; is = rw append-nil };
  same = rw (add-zero v);
}

module _ {marks₀ : List ℕ} {numbers₀ : List ℤ} {v : ℕ} {own : SumConditions} {i : ℕ} {marks : List ℕ} {numbers : List ℤ}
    (h : Becoming marks₀ numbers₀ v own i marks numbers) where
  abbrev x : RestrictedAction
  x = row_is marks₀ numbers₀

  pub become-room : i < sum_room → PartsFit sum_room 0 0 0 marks₀ → PartsFit 1 0 0 0 marks
  become-room l r = parts-fit h.says (record {
    conditions = omega (
      arith,
      r.conditions,
      h.size,
      length-append x.conditions h.made,
      length-tabulate (natural_at marks₀ condition_count) (condition_in marks₀ numbers₀),
    );
    mode_conditions = omega (arith, r.mode_conditions, length-tabulate (natural_at marks₀ mode_condition_count) (mode_condition_in marks₀));
    mode_effects = omega (arith, r.mode_effects, length-tabulate (natural_at marks₀ mode_effect_count) (mode_effect_in marks₀));
    additions = omega (arith, r.additions, length-tabulate (natural_at marks₀ addition_count) (addition_in marks₀ numbers₀));
  })

  pub become-next : i < own.count → {marks' : List ℕ} {numbers' : List ℤ}
      → Says (with_condition (row_is marks numbers) (condition (v + i) (own_at own i).relation (own_at own i).constant)) marks' numbers'
      → Becoming marks₀ numbers₀ v own (i + 1) marks' numbers'
  become-next l w =
      let rest = drop (i + 1) (take own.count own.places) in
      let from : drop i (take own.count own.places) ≡ own_at own i ∷ rest = rest_more no_condition h.here l in
      let more = condition (v + i) (own_at own i).relation (own_at own i).constant ∷ [] in
      let next : v + (i + 1) ≡ v + i + 1 = omega arith in
      record {
        here = h.here;
        bound = omega arith;
        made = h.made ++ more;
        size = omega (arith, length-append h.made more, h.size);
        says = says-as (pushed h.says with_condition w)
            (ap (λ (z : List (NumericCondition ℕ)). record {
              mode_conditions = x.mode_conditions;
              conditions = z;
              mode_effects = x.mode_effects;
              additions = x.additions;
            })
            (append_assoc x.conditions h.made more));
        same = ap (λ (n : ℕ). (h.made ++ more) ++ on_kept n (map condition_is rest)) next
            ∙ append_assoc h.made more (on_kept (v + i + 1) (map condition_is rest))
            ∙ ap (λ (z : List SumCondition). h.made ++ on_kept (v + i) (map condition_is z)) (sym from)
            ∙ h.same;
      }

  pub become-end : own.count ≤ i → Says (with_conditions (row_is marks₀ numbers₀) (on_kept v (conditions_is own))) marks numbers
  become-end l =
      let none : drop i (take own.count own.places) ≡ [] = rest-none h.here h.bound l in
      let all : h.made ++ on_kept (v + i) (map condition_is (drop i (take own.count own.places))) ≡ h.made = rw none (append-nil h.made) in
      says-as h.says (ap (with_conditions x) (sym all ∙ h.same))
