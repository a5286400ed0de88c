-- Rows that say an action of an accepted task can be used: what the rules on its file say of each list of parts, said of each part by its number.
-- Assumes nothing.
use mathlib.Core.Path.{◌≡◌, sym}
use Prim.Native.Nat.{ℕ, zero, suc, ◌<◌, ◌≤◌}
use native.Mathlib.Omega.{arith}
use mathlib.Core.Bool.{false}
use mathlib.Core.List.{List, [], ◌∷◌}
use lib.Dec.{eqb}
use lib.ListN.{length}
use lib.IntN.{ℤ}
use borrow.Author.Tests.{eqb-false}
use Rattle.integers.specs.All.{All}
use Rattle.lists.specs.Each.{tabulate}
use Rattle.lists.proofs.Each.{length-tabulate}
use Rattle.model.specs.Limits.{restricted_limits}
use Rattle.model.specs.Steps.{natural_at}
use Rattle.model.specs.TaskOk.{Distinct, keys, ValuesIn, AmountOk, ConditionOk, RestrictedActionOk}
use Rattle.model.proofs.ReadingLaws.{length-keys}
use Rattle.file_actions.proofs.Distinct.{few-distinct}
use Rattle.file_parts.specs.Layout.{condition_count, mode_condition_count, mode_effect_count, addition_count}
use Rattle.file_parts.specs.Row.{condition_in, mode_condition_in, mode_effect_in, addition_in, row_is}
use Rattle.restricted_step.specs.Sizes.{VARIABLES, MODES}
use Rattle.restricted_step.specs.Usable.{Usable}

-- a mode that is declared, with a value below its size
abbrev ValueIn : List ℕ → ℕ × ℕ → Type 0
ValueIn sizes e = (e.0 < length sizes) × (e.1 < natural_at sizes e.0)

-- what holds of every part holds of part i
all-at : {A : Type 0} (P : A → Type 0) (n : ℕ) (f : ℕ → A) → All P (tabulate n f) → (i : ℕ) → i < n → P (f i)
unfolding tabulate
all-at P zero f h i l = absurd (omega arith)
all-at P (suc n) f (h, hs) zero l = h
all-at P (suc n) f (h, hs) (suc i) l = all-at P n (λ k. f (suc k)) hs i (omega arith)

-- what holds of every key holds of the key of part i
keys-at : {A : Type 0} (P : ℕ → Type 0) (n : ℕ) (f : ℕ → ℕ × A) → All P (keys (tabulate n f)) → (i : ℕ) → i < n → P (f i).0
unfolding tabulate
keys-at P zero f h i l = absurd (omega arith)
keys-at P (suc n) f (h, hs) zero l = h
keys-at P (suc n) f (h, hs) (suc i) l = keys-at P n (λ k. f (suc k)) hs i (omega arith)

-- where no key is there twice, two parts have two keys
once-at : {A : Type 0} (n : ℕ) (f : ℕ → ℕ × A) → Distinct (keys (tabulate n f)) → (i j : ℕ) → i < n → j < i → (f j).0 ≡ (f i).0 → ⊥
unfolding tabulate
once-at zero f d i j l m e = omega arith
once-at (suc n) f d zero j l m e = omega arith
once-at (suc n) f (h, d) (suc i) zero l m e =
    eqb-false (f (suc i)).0 (f 0).0 (keys-at (λ (k : ℕ). eqb k (f 0).0 ≡ false) n (λ k. f (suc k)) h i (omega arith)) (sym e)
once-at (suc n) f (h, d) (suc i) (suc j) l m e = once-at n (λ k. f (suc k)) d i j (omega arith) (omega arith) e

-- an action sets a mode once, so it has no more effects than there are modes
declared : (sizes : List ℕ) (es : List (ℕ × ℕ)) → ValuesIn sizes es → All (λ (k : ℕ). k < length sizes) (keys es)
declared sizes [] h = tt
declared sizes (e ∷ es) (h, hs) = (h.0, declared sizes es hs)

few-effects : (sizes : List ℕ) (es : List (ℕ × ℕ)) → ValuesIn sizes es → Distinct (keys es) → length es ≤ length sizes
few-effects sizes es h d = omega (arith, length-keys es, few-distinct (length sizes) (keys es) (declared sizes es h) d)

pub usable : (n : ℕ) (sizes marks : List ℕ) (numbers : List ℤ) → n ≤ VARIABLES → length sizes ≤ MODES
    → RestrictedActionOk restricted_limits n sizes (row_is marks numbers) → Usable marks numbers
usable n sizes marks numbers few few_modes ok = record {
  conditions = record {
    few = omega (arith, ok.conditions_ok.conditions_few, length-tabulate (natural_at marks condition_count) (condition_in marks numbers));
    below = λ i l. omega (
      arith,
      (all-at (ConditionOk restricted_limits n) (natural_at marks condition_count) (condition_in marks numbers) ok.conditions_ok.conditions_in i l).measures.0,
    );
  };
  mode_conditions = record {
    few = omega (arith, ok.conditions_ok.mode_conditions_few, length-tabulate (natural_at marks mode_condition_count) (mode_condition_in marks));
    below = λ i l. omega (
      arith,
      (all-at (ValueIn sizes) (natural_at marks mode_condition_count) (mode_condition_in marks) ok.conditions_ok.mode_conditions_in i l).0,
    );
  };
  mode_effects = record {
    few = omega (
      arith,
      few-effects sizes (tabulate (natural_at marks mode_effect_count) (mode_effect_in marks)) ok.mode_effects_in ok.mode_effects_once,
      length-tabulate (natural_at marks mode_effect_count) (mode_effect_in marks),
    );
    below = λ i l. omega (arith, (all-at (ValueIn sizes) (natural_at marks mode_effect_count) (mode_effect_in marks) ok.mode_effects_in i l).0);
  };
  additions = record {
    few = omega (arith, ok.additions_few, length-tabulate (natural_at marks addition_count) (addition_in marks numbers));
    below = λ i l. omega (arith, (all-at (AmountOk restricted_limits n) (natural_at marks addition_count) (addition_in marks numbers) ok.additions_in i l).0);
  };
  amounts = λ i l. (all-at (AmountOk restricted_limits n) (natural_at marks addition_count) (addition_in marks numbers) ok.additions_in i l).1.1;
  once = once-at (natural_at marks addition_count) (addition_in marks numbers) ok.additions_once;
}
