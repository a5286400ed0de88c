-- The terms of an effect, an L, one after the other.
-- Assumes nothing.
use mathlib.Core.Path.{◌≡◌, refl, ap, ap₂, ◌∙◌}
use Prim.Native.Nat.{ℕ, min, ◌+◌, ◌*◌, ◌≤◌, ◌<◌}
use native.Mathlib.Omega.{arith}
use mathlib.Core.Bool.{Bool, true, false}
use mathlib.Core.List.{List}
use lib.Dec.{ltb}
use lib.ListN.{length, length-set, set}
use lib.Seq.{get_or-set_same, get_or-set_other}
use lib.IntN.{ℤ, pos, nat_abs}
use borrow.Author.Tests.{ltb-true, ltb-false}
use Rattle.lists.specs.Each.{tabulate}
use Rattle.model.specs.Steps.{natural_at}
use Rattle.source_step.proofs.Sound.{tabulate-same}
use Rattle.source_step.specs.Sizes.{EFFECTS}
use Rattle.source_step.specs.Layout.{MARKS, NUMBERS, BLOCK, COUNT, TERM, WEIGHT}
use Rattle.source_step.specs.Row.{term_count_at, variable_at, weight_at, terms_at}
use Rattle.source_ready.specs.Made.{TermsPut}

pub terms-begin : (e : ℕ) (f : ℕ → ℕ × ℤ) (marks : List ℕ) (numbers : List ℤ) → length marks ≡ MARKS → length numbers ≡ NUMBERS
    → TermsPut e 0 f marks numbers marks numbers
terms-begin e f marks numbers h g = record {
  marks_long = h;
  numbers_long = g;
  variables = λ i l. absurd (omega arith);
  weights = λ i l. absurd (omega arith);
  marks_kept = λ j l. refl;
  marks_behind = λ j l. refl;
  numbers_kept = λ j l. refl;
  numbers_behind = λ j l. refl;
}

module _ (e : ℕ) (room : e < EFFECTS) (k : ℕ) (f : ℕ → ℕ × ℤ) (marks₀ : List ℕ) (numbers₀ : List ℤ) (marks : List ℕ) (numbers : List ℤ)
    (h : TermsPut e k f marks₀ numbers₀ marks numbers) (few : k < 4) (v : ℕ) (w : ℤ) (is_variable : v ≡ (f k).0) (is_weight : w ≡ (f k).1) where
  abbrev p : ℕ
  p = TERM + BLOCK * e + k

  abbrev q : ℕ
  q = WEIGHT + BLOCK * e + k

  pub terms-more : TermsPut e (k + 1) f marks₀ numbers₀ (set marks p v) (set numbers q w)
  terms-more = record {
    marks_long = length-set marks p v ∙ h.marks_long;
    numbers_long = length-set numbers q w ∙ h.numbers_long;
    variables = λ i l. variable i (ltb i k) l refl;
    weights = λ i l. weight i (ltb i k) l refl;
    marks_kept = λ j l. get_or-set_other marks p j v 0 (λ s. omega arith) ∙ h.marks_kept j l;
    marks_behind = λ j l. get_or-set_other marks p j v 0 (λ s. omega arith) ∙ h.marks_behind j (omega arith);
    numbers_kept = λ j l. get_or-set_other numbers q j w (pos 0) (λ s. omega arith) ∙ h.numbers_kept j l;
    numbers_behind = λ j l. get_or-set_other numbers q j w (pos 0) (λ s. omega arith) ∙ h.numbers_behind j (omega arith);
  }
    where
      variable : (i : ℕ) (b : Bool) → i < k + 1 → ltb i k ≡ b → variable_at (set marks p v) e i ≡ (f i).0
      variable i true l t = let n : i < k = ltb-true i k t in get_or-set_other marks p (TERM + BLOCK * e + i) v 0 (λ s. omega arith) ∙ h.variables i n
      variable i false l t =
          let n : k ≤ i = ltb-false i k t in
          let s : i ≡ k = omega arith in
          rw s (get_or-set_same marks p v 0 (omega (arith, h.marks_long)) ∙ is_variable)

      weight : (i : ℕ) (b : Bool) → i < k + 1 → ltb i k ≡ b → weight_at (set numbers q w) e i ≡ (f i).1
      weight i true l t = let n : i < k = ltb-true i k t in get_or-set_other numbers q (WEIGHT + BLOCK * e + i) w (pos 0) (λ s. omega arith) ∙ h.weights i n
      weight i false l t =
          let n : k ≤ i = ltb-false i k t in
          let s : i ≡ k = omega arith in
          rw s (get_or-set_same numbers q w (pos 0) (omega (arith, h.numbers_long)) ∙ is_weight)

-- ---- k terms, and what is written behind them, of which they know only the count
module _ {e : ℕ} {marks : List ℕ} {numbers : List ℤ} {marks₁ : List ℕ} {numbers₁ : List ℤ} (marks' : List ℕ) (numbers' : List ℤ) (k : ℕ) (f : ℕ → ℕ × ℤ)
    (t : TermsPut e k f marks numbers marks₁ numbers₁) (few : k ≤ 4) (counted : natural_at marks' (COUNT + BLOCK * e) ≡ k)
    (same_variables : (i : ℕ) → i < 4 → variable_at marks' e i ≡ variable_at marks₁ e i)
    (same_weights : (i : ℕ) → i < 4 → weight_at numbers' e i ≡ weight_at numbers₁ e i) where
  terms-count : term_count_at marks' e ≡ k
  terms-count = ap (min 4) counted ∙ omega arith

  pub terms-are : terms_at marks' numbers' e ≡ tabulate k f
  terms-are =
      ap (λ (z : ℕ). tabulate z (λ i. (variable_at marks' e i, weight_at numbers' e i))) terms-count
      ∙ tabulate-same k (λ i. (variable_at marks' e i, weight_at numbers' e i)) f
      (λ i l. ap₂ (λ (x : ℕ) (y : ℤ). (x, y)) (same_variables i (omega arith) ∙ t.variables i l) (same_weights i (omega arith) ∙ t.weights i l))

  -- where there is no term there is no weight
  pub weights-near : ((i : ℕ) → i < 4 → weight_at numbers e i ≡ pos 0) → ((i : ℕ) → i < k → nat_abs (f i).1 ≤ 10000)
      → (i : ℕ) → i < 4 → nat_abs (weight_at numbers' e i) ≤ 10000
  weights-near blank nears i l = go (ltb i k) refl
    where
      go : (p : Bool) → ltb i k ≡ p → nat_abs (weight_at numbers' e i) ≤ 10000
      go true s = let m : i < k = ltb-true i k s in rw (same_weights i l, t.weights i m) (nears i m)
      go false s =
          let m : k ≤ i = ltb-false i k s in
          rw (same_weights i l, t.numbers_behind (WEIGHT + BLOCK * e + i) (omega arith), blank i l) (omega arith)
