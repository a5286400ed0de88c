-- The effects of a row, by how many there are and of which kinds: whether they make a macro, and what their strokes are.
-- Assumes nothing.
use mathlib.Core.Path.{◌≡◌, refl, sym, ap, ◌∙◌, subst}
use Prim.Native.Nat.{ℕ, zero, suc, ◌-◌, ◌≤◌, ◌<◌}
use native.Mathlib.Omega.{arith}
use mathlib.Core.Bool.{Bool, true, false, not}
use mathlib.Core.List.{List, [], ◌∷◌, ◌++◌}
use lib.Dec.{T, eqb, ltb}
use lib.IntN.{ℤ}
use borrow.Author.Tests.{ne_eqb, eqb-true, eqb-false, ltb-true, ltb-false}
use Rattle.integers.specs.Division.{unit_less, floor, quotient_of, residue_of}
use Rattle.lists.specs.Each.{tabulate}
use Rattle.model.specs.Tasks.{Effect, add_effect, linear_effect, quotient_effect, residue_effect}
use Rattle.model.specs.Steps.{result, results}
use Rattle.model.specs.Following.{makes_macro}
use Rattle.source_step.specs.Row.{kind_at, target_at, operand_at, constant_at, terms_at, effect_of_kind, effect_at, effect_count_at, effects_at}
use Rattle.plan_strokes.specs.Strokes.{term_strokes, result_strokes, held_strokes, set_strokes, single_strokes, strokes_of}
use Rattle.plan_strokes.specs.Made.{MacroIs}

-- ---- effect e of a row, by its kind
module _ (marks : List ℕ) (numbers : List ℤ) (e : ℕ) where
  pub add-kind : kind_at marks e ≡ 0 → effect_at marks numbers e ≡ add_effect (target_at marks e) (constant_at numbers e)
  unfolding effect_of_kind
  add-kind h = rw h

  pub linear-kind : kind_at marks e ≡ 1 → effect_at marks numbers e ≡ linear_effect (target_at marks e) (constant_at numbers e) (terms_at marks numbers e)
  unfolding effect_of_kind
  linear-kind h = rw h

  pub quotient-kind : kind_at marks e ≡ 2 → effect_at marks numbers e ≡ quotient_effect (target_at marks e) (operand_at marks e) (constant_at numbers e)
  unfolding effect_of_kind
  quotient-kind h = rw h

  pub residue-kind : 3 ≤ kind_at marks e → effect_at marks numbers e ≡ residue_effect (target_at marks e) (operand_at marks e) (constant_at numbers e)
  unfolding effect_of_kind
  residue-kind h =
      rw (
        ne_eqb (kind_at marks e) 0 (λ q. omega arith),
        ne_eqb (kind_at marks e) 1 (λ q. omega arith),
        ne_eqb (kind_at marks e) 2 (λ q. omega arith),
      )

  -- what holds of an effect of each kind holds of it
  pub by_kind : (P : Effect → Type 0) → (kind_at marks e ≡ 0 → P (add_effect (target_at marks e) (constant_at numbers e)))
      → (kind_at marks e ≡ 1 → P (linear_effect (target_at marks e) (constant_at numbers e) (terms_at marks numbers e)))
      → (kind_at marks e ≡ 2 → P (quotient_effect (target_at marks e) (operand_at marks e) (constant_at numbers e)))
      → (3 ≤ kind_at marks e → P (residue_effect (target_at marks e) (operand_at marks e) (constant_at numbers e))) → P (effect_at marks numbers e)
  by_kind P add linear quotient residue = go (kind_at marks e) refl
    where
      go : (k : ℕ) → kind_at marks e ≡ k → P (effect_at marks numbers e)
      go zero h = subst P (sym (add-kind h)) (add h)
      go (suc zero) h = subst P (sym (linear-kind h)) (linear h)
      go (suc (suc zero)) h = subst P (sym (quotient-kind h)) (quotient h)
      go (suc (suc (suc k))) h = let l : 3 ≤ kind_at marks e = omega arith in subst P (sym (residue-kind l)) (residue l)

  -- its strokes before Clear; of a division with what it gives behind them
  module _ (v : ℕ → ℤ) where
    abbrev y : ℤ
    y = v (operand_at marks e)

    abbrev c : ℤ
    c = constant_at numbers e

    pub add-strokes : kind_at marks e ≡ 0 → result_strokes (effect_at marks numbers e) v ≡ v (target_at marks e) ∷ v (target_at marks e) ∷ []
    unfolding result_strokes
    add-strokes h = ap (λ (f : Effect). result_strokes f v) (add-kind h)

    pub linear-strokes : kind_at marks e ≡ 1 → result_strokes (effect_at marks numbers e) v ≡ term_strokes (terms_at marks numbers e) v
    unfolding result_strokes
    linear-strokes h = ap (λ (f : Effect). result_strokes f v) (linear-kind h)

    pub quotient-strokes : kind_at marks e ≡ 2 → y ∷ y ∷ floor y (unit_less c) ∷ residue_of y c ∷ quotient_of y c ∷ []
        ≡ result_strokes (effect_at marks numbers e) v ++ (result (effect_at marks numbers e) v ∷ [])
    unfolding result_strokes
    quotient-strokes h = sym (ap (λ (f : Effect). result_strokes f v ++ (result f v ∷ [])) (quotient-kind h))

    pub residue-strokes : 3 ≤ kind_at marks e → y ∷ y ∷ floor y (unit_less c) ∷ quotient_of y c ∷ residue_of y c ∷ []
        ≡ result_strokes (effect_at marks numbers e) v ++ (result (effect_at marks numbers e) v ∷ [])
    unfolding result_strokes
    residue-strokes h = sym (ap (λ (f : Effect). result_strokes f v ++ (result f v ∷ [])) (residue-kind h))

-- ---- how many there are
module _ (marks : List ℕ) (numbers : List ℤ) where
  pub no-effects : effect_count_at marks ≡ 0 → effects_at marks numbers ≡ []
  unfolding tabulate
  no-effects h = ap (λ (k : ℕ). tabulate k (effect_at marks numbers)) h

  pub one-effect : effect_count_at marks ≡ 1 → effects_at marks numbers ≡ effect_at marks numbers 0 ∷ []
  unfolding tabulate
  one-effect h = ap (λ (k : ℕ). tabulate k (effect_at marks numbers)) h

  -- those past the second
  abbrev pub later_effects : List Effect
  later_effects = tabulate (effect_count_at marks - 2) (λ e. effect_at marks numbers (suc (suc e)))

  pub several-effects : 2 ≤ effect_count_at marks → effects_at marks numbers ≡ effect_at marks numbers 0 ∷ effect_at marks numbers 1 ∷ later_effects
  unfolding tabulate
  several-effects h =
      let m : effect_count_at marks ≡ suc (suc (effect_count_at marks - 2)) = omega arith in
      ap (λ (k : ℕ). tabulate k (effect_at marks numbers)) m

-- ---- whether they make a macro
module _ {marks : List ℕ} where
  none_stays : effect_count_at marks ≡ 0 → MacroIs marks false
  none_stays h = record { is = λ numbers. ap makes_macro (no-effects marks numbers h) }

  add-stays : effect_count_at marks ≡ 1 → kind_at marks 0 ≡ 0 → MacroIs marks false
  add-stays h k = record {
    is = λ numbers. ap makes_macro (one-effect marks numbers h) ∙ ap (λ (e : Effect). makes_macro (e ∷ [])) (add-kind marks numbers 0 k);
  }

  one-is-macro : effect_count_at marks ≡ 1 → (kind_at marks 0 ≡ 0 → ⊥) → MacroIs marks true
  one-is-macro h k = record {
    is = λ numbers. ap makes_macro (one-effect marks numbers h)
        ∙ by_kind marks numbers 0 (λ e. makes_macro (e ∷ []) ≡ true) (λ q. absurd (k q)) (λ q. refl) (λ q. refl) (λ q. refl);
  }

  several-are-macro : 2 ≤ effect_count_at marks → MacroIs marks true
  several-are-macro h = record { is = λ numbers. ap makes_macro (several-effects marks numbers h) }

  -- by a test each
  pub one-by-kind : effect_count_at marks ≡ 1 → MacroIs marks (not (eqb (kind_at marks 0) 0))
  one-by-kind h = go (eqb (kind_at marks 0) 0) refl
    where
      go : (b : Bool) → eqb (kind_at marks 0) 0 ≡ b → MacroIs marks (not b)
      go true e = add-stays h (eqb-true (kind_at marks 0) 0 e)
      go false e = one-is-macro h (eqb-false (kind_at marks 0) 0 e)

  pub others-by-count : (effect_count_at marks ≡ 1 → ⊥) → MacroIs marks (ltb 1 (effect_count_at marks))
  others-by-count h = go (ltb 1 (effect_count_at marks)) refl
    where
      go : (b : Bool) → ltb 1 (effect_count_at marks) ≡ b → MacroIs marks b
      go true e = let l : 1 < effect_count_at marks = ltb-true 1 (effect_count_at marks) e in several-are-macro (omega arith)
      go false e = let l : effect_count_at marks ≤ 1 = ltb-false 1 (effect_count_at marks) e in none_stays (omega (arith, h))

  pub macro-has-some : MacroIs marks true → 1 ≤ effect_count_at marks
  macro-has-some m = go (effect_count_at marks) refl
    where
      go : (k : ℕ) → effect_count_at marks ≡ k → 1 ≤ k
      go zero e = absurd (subst T (sym (m.is []) ∙ (none_stays e).is []) tt)
      go (suc k) e = omega arith

  pub stays-few : MacroIs marks false → effect_count_at marks ≤ 1
  stays-few m = go (effect_count_at marks) refl
    where
      go : (k : ℕ) → effect_count_at marks ≡ k → k ≤ 1
      go zero e = omega arith
      go (suc zero) e = omega arith
      go (suc (suc k)) e =
          let l : 2 ≤ effect_count_at marks = omega (arith, e) in absurd (subst T (sym ((several-are-macro l).is []) ∙ m.is []) tt)

-- ---- their strokes
pub no-strokes : (es : List Effect) (v : ℕ → ℤ) → makes_macro es ≡ false → strokes_of es v ≡ []
unfolding strokes_of single_strokes
no-strokes [] v m = refl
no-strokes (add_effect t c ∷ []) v m = refl
no-strokes (linear_effect t w ts ∷ []) v m = absurd (subst T m tt)
no-strokes (quotient_effect t y c ∷ []) v m = absurd (subst T m tt)
no-strokes (residue_effect t y c ∷ []) v m = absurd (subst T m tt)
no-strokes (e ∷ f ∷ es) v m = absurd (subst T m tt)

-- those before the first target is cleared
abbrev pub work_strokes : List Effect → (ℕ → ℤ) → List ℤ
work_strokes [] v = []
work_strokes (e ∷ []) v = result_strokes e v
work_strokes (e ∷ f ∷ es) v = held_strokes (e ∷ f ∷ es) v

pub macro-strokes : (es : List Effect) (v : ℕ → ℤ) → makes_macro es ≡ true → strokes_of es v ≡ work_strokes es v ++ set_strokes (results es v) v
unfolding strokes_of single_strokes
macro-strokes [] v m = absurd (subst T (sym m) tt)
macro-strokes (add_effect t c ∷ []) v m = absurd (subst T (sym m) tt)
macro-strokes (linear_effect t w ts ∷ []) v m = refl
macro-strokes (quotient_effect t y c ∷ []) v m = refl
macro-strokes (residue_effect t y c ∷ []) v m = refl
macro-strokes (e ∷ f ∷ es) v m = refl

-- a single effect's, with what it gives
pub one-held : (e : Effect) (v : ℕ → ℤ) → held_strokes (e ∷ []) v ≡ result_strokes e v ++ (result e v ∷ [])
unfolding held_strokes
one-held e v = refl
