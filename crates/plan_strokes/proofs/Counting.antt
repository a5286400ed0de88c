-- How many restricted actions an action becomes, by its marks: a sum over its effects; and the numbers of the openings, each the one before and the
-- size of its macro.
-- Assumes nothing.
use mathlib.Core.Path.{◌≡◌, refl, sym, ap, ◌∙◌}
use Prim.Native.Nat.{ℕ, suc, ◌+◌, ◌-◌, ◌*◌, ◌≤◌, ◌<◌}
use native.Mathlib.Numerals.{add-one}
use native.Mathlib.Omega.{arith}
use mathlib.Core.Bool.{Bool, true, false}
use mathlib.Core.List.{List, ◌∷◌, []}
use lib.Dec.{ltb}
use lib.ListN.{length, get_or, set, length-set, replicate}
use lib.Seq.{get_or-set_same, get_or-set_other}
use lib.IntN.{ℤ}
use borrow.Author.Tests.{ltb-true, ltb-false}
use Rattle.lists.proofs.Each.{length-tabulate}
use Rattle.model.specs.Tasks.{Effect, SourceAction}
use Rattle.model.specs.Stages.{count_actions, result_stages, stages_of, opening}
use Rattle.model.specs.Following.{makes_macro}
use Rattle.source_step.specs.Row.{kind_at, term_count_at, variable_at, weight_at, terms_at, effect_at, effect_count_at, effects_at}
use Rattle.source_step.specs.Ready.{marks_of}
use Rattle.source_step.proofs.Rows.{Left, left-start, left-next, left-none, row-tabulate}
use Rattle.plan_strokes.specs.Made.{MacroIs}
use Rattle.plan_strokes.specs.Opening.{EffectSized, Sized, Marked, Opened}
use Rattle.plan_strokes.proofs.Effects.{add-kind, linear-kind, by_kind, one-effect, later_effects, several-effects}
use Rattle.plan_strokes.proofs.Sizes.{terms-size, size_of_effects, single-size, one_size, several-size, no-opening-before, opening-next}

-- ---- the size of an effect
module _ (marks : List ℕ) (e : ℕ) where
  abbrev size_of : Effect → ℕ
  size_of f = 9 + count_actions (result_stages f [])

  pub add-size : kind_at marks e ≡ 0 → EffectSized marks e 15
  add-size h = record { is = λ numbers. sym (ap size_of (add-kind marks numbers e h)); few = omega arith }

  pub linear-size : kind_at marks e ≡ 1 → (k : ℕ) → k ≡ term_count_at marks e → EffectSized marks e (9 + 6 * k)
  linear-size h k q = record {
    is = λ numbers. sym (ap size_of (linear-kind marks numbers e h)
        ∙ omega (
          arith,
          q,
          terms-size (terms_at marks numbers e) [],
          length-tabulate {A = ℕ × ℤ} (term_count_at marks e)
              (λ i. (variable_at marks e i, weight_at numbers e i)),
        ));
    few = omega (arith, q);
  }

  pub division-size : 2 ≤ kind_at marks e → EffectSized marks e 21
  division-size h = record {
    is = λ numbers. by_kind marks numbers e (λ f. 21 ≡ size_of f) (λ k. absurd (omega arith)) (λ k. absurd (omega arith)) (λ k. refl) (λ k. refl);
    few = omega arith;
  }

-- ---- the size of a macro
module _ (marks : List ℕ) where
  sized : {r : ℕ} → ((numbers : List ℤ) (lower upper : ℕ → ℤ) → suc (count_actions (stages_of lower upper (effects_at marks numbers))) ≡ r) → r ≤ 100
      → Sized marks r
  sized h l = record {
    is = λ numbers a e lower upper. sym (h numbers lower upper) ∙ ap (λ (es : List Effect). suc (count_actions (stages_of lower upper es))) e;
    few = l;
  }

  -- an action that stays one
  pub stays-one : MacroIs marks false → Sized marks 1
  stays-one m = sized (λ numbers lower upper. single-size lower upper (effects_at marks numbers) (m.is numbers)) (omega arith)

  -- the sizes of the first e effects are summed up
  pub record Summing (size e : ℕ) : Type 0 where
    pub left : (numbers : List ℤ) → Left (effects_at marks numbers) (effect_count_at marks) (effect_at marks numbers) e (λ rest. size + size_of_effects rest)
        (1 + size_of_effects (effects_at marks numbers))
    pub bound : e ≤ effect_count_at marks
    pub few : size ≤ 1 + 33 * e

  pub summing_start : Summing 1 0
  summing_start = record {
    left = λ numbers. left-start (λ rest. 1 + size_of_effects rest) (row-tabulate (effect_count_at marks) (effect_at marks numbers));
    bound = omega arith;
    few = omega arith;
  }

module _ {marks : List ℕ} {size e : ℕ} (g : Summing marks size e) where
  pub summing-next : {r : ℕ} → e < effect_count_at marks → EffectSized marks e r → Summing marks (size + r) (e + 1)
  summing-next {r} h s = record {
    left = λ numbers. left-next (g.left numbers) (λ rest. size + r + size_of_effects rest) h (λ rest. omega (arith, s.is numbers));
    bound = omega arith;
    few = omega (arith, g.few, s.few);
  }

  module _ (h : effect_count_at marks ≤ e) where
    whole : (numbers : List ℤ) → size ≡ 1 + size_of_effects (effects_at marks numbers)
    whole numbers = let l : size + 0 ≡ 1 + size_of_effects (effects_at marks numbers) = left-none (g.left numbers) h in omega arith

    pub one-sized : MacroIs marks true → effect_count_at marks ≡ 1 → (3 ≤ size) × Sized marks (size - 3)
    one-sized m c = (omega (arith, big []), sized marks (λ numbers lower upper. omega (arith, all numbers lower upper)) (omega (arith, g.few, g.bound)))
      where
        only : List ℤ → Effect
        only numbers = effect_at marks numbers 0

        is : (numbers : List ℤ) → size ≡ 1 + size_of_effects (only numbers ∷ [])
        is numbers = whole numbers ∙ ap (λ (es : List Effect). 1 + size_of_effects es) (one-effect marks numbers c)

        big : (numbers : List ℤ) → 9 ≤ size
        big numbers = omega (arith, is numbers)

        macro : (numbers : List ℤ) → makes_macro (only numbers ∷ []) ≡ true
        macro numbers = ap makes_macro (sym (one-effect marks numbers c)) ∙ m.is numbers

        all : (numbers : List ℤ) (lower upper : ℕ → ℤ) → suc (count_actions (stages_of lower upper (effects_at marks numbers))) + 3 ≡ size
        all numbers lower upper =
            ap (λ (es : List Effect). suc (count_actions (stages_of lower upper es)) + 3) (one-effect marks numbers c)
            ∙ one_size lower upper (only numbers) (macro numbers) ∙ sym (is numbers)

    pub several-sized : 2 ≤ effect_count_at marks → Sized marks size
    several-sized c = sized marks (λ numbers lower upper.
        let e = several-effects marks numbers c in
        ap (λ (es : List Effect). suc (count_actions (stages_of lower upper es))) e
        ∙ several-size lower upper (effect_at marks numbers 0) (effect_at marks numbers 1) (later_effects marks numbers)
        ∙ ap (λ (es : List Effect). 1 + size_of_effects es) (sym e) ∙ sym (whole numbers))
        (omega (arith, g.few, g.bound))

-- ---- the openings of the first k actions are known, and `next` is the one of action k
abbrev MarkedAll : List SourceAction → List (List ℕ) → ℕ → Type 0
MarkedAll acts marks count = (k : ℕ) → k < count → Marked acts marks k

pub record Counting (marks : List (List ℕ)) (count : ℕ) (openings : List ℕ) (next k : ℕ) : Type 0 where
  pub bound : k ≤ count
  pub long : length openings ≡ 33
  pub here : (acts : List SourceAction) → MarkedAll acts marks count → (lower upper : ℕ → ℤ) → next ≡ opening lower upper acts k
  pub small : next ≤ 100 * k
  pub is : (acts : List SourceAction) → MarkedAll acts marks count → (lower upper : ℕ → ℤ) (j : ℕ) → j ≤ k → get_or openings j 0 ≡ opening lower upper acts j
  pub few : (j : ℕ) → j ≤ k → get_or openings j 0 ≤ 100 * j

pub counting-start : (marks : List (List ℕ)) (count : ℕ) → Counting marks count (replicate 33 0) 0 0
counting-start marks count = record {
  bound = omega arith;
  long = refl;
  here = λ acts m lower upper. sym (no-opening-before lower upper acts);
  small = omega arith;
  is = λ acts m lower upper j l.
      let e : j ≡ 0 = omega arith in
      rw e (sym (no-opening-before lower upper acts));
  few = λ j l.
      let e : j ≡ 0 = omega arith in
      rw e (omega arith);
}

module _ {marks : List (List ℕ)} {count : ℕ} {openings : List ℕ} {next k : ℕ} where
  pub counting-next : (n : ℕ) → Counting marks count openings next k → k < count → count ≤ 32 → Sized (marks_of marks k) n
      → Counting marks count (set openings (k + 1) (next + n)) (next + n) (k + 1)
  counting-next n g h few s = record {
    bound = omega arith;
    long = length-set openings (k + 1) (next + n) ∙ g.long;
    here = after;
    small = omega (arith, g.small, s.few);
    is = λ acts m lower upper j l.
        by (ltb j (k + 1)) (λ (x : ℕ). x ≡ opening lower upper acts j) j refl l (λ b. g.is acts m lower upper j b)
        (λ e. after acts m lower upper ∙ ap (opening lower upper acts) (sym e));
    few = λ j l. by (ltb j (k + 1)) (λ (x : ℕ). x ≤ 100 * j) j refl l (λ b. g.few j b) (λ e. omega (arith, g.small, s.few));
  }
    where
      after : (acts : List SourceAction) → MarkedAll acts marks count → (lower upper : ℕ → ℤ) → next + n ≡ opening lower upper acts (k + 1)
      after acts m lower upper =
          let a = m k h in
          let o = opening-next lower upper acts k a.action a.found in
          rw (add-one k) (omega (arith, o, g.here acts m lower upper, s.is a.numbers a.action a.effects lower upper))

      by : (b : Bool) (P : ℕ → Type 0) (j : ℕ) → ltb j (k + 1) ≡ b → j ≤ k + 1 → (j ≤ k → P (get_or openings j 0)) → (j ≡ k + 1 → P (next + n))
          → P (get_or (set openings (k + 1) (next + n)) j 0)
      by true P j e l f w =
          let m : j < k + 1 = ltb-true j (k + 1) e in
          rw (get_or-set_other openings (k + 1) j (next + n) 0 (λ q. omega arith)) (f (omega arith))
      by false P j e l f w =
          let m : k + 1 ≤ j = ltb-false j (k + 1) e in
          let q : j ≡ k + 1 = omega arith in
          rw (q, get_or-set_same openings (k + 1) (next + n) 0 (omega (arith, g.long))) (w q)

  pub counting-end : Counting marks count openings next k → count ≤ k → Opened marks count openings
  counting-end g h =
      let b = g.bound in
      record { is = λ acts m lower upper j l. g.is acts m lower upper j (omega arith); few = λ j l. g.few j (omega arith) }
