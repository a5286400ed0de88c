-- Strokes are made one behind another, in an array of as many as a macro has stages: the terms of an L in a loop, the effects in another, and
-- the targets in a third.
-- Assumes nothing.
use mathlib.Core.Path.{◌≡◌, refl, sym, ap, ap₂, ◌∙◌, subst}
use Prim.Native.Nat.{ℕ, ◌+◌, ◌-◌, ◌*◌, ◌≤◌, ◌<◌}
use native.Mathlib.Numerals.{add-one}
use native.Mathlib.Omega.{arith}
use mathlib.Core.Bool.{Bool, true, false}
use mathlib.Core.List.{List, [], ◌∷◌, ◌++◌, append_assoc, append-nil}
use lib.ListN.{length, get_or, take, set, length-set, length-append}
use lib.Seq.{length-take-le, take-suc-set, take-take, take-append_seam, get_or-set_same, get_or-set_other, get_or-take, get_or-append-add}
use lib.Dec.{ltb}
use borrow.Author.Tests.{ltb-true, ltb-false}
use lib.IntN.{ℤ, pos, negsuc, ◌-ℤ◌, ◌*ℤ◌}
use lib.Signed.{le_z}
use Rattle.integers.specs.Division.{unit_less, floor, quotient_of}
use Rattle.integers.proofs.Parts.{ints, sub, mul-up, mul-down}
use Rattle.lists.proofs.Each.{length-tabulate}
use Rattle.model.specs.Tasks.{Effect}
use Rattle.model.specs.Steps.{integer_at, result}
use Rattle.source_step.specs.Sizes.{EFFECTS}
use Rattle.source_step.specs.Row.{target_at, term_count_at, variable_at, weight_at, terms_at, effect_at, effect_count_at, effects_at, result_at, pairs_of}
use Rattle.source_step.specs.Row.{ResultsAre, Reads}
use Rattle.source_step.proofs.Results.{pairs-are}
use Rattle.source_step.proofs.Rows.{Left, left-start, left-next, left-none, row-tabulate}
use Rattle.plan_strokes.specs.Strokes.{STAGES, term_strokes, result_strokes, held_strokes, set_strokes, strokes_of}
use Rattle.plan_strokes.specs.Made.{More, TermsMade, HeldMade, StrokesMade, MacroIs}
use Rattle.plan_strokes.proofs.Effects.{stays-few, one-effect, several-effects, no-strokes, work_strokes, macro-strokes, one-held}
use Rattle.plan_strokes.proofs.Ranges.{length-terms, result-few, length-set-strokes, held-length, listed}

-- ---- one stroke more, and those of two makings, one behind the other
pub one_more : (times : List ℤ) (at : ℕ) (z : ℤ) → at < STAGES → length times ≡ STAGES → More times at (z ∷ []) (set times at z) (at + 1)
one_more times at z h l = record {
  is = ap (λ (k : ℕ). take k (set times at z)) (add-one at) ∙ take-suc-set times at z (omega arith);
  counted = omega arith;
  long = length-set times at z ∙ l;
}

module _ {times : List ℤ} {at : ℕ} {xs : List ℤ} {times₁ : List ℤ} {r₁ : ℕ} where
  pub then : {ys : List ℤ} {times₂ : List ℤ} {r₂ : ℕ} → More times at xs times₁ r₁ → More times₁ r₁ ys times₂ r₂ → More times at (xs ++ ys) times₂ r₂
  then {ys} m k = record {
    is = k.is ∙ ap (λ (l : List ℤ). l ++ ys) m.is ∙ append_assoc (take at times) xs ys;
    counted = omega (arith, m.counted, k.counted, length-append xs ys);
    long = k.long;
  }

  pub more-as : {ys : List ℤ} → xs ≡ ys → More times at xs times₁ r₁ → More times at ys times₁ r₁
  more-as e m = subst (λ (l : List ℤ). More times at l times₁ r₁) e m

-- ---- what Divide counts is the quotient, or its opposite where c is negative
pub floor-up : (y c : ℤ) → le_z (pos 0) c ≡ true → quotient_of y c ≡ floor y (unit_less c)
floor-up y (pos n) e = omega (ints, mul-up (floor y (unit_less (pos n))) (pos 1), mul-down (floor y (unit_less (pos n))) (pos 1))
floor-up y (negsuc n) e = absurd (omega (ints, e))

pub floor-down : (y c : ℤ) → le_z (pos 0) c ≡ false → pos 0 -ℤ quotient_of y c ≡ floor y (unit_less c)
floor-down y (pos n) e = absurd (omega (ints, e))
floor-down y (negsuc n) e = omega (
  ints,
  sub (pos 0) (floor y (unit_less (negsuc n)) *ℤ negsuc 0),
  mul-up (floor y (unit_less (negsuc n))) (negsuc 0),
  mul-down (floor y (unit_less (negsuc n)))
      (negsuc 0),
)

-- ---- the terms of an L: the strokes made, and behind them those of the terms that are left, are those of all terms
module _ (marks : List ℕ) (e : ℕ) (v : ℕ → ℤ) (times₀ : List ℤ) (at : ℕ) where
  abbrev term : List ℤ → ℕ → ℕ × ℤ
  term numbers i = (variable_at marks e i, weight_at numbers e i)

  pub record Draining (times : List ℤ) (count i : ℕ) : Type 0 where
    pub left : (numbers : List ℤ) → Left (terms_at marks numbers e) (term_count_at marks e) (term numbers) i (λ rest. take count times ++ term_strokes rest v)
        (take at times₀ ++ term_strokes (terms_at marks numbers e) v)
    pub bound : i ≤ term_count_at marks e
    pub counted : count ≡ at + 2 * i
    pub long : length times ≡ STAGES

  pub draining-start : length times₀ ≡ STAGES → Draining times₀ at 0
  draining-start l = record {
    left = λ numbers. left-start (λ rest. take at times₀ ++ term_strokes rest v) (row-tabulate (term_count_at marks e) (term numbers));
    bound = omega arith;
    counted = omega arith;
    long = l;
  }

module _ {marks : List ℕ} {e : ℕ} {v : ℕ → ℤ} {times₀ : List ℤ} {at : ℕ} {times : List ℤ} {count i : ℕ} (d : Draining marks e v times₀ at times count i) where
  pub draining-next : {times' : List ℤ} {r : ℕ} {x : ℤ} → i < term_count_at marks e → x ≡ v (variable_at marks e i) → More times count (x ∷ x ∷ []) times' r
      → Draining marks e v times₀ at times' r (i + 1)
  unfolding term_strokes
  draining-next {times'} {r} {x} h q m = record {
    left = λ numbers. left-next (d.left numbers) (λ rest. take r times' ++ term_strokes rest v) h (λ rest.
        ap (λ (z : List ℤ). z ++ term_strokes rest v) m.is
        ∙ append_assoc (take count times) (x ∷ x ∷ []) (term_strokes rest v)
        ∙ ap (λ (z : ℤ). take count times ++ (z ∷ z ∷ term_strokes rest v)) q);
    bound = omega arith;
    counted = omega (arith, m.counted, d.counted);
    long = m.long;
  }

  pub draining-end : term_count_at marks e ≤ i → TermsMade marks e v times₀ at times count
  unfolding term_strokes
  draining-end h = record {
    more = λ numbers. record {
      is = sym (append-nil (take count times)) ∙ left-none (d.left numbers) h;
      counted = omega (
        arith,
        d.counted,
        d.bound,
        length-terms (terms_at marks numbers e) v,
        length-tabulate {A = ℕ × ℤ} (term_count_at marks e)
            (term marks e v times₀ at numbers),
      );
      long = d.long;
    };
  }

-- ---- the effects up to the last Move into a hold: so too, and what they give
-- the last of strokes made
last_made : {times times' : List ℤ} {at r : ℕ} (zs : List ℤ) (z : ℤ) → at ≤ length times → More times at (zs ++ (z ∷ [])) times' r
    → get_or times' (r - 1) (pos 0) ≡ z
last_made {times} {times'} {at} {r} zs z h m =
    let l : length (zs ++ (z ∷ [])) ≡ length zs + 1 = length-append zs (z ∷ []) in
    let p : r - 1 ≡ length (take at times ++ zs) + 0 = omega (arith, m.counted, length-append (take at times) zs, length-take-le at times h) in
    sym (get_or-take r times' (r - 1) (pos 0) (omega (arith, m.counted)))
    ∙ ap₂ (λ (xs : List ℤ) (k : ℕ). get_or xs k (pos 0)) (m.is ∙ sym (append_assoc (take at times) zs (z ∷ []))) p
    ∙ get_or-append-add (take at times ++ zs) (z ∷ []) 0 (pos 0)

module _ (n : ℕ) (marks : List ℕ) (numbers : List ℤ) (values : List ℤ) where
  pub record Holding (times results : List ℤ) (place e : ℕ) : Type 0 where
    pub left : Left (effects_at marks numbers) (effect_count_at marks) (effect_at marks numbers) e
        (λ rest. take place times ++ held_strokes rest (integer_at (take n values)))
        (held_strokes (effects_at marks numbers) (integer_at (take n values)))
    pub few : place ≤ 9 * e
    pub long : length times ≡ STAGES
    pub given : (j : ℕ) → j < e → integer_at results j ≡ result_at n marks numbers values j
    pub results_long : length results ≡ EFFECTS

  pub holding-start : {times results : List ℤ} → length times ≡ STAGES → length results ≡ EFFECTS → Holding times results 0 0
  holding-start l k = record {
    left = left-start (λ rest. held_strokes rest (integer_at (take n values))) (row-tabulate (effect_count_at marks) (effect_at marks numbers));
    few = omega arith;
    long = l;
    given = λ j h. absurd (omega arith);
    results_long = k;
  }

module _ {n : ℕ} {marks : List ℕ} {numbers : List ℤ} {values : List ℤ} {times results : List ℤ} {place e : ℕ}
    (g : Holding n marks numbers values times results place e) where
  abbrev v : ℕ → ℤ
  v = integer_at (take n values)

  abbrev effect : Effect
  effect = effect_at marks numbers e

  -- the last of the strokes made is one of the times
  pub holding-last : {times' : List ℤ} {r : ℕ} → e < effect_count_at marks
      → More times place (result_strokes effect v ++ (result_at n marks numbers values e ∷ [])) times' r
      → (1 ≤ r) × (r ≤ STAGES)
  holding-last h m =
      let l : length (result_strokes effect v ++ (result effect v ∷ []))
      ≡ length (result_strokes effect v) + 1 = length-append (result_strokes effect v) (result effect v ∷ []) in
      (omega (arith, m.counted), omega (arith, m.counted, g.few, result-few marks numbers e v))

  pub holding-next : {times' : List ℤ} {r : ℕ} → e < effect_count_at marks
      → More times place (result_strokes effect v ++ (result_at n marks numbers values e ∷ [])) times' r
      → Holding n marks numbers values times' (set results e (get_or times' (r - 1) (pos 0))) r (e + 1)
  unfolding held_strokes
  holding-next {times'} {r} h m =
      record {
        left = left-next g.left (λ rest. take r times' ++ held_strokes rest v) h (λ rest.
            ap (λ (z : List ℤ). z ++ held_strokes rest v) m.is
            ∙ append_assoc (take place times) (result_strokes effect v ++ (result effect v ∷ [])) (held_strokes rest v)
            ∙ ap (λ (z : List ℤ). take place times ++ z) (append_assoc (result_strokes effect v) (result effect v ∷ []) (held_strokes rest v)));
        few = omega (arith, m.counted, g.few, length-append (result_strokes effect v) (result effect v ∷ []), result-few marks numbers e v);
        long = m.long;
        given = λ j l. by j l (ltb j e) refl;
        results_long = length-set results e (get_or times' (r - 1) (pos 0)) ∙ g.results_long;
      }
    where
      here : get_or times' (r - 1) (pos 0) ≡ result_at n marks numbers values e
      here = last_made (result_strokes effect v) (result effect v) (omega (arith, g.few, g.long)) m

      by : (j : ℕ) → j < e + 1 → (b : Bool) → ltb j e ≡ b → integer_at (set results e (get_or times' (r - 1) (pos 0))) j ≡ result_at n marks numbers values j
      by j l true q = let m : j < e = ltb-true j e q in
          get_or-set_other results e j (get_or times' (r - 1) (pos 0)) (pos 0) (λ p. omega arith) ∙ g.given j m
      by j l false q = let m : e ≤ j = ltb-false j e q in
          let p : j ≡ e = omega arith in
          rw p (get_or-set_same results e (get_or times' (r - 1) (pos 0)) (pos 0) (omega (arith, g.results_long)) ∙ here)

  pub holding-end : effect_count_at marks ≤ e → HeldMade n marks numbers values times results place
  unfolding held_strokes
  holding-end h =
      let all : take place times ≡ held_strokes (effects_at marks numbers) v = sym (append-nil (take place times)) ∙ left-none g.left h in
      let b : e ≤ effect_count_at marks = g.left.bound in
      record {
        is = all;
        counted = sym (length-take-le place times (omega (arith, g.few, g.long))) ∙ ap length all;
        long = g.long;
        results_are = λ j l. g.given j (omega arith);
        results_long = g.results_long;
      }

-- ---- the targets, each cleared and given its result: so too
module _ (marks : List ℕ) (results : List ℤ) (v : ℕ → ℤ) (times₀ : List ℤ) (at : ℕ) where
  abbrev pair : ℕ → ℕ × ℤ
  pair j = (target_at marks j, integer_at results j)

  pub record Setting (times : List ℤ) (place e : ℕ) : Type 0 where
    pub left : Left (pairs_of marks results) (effect_count_at marks) pair e (λ rest. take place times ++ set_strokes rest v)
        (take at times₀ ++ set_strokes (pairs_of marks results) v)
    pub counted : place ≡ at + 2 * e
    pub long : length times ≡ STAGES

  pub setting-start : length times₀ ≡ STAGES → Setting times₀ at 0
  setting-start l = record {
    left = left-start (λ rest. take at times₀ ++ set_strokes rest v) (row-tabulate (effect_count_at marks) pair);
    counted = omega arith;
    long = l;
  }

module _ {marks : List ℕ} {results : List ℤ} {u : ℕ → ℤ} {times₀ : List ℤ} {at : ℕ} {times : List ℤ} {place e : ℕ}
    (g : Setting marks results u times₀ at times place e) where
  pub setting-next : {times' : List ℤ} {r : ℕ} {x z : ℤ} → e < effect_count_at marks → x ≡ u (target_at marks e) → z ≡ integer_at results e
      → More times place (x ∷ z ∷ []) times' r
      → Setting marks results u times₀ at times' r (e + 1)
  unfolding set_strokes
  setting-next {times'} {r} {x} {z} h p q m = record {
    left = left-next g.left (λ rest. take r times' ++ set_strokes rest u) h (λ rest.
        ap (λ (l : List ℤ). l ++ set_strokes rest u) m.is
        ∙ append_assoc (take place times) (x ∷ z ∷ []) (set_strokes rest u)
        ∙ ap₂ (λ (a b : ℤ). take place times ++ (a ∷ b ∷ set_strokes rest u)) p q);
    counted = omega (arith, m.counted, g.counted);
    long = m.long;
  }

  pub setting-end : effect_count_at marks ≤ e → More times₀ at (set_strokes (pairs_of marks results) u) times place
  unfolding set_strokes
  setting-end h =
      let b : e ≤ effect_count_at marks = g.left.bound in
      record {
        is = sym (append-nil (take place times)) ∙ left-none g.left h;
        counted = omega (arith, g.counted, length-set-strokes u (pairs_of marks results), g.left.row.size);
        long = g.long;
      }

-- ---- what the effect of an action that stays one gives
pub first-given : (n : ℕ) {marks : List ℕ} (numbers values results : List ℤ) (z : ℤ) → MacroIs marks false → length results ≡ EFFECTS
    → z ≡ result_at n marks numbers values 0 → (length (set results 0 z) ≡ EFFECTS) × ResultsAre n marks numbers values (set results 0 z)
first-given n numbers values results z m l q = (
  length-set results 0 z ∙ l,
  λ e h. let p : e ≡ 0 = omega (arith, h, stays-few m) in rw p (get_or-set_same results 0 z (pos 0) (omega (arith, l)) ∙ q),
)

-- ---- all strokes of a row
module _ {n : ℕ} {marks : List ℕ} {numbers : List ℤ} {values : List ℤ} (h : Reads n values marks numbers) where
  abbrev w : ℕ → ℤ
  w = integer_at (take n values)

  module _ {times : List ℤ} {results : List ℤ} where
    pub none_made : MacroIs marks false → length times ≡ STAGES → (length results ≡ EFFECTS) × ResultsAre n marks numbers values results
        → StrokesMade n marks numbers values times results 0
    none_made m l r =
        let e = no-strokes (effects_at marks numbers) w (m.is numbers) in
        record { listed = listed h (sym e) (sym (ap length e)) l; results_are = r.1; results_long = r.0 }

    module _ {place : ℕ} (g : HeldMade n marks numbers values times results place) where
      pub held-few : place ≤ 27
      held-few = omega (arith, g.counted, held-length h)

      -- of a single effect: those before Clear, and what it gives
      module _ (c : effect_count_at marks ≡ 1) where
        abbrev only : Effect
        only = effect_at marks numbers 0

        whole : take place times ≡ result_strokes only w ++ (result only w ∷ [])
        whole = g.is ∙ ap (λ (es : List Effect). held_strokes es w) (one-effect marks numbers c) ∙ one-held only w

        long : place ≡ length (result_strokes only w) + 1
        long = g.counted ∙ ap length (sym g.is ∙ whole) ∙ length-append (result_strokes only w) (result only w ∷ [])

        front : take (place - 1) times ≡ work_strokes (effects_at marks numbers) w
        front =
            sym (take-take (place - 1) place times (omega arith))
            ∙ ap₂ (λ (i : ℕ) (xs : List ℤ). take i xs) {x = place - 1} {y = length (result_strokes only w)} (omega (arith, long)) whole
            ∙ take-append_seam (result_strokes only w) (result only w ∷ []) ∙ ap (λ (es : List Effect). work_strokes es w) (sym (one-effect marks numbers c))

      -- the strokes before Clear, and behind them those of the targets
      made : MacroIs marks true → {at : ℕ} → at ≤ place → take at times ≡ work_strokes (effects_at marks numbers) w → {times' : List ℤ} {r : ℕ}
          → More times at (set_strokes (pairs_of marks results) w) times' r
          → StrokesMade n marks numbers values times' results r
      made m {at} b f {times'} {r} k =
          let p = pairs-are n marks numbers values results g.results_are in
          let all : take r times' ≡ strokes_of (effects_at marks numbers) w =
          k.is ∙ ap₂ (λ (xs : List ℤ) (ps : List (ℕ × ℤ)). xs ++ set_strokes ps w) f p ∙ sym (macro-strokes (effects_at marks numbers) w (m.is numbers)) in
          let c : at ≡ length (take at times) = sym (length-take-le at times (omega (arith, g.long, g.counted, held-length h))) in
          let long : r ≡ length (strokes_of (effects_at marks numbers) w) =
          k.counted ∙ ap (λ (i : ℕ). i + length (set_strokes (pairs_of marks results) w)) c
          ∙ sym (length-append (take at times) (set_strokes (pairs_of marks results) w))
          ∙ sym (ap length k.is) ∙ ap length all in
          record { listed = listed h all long k.long; results_are = g.results_are; results_long = g.results_long }

      pub one-made : MacroIs marks true → effect_count_at marks ≡ 1 → {times' : List ℤ} {r : ℕ}
          → More times (place - 1) (set_strokes (pairs_of marks results) w) times' r
          → StrokesMade n marks numbers values times' results r
      one-made m c k = made m (omega arith) (front c) k

      pub several-made : MacroIs marks true → 2 ≤ effect_count_at marks → {times' : List ℤ} {r : ℕ}
          → More times place (set_strokes (pairs_of marks results) w) times' r
          → StrokesMade n marks numbers values times' results r
      several-made m c k = made m (omega arith) (g.is ∙ all) k
        where
          all : held_strokes (effects_at marks numbers) w ≡ work_strokes (effects_at marks numbers) w
          all = rw (several-effects marks numbers c) refl
