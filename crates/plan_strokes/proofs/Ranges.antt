-- How many strokes the effects of a row have, and how large they are, over values of a source file.
-- Assumes nothing.
use mathlib.Core.Path.{◌≡◌, refl, sym, ap, subst}
use Prim.Native.Nat.{ℕ, zero, suc, ◌+◌, ◌*◌, ◌≤◌, ◌<◌, zero-le}
use native.Mathlib.Nat.{div-le_self}
use native.Mathlib.Omega.{arith}
use mathlib.Core.Bool.{Bool, true, false}
use mathlib.Core.List.{List, [], ◌∷◌, ◌++◌}
use lib.ListN.{length, take, length-append}
use lib.IntN.{ℤ, pos, negsuc, nat_abs, ◌+ℤ◌, ◌*ℤ◌}
use Rattle.integers.specs.Division.{unit_less, floor, quotient_of, residue_of}
use Rattle.integers.specs.Parts.{Within, EachWithin}
use Rattle.lists.specs.Each.{tabulate}
use Rattle.lists.proofs.Each.{length-tabulate}
use Rattle.model.specs.Tasks.{Effect}
use Rattle.model.specs.Steps.{integer_at, linear, target, result, results}
use Rattle.model.specs.Following.{makes_macro}
use Rattle.model.proofs.StepBounds.{abs-sum}
use Rattle.source_step.specs.Row.{kind_at, target_at, operand_at, constant_at, term_count_at, variable_at, weight_at, terms_at, effect_at, effect_count_at}
use Rattle.source_step.specs.Row.{effects_at}
use Rattle.source_step.specs.Row.{result_at, Reads}
use Rattle.source_step.proofs.InRange.{term-small, quotient-small, residue-small}
use Rattle.source_step.proofs.Numbers.{near}
use Rattle.plan_strokes.specs.Strokes.{STAGES, term_strokes, result_strokes, held_strokes, set_strokes, strokes_of}
use Rattle.plan_strokes.specs.Made.{Listed, MacroIs}
use Rattle.plan_strokes.proofs.Effects.{by_kind, no-strokes, work_strokes, macro-strokes}

-- ---- lists of which each element is small
within_none : {n : ℕ} → EachWithin n []
within_none i = record { within = zero-le }

within_first : {n : ℕ} {x : ℤ} (l : List ℤ) → Within n x → EachWithin n l → EachWithin n (x ∷ l)
within_first l w h zero = w
within_first l w h (suc i) = h i

within_both : {n : ℕ} (l m : List ℤ) → EachWithin n l → EachWithin n m → EachWithin n (l ++ m)
within_both [] m h k = k
within_both (z ∷ l) m h k = within_first (l ++ m) (h 0) (within_both l m (λ i. h (suc i)) k)

-- so is each of the first ones
pub within-front : {n : ℕ} (k : ℕ) (l : List ℤ) → EachWithin n l → EachWithin n (take k l)
within-front zero [] h = within_none
within-front zero (z ∷ l) h = within_none
within-front (suc k) [] h = within_none
within-front (suc k) (z ∷ l) h = within_first (take k l) (h 0) (within-front k l (λ i. h (suc i)))

-- ---- the terms of an L
pub length-terms : (ts : List (ℕ × ℤ)) (v : ℕ → ℤ) → length (term_strokes ts v) ≡ 2 * length ts
unfolding term_strokes
length-terms [] v = refl
length-terms (t ∷ ts) v = omega (arith, length-terms ts v)

abbrev Near : (ℕ → ℤ) → Type 0
Near v = (i : ℕ) → nat_abs (v i) ≤ 10_000

near_within : (z : ℤ) → nat_abs z ≤ 10_000 → Within 1000000000 z
near_within z h = record { within = omega arith }

terms-within : (ts : List (ℕ × ℤ)) (v : ℕ → ℤ) → Near v → EachWithin 1000000000 (term_strokes ts v)
unfolding term_strokes
terms-within [] v n = within_none
terms-within (t ∷ ts) v n =
    let w = near_within (v t.0) (n t.0) in
    within_first (v t.0 ∷ term_strokes ts v) w (within_first (term_strokes ts v) w (terms-within ts v n))

linear-within : (k : ℕ) (f : ℕ → ℕ × ℤ) (v : ℕ → ℤ) (z : ℤ) → Near v → ((i : ℕ) → i < k → nat_abs (f i).1 ≤ 10_000)
    → nat_abs (linear z (tabulate k f) v) ≤ nat_abs z + k * 100_000_000
unfolding tabulate
linear-within zero f v z n w = omega arith
linear-within (suc k) f v z n w =
    let e = near (v (f 0).0) (f 0).1 (n (f 0).0) (w 0 (omega arith)) in
    omega (arith, linear-within k (λ i. f (suc i)) v (z +ℤ v (f 0).0 *ℤ (f 0).1) n (λ i l. w (suc i) (omega arith)), term-small (v (f 0).0) (f 0).1 e z)

-- ---- a division
floor-small : (y : ℤ) (u : ℕ) → nat_abs (floor y u) ≤ nat_abs y
floor-small (pos n) u = div-le_self n (suc u)
floor-small (negsuc n) u = let h = div-le_self n (suc u) in omega arith

-- ---- effect e of a row
module _ {n : ℕ} {values : List ℤ} {marks : List ℕ} {numbers : List ℤ} (h : Reads n values marks numbers) where
  abbrev v : ℕ → ℤ
  v = integer_at (take n values)

  module _ (e : ℕ) (l : e < 3) where
    abbrev c : ℤ
    c = constant_at numbers e

    abbrev y : ℤ
    y = v (operand_at marks e)

    constant-near : nat_abs c ≤ 10_000
    constant-near = h.effects.constants e (omega arith)

    quotient-within : Within 1000000000 (quotient_of y c)
    quotient-within = record { within = omega (arith, quotient-small y c, h.near (operand_at marks e)) }

    residue-within : 2 ≤ kind_at marks e → Within 1000000000 (residue_of y c)
    residue-within k = record { within = omega (arith, residue-small y c (h.effects.divides e l k), constant-near) }

    divided-within : (z : ℤ) → Within 1000000000 z → EachWithin 1000000000 (y ∷ y ∷ floor y (unit_less c) ∷ z ∷ [])
    divided-within z w =
        let o = near_within y (h.near (operand_at marks e)) in
        let f : Within 1000000000 (floor y (unit_less c)) = record { within = omega (arith, floor-small y (unit_less c), h.near (operand_at marks e)) } in
        within_first (y ∷ floor y (unit_less c) ∷ z ∷ []) o
        (within_first (floor y (unit_less c) ∷ z ∷ []) o (within_first (z ∷ []) f (within_first [] w within_none)))

    pub result-within : Within 1000000000 (result_at n marks numbers values e)
    result-within = by_kind marks numbers e (λ f. Within 1000000000 (result f v))
        (λ k. record { within = omega (arith, abs-sum (v (target_at marks e)) c, h.near (target_at marks e), constant-near) })
        (λ k. record {
          within = omega (
            arith,
            constant-near,
            linear-within (term_count_at marks e) (λ i. (variable_at marks e i, weight_at numbers e i)) v c h.near
                (λ i m. h.effects.weights e i (omega arith) (omega arith)),
          );
        })
        (λ k. quotient-within)
        (λ k. residue-within (omega arith))

    strokes-within : EachWithin 1000000000 (result_strokes (effect_at marks numbers e) (integer_at (take n values)))
    unfolding result_strokes
    strokes-within = by_kind marks numbers e (λ f. EachWithin 1000000000 (result_strokes f v))
        (λ k. let w = near_within (v (target_at marks e)) (h.near (target_at marks e)) in within_first (v (target_at marks e) ∷ []) w
        (within_first [] w within_none))
        (λ k. terms-within (terms_at marks numbers e) v h.near)
        (λ k. divided-within (residue_of y c) (residue-within (omega arith)))
        (λ k. divided-within (quotient_of y c) quotient-within)

pub result-few : (marks : List ℕ) (numbers : List ℤ) (e : ℕ) (u : ℕ → ℤ) → length (result_strokes (effect_at marks numbers e) u) ≤ 8
unfolding result_strokes
result-few marks numbers e u = by_kind marks numbers e (λ f. length (result_strokes f u) ≤ 8)
    (λ k. omega arith)
    (λ k. omega (
      arith,
      length-terms (terms_at marks numbers e) u,
      length-tabulate {A = ℕ × ℤ} (term_count_at marks e)
          (λ i. (variable_at marks e i, weight_at numbers e i)),
    ))
    (λ k. omega arith)
    (λ k. omega arith)

-- ---- effects given by number
module _ (u : ℕ → ℤ) where
  pub length-set-strokes : (ps : List (ℕ × ℤ)) → length (set_strokes ps u) ≡ 2 * length ps
  unfolding set_strokes
  length-set-strokes [] = refl
  length-set-strokes (p ∷ ps) = omega (arith, length-set-strokes ps)

  length-results : (es : List Effect) → length (results es u) ≡ length es
  length-results [] = refl
  length-results (e ∷ es) = ap suc (length-results es)

  pub length-of-sets : (es : List Effect) → length (set_strokes (results es u) u) ≡ 2 * length es
  length-of-sets es = omega (arith, length-set-strokes (results es u), length-results es)

  -- so many strokes
  held-few : (k : ℕ) (f : ℕ → Effect) → ((i : ℕ) → length (result_strokes (f i) u) ≤ 8) → length (held_strokes (tabulate k f) u) ≤ 9 * k
  unfolding tabulate held_strokes
  held-few zero f h = omega arith
  held-few (suc k) f h =
      let rest = held_strokes (tabulate k (λ i. f (suc i))) u in
      omega (arith, length-append (result_strokes (f 0) u) (result (f 0) u ∷ rest), h 0, held-few k (λ i. f (suc i)) (λ i. h (suc i)))

  few-strokes : (k : ℕ) (f : ℕ → Effect) → ((i : ℕ) → length (result_strokes (f i) u) ≤ 8) → length (strokes_of (tabulate k f) u) ≤ 11 * k
  unfolding tabulate
  few-strokes k f h = by (makes_macro (tabulate k f)) refl
    where
      work-few : (k : ℕ) (f : ℕ → Effect) → ((i : ℕ) → length (result_strokes (f i) u) ≤ 8) → length (work_strokes (tabulate k f) u) ≤ 9 * k
      work-few zero f h = omega arith
      work-few (suc zero) f h = omega (arith, h 0)
      work-few (suc (suc k)) f h = held-few (suc (suc k)) f h

      by : (b : Bool) → makes_macro (tabulate k f) ≡ b → length (strokes_of (tabulate k f) u) ≤ 11 * k
      by true m = omega (
        arith,
        ap length (macro-strokes (tabulate k f) u m),
        length-append (work_strokes (tabulate k f) u)
            (set_strokes (results (tabulate k f) u) u),
        work-few k f h,
        length-of-sets (tabulate k f),
        length-tabulate k f,
      )
      by false m = omega (arith, ap length (no-strokes (tabulate k f) u m))

  -- each of them small
  module _ (near : Near u) where
    abbrev Small : (ℕ → Effect) → ℕ → Type 0
    Small f k = (i : ℕ) → i < k → EachWithin 1000000000 (result_strokes (f i) u) × Within 1000000000 (result (f i) u)

    held-within : (k : ℕ) (f : ℕ → Effect) → Small f k → EachWithin 1000000000 (held_strokes (tabulate k f) u)
    unfolding tabulate held_strokes
    held-within zero f h = within_none
    held-within (suc k) f h =
        let rest = held_strokes (tabulate k (λ i. f (suc i))) u in
        within_both (result_strokes (f 0) u) (result (f 0) u ∷ rest) (h 0 (omega arith)).0
        (within_first rest (h 0 (omega arith)).1 (held-within k (λ i. f (suc i)) (λ i l. h (suc i) (omega arith))))

    set-within : (k : ℕ) (f : ℕ → Effect) → Small f k → EachWithin 1000000000 (set_strokes (results (tabulate k f) u) u)
    unfolding tabulate set_strokes
    set-within zero f h = within_none
    set-within (suc k) f h =
        let rest = set_strokes (results (tabulate k (λ i. f (suc i))) u) u in
        within_first (result (f 0) u ∷ rest) (near_within (u (target (f 0))) (near (target (f 0))))
        (within_first rest (h 0 (omega arith)).1 (set-within k (λ i. f (suc i)) (λ i l. h (suc i) (omega arith))))

    small-strokes : (k : ℕ) (f : ℕ → Effect) → Small f k → EachWithin 1000000000 (strokes_of (tabulate k f) u)
    unfolding tabulate
    small-strokes k f h = by (makes_macro (tabulate k f)) refl
      where
        work-within : (k : ℕ) (f : ℕ → Effect) → Small f k → EachWithin 1000000000 (work_strokes (tabulate k f) u)
        work-within zero f h = within_none
        work-within (suc zero) f h = (h 0 (omega arith)).0
        work-within (suc (suc k)) f h = held-within (suc (suc k)) f h

        by : (b : Bool) → makes_macro (tabulate k f) ≡ b → EachWithin 1000000000 (strokes_of (tabulate k f) u)
        by true m = subst (EachWithin 1000000000) (sym (macro-strokes (tabulate k f) u m))
            (within_both (work_strokes (tabulate k f) u) (set_strokes (results (tabulate k f) u) u) (work-within k f h) (set-within k f h))
        by false m = subst (EachWithin 1000000000) (sym (no-strokes (tabulate k f) u m)) within_none

-- ---- all strokes of a row
module _ {n : ℕ} {values : List ℤ} {marks : List ℕ} {numbers : List ℤ} (h : Reads n values marks numbers) where
  pub held-length : length (held_strokes (effects_at marks numbers) (integer_at (take n values))) ≤ 9 * effect_count_at marks
  held-length = held-few (integer_at (take n values)) (effect_count_at marks) (effect_at marks numbers)
      (λ e. result-few marks numbers e (integer_at (take n values)))

  pub listed : {times : List ℤ} {r : ℕ} → take r times ≡ strokes_of (effects_at marks numbers) (integer_at (take n values))
      → r ≡ length (strokes_of (effects_at marks numbers) (integer_at (take n values))) → length times ≡ STAGES
      → Listed (strokes_of (effects_at marks numbers) (integer_at (take n values))) times r
  listed e c l = record {
    is = e;
    counted = c;
    few = omega (
      arith,
      c,
      few-strokes (integer_at (take n values)) (effect_count_at marks) (effect_at marks numbers)
          (λ j. result-few marks numbers j (integer_at (take n values))),
    );
    long = l;
    within = small-strokes (integer_at (take n values)) h.near (effect_count_at marks) (effect_at marks numbers)
        (λ j m. let k : j < 3 = omega arith in (strokes-within h j k, result-within h j k));
  }

-- those of a macro end in a Clear and a Move for each effect
pub sets-there : {marks : List ℕ} → MacroIs marks true → (numbers : List ℤ) (u : ℕ → ℤ)
    → 2 * effect_count_at marks ≤ length (strokes_of (effects_at marks numbers) u)
sets-there {marks} m numbers u =
    let es = effects_at marks numbers in
    omega (
      arith,
      ap length (macro-strokes es u (m.is numbers)),
      length-append (work_strokes es u) (set_strokes (results es u) u),
      length-of-sets u es,
      length-tabulate (effect_count_at marks) (effect_at marks numbers),
    )
