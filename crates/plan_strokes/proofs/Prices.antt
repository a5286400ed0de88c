-- THE LAW: the price of a step is that of its strokes. It is counted stroke by stroke.
-- Assumes nothing.
use mathlib.Core.Path.{◌≡◌, refl, sym, ap, ◌∙◌}
use Prim.Native.Nat.{ℕ, ◌+◌, ◌*◌, ◌≤◌, ◌<◌}
use native.Mathlib.Omega.{arith}
use mathlib.Core.Bool.{Bool, true, false}
use mathlib.Core.List.{List, [], ◌∷◌}
use lib.ListN.{length, get_or, take, drop, drop_of_length-le}
use lib.Seq.{drop-cons}
use native.Mathlib.Numerals.{add-one}
use lib.IntN.{ℤ, pos, nat_abs}
use Rattle.integers.specs.Division.{unit_less, floor}
use Rattle.integers.specs.Parts.{EachWithin}
use Rattle.lists.proofs.Loops.{and_left}
use Rattle.model.specs.Tasks.{Effect, add_effect, linear_effect, quotient_effect, residue_effect}
use Rattle.model.specs.Steps.{integer_at, result, results}
use Rattle.model.specs.Expansion.{magnitudes, price_of_result, price_of_held, price_of_effects}
use Rattle.model.proofs.StageValues.{sign-cost}
use Rattle.std.specs.Prelude.{Result, Ok, Err}
use Rattle.source_step.specs.Row.{effects_at, held, stays_in, Finished}
use Rattle.source_step.proofs.Taking.{not-held, behind-the-test}
use Rattle.plan_strokes.specs.Strokes.{term_strokes, result_strokes, held_strokes, set_strokes, single_strokes, strokes_of, price_of_strokes}
use Rattle.plan_strokes.specs.Made.{StrokesMade, MacroIs, Turned, priced}
use Rattle.plan_strokes.proofs.Effects.{no-strokes}
use Rattle.plan_strokes.proofs.Walks.{steps_of, steps-of-both}

-- ---- the price of effects is that of their strokes
price-of-terms : (ts : List (ℕ × ℤ)) (v : ℕ → ℤ) → 2 * length ts + 2 * magnitudes ts v ≡ steps_of (term_strokes ts v)
unfolding term_strokes
price-of-terms [] v = refl
price-of-terms (t ∷ ts) v = omega (arith, price-of-terms ts v)

price-of-result : (e : Effect) (v : ℕ → ℤ) → price_of_result e v ≡ steps_of (result_strokes e v)
unfolding result_strokes
price-of-result (add_effect t c) v = omega arith
price-of-result (linear_effect t w ts) v = price-of-terms ts v
price-of-result (quotient_effect t y c) v = omega (arith, sign-cost (floor (v y) (unit_less c)) c)
price-of-result (residue_effect t y c) v = omega (arith, sign-cost (floor (v y) (unit_less c)) c)

price-of-held : (es : List Effect) (v : ℕ → ℤ) → price_of_held es v ≡ steps_of (held_strokes es v) + steps_of (set_strokes (results es v) v)
unfolding held_strokes set_strokes
price-of-held [] v = refl
price-of-held (e ∷ es) v = omega (arith, price-of-result e v, price-of-held es v, steps-of-both (result_strokes e v) (result e v ∷ held_strokes es v))

pub price-is : (es : List Effect) (v : ℕ → ℤ) → price_of_effects es v ≡ price_of_strokes (strokes_of es v)
unfolding strokes_of single_strokes set_strokes
price-is [] v = refl
price-is (add_effect t c ∷ []) v = refl
price-is (linear_effect t w ts ∷ []) v =
    let e = linear_effect t w ts in omega (arith, price-of-result e v, steps-of-both (result_strokes e v) (set_strokes (results (e ∷ []) v) v))
price-is (quotient_effect t y c ∷ []) v =
    let e = quotient_effect t y c in omega (arith, price-of-result e v, steps-of-both (result_strokes e v) (set_strokes (results (e ∷ []) v) v))
price-is (residue_effect t y c ∷ []) v =
    let e = residue_effect t y c in omega (arith, price-of-result e v, steps-of-both (result_strokes e v) (set_strokes (results (e ∷ []) v) v))
price-is (e ∷ f ∷ es) v =
    omega (arith, price-of-held (e ∷ f ∷ es) v, steps-of-both (held_strokes (e ∷ f ∷ es) v) (set_strokes (results (e ∷ f ∷ es) v) v))

-- ---- the price so far, and behind it that of the strokes that are left
pub record Pricing (zs : List ℤ) (price i : ℕ) : Type 0 where
  pub bound : i ≤ length zs
  pub same : price + steps_of (drop i zs) ≡ price_of_strokes zs
  pub few : price ≤ 1 + i * 1000000001

pub pricing-start : (zs : List ℤ) → Pricing zs 1 0
pricing-start zs = record { bound = omega arith; same = omega arith; few = omega arith }

module _ {zs : List ℤ} {price i : ℕ} (g : Pricing zs price i) where
  pub pricing-next : i < length zs → EachWithin 1000000000 zs → (m : ℕ) → m ≡ nat_abs (get_or zs i (pos 0)) → Pricing zs (price + (m + 1)) (i + 1)
  pricing-next h w m e =
      let r = ap steps_of (drop-cons zs i (pos 0) h ∙ ap (λ (k : ℕ). get_or zs i (pos 0) ∷ drop k zs) (sym (add-one i))) in
      record { bound = omega arith; same = omega (arith, r, e, g.same); few = omega (arith, e, (w i).within, g.few) }

  pub pricing-end : length zs ≤ i → price ≡ price_of_strokes zs
  pricing-end h = let r = ap steps_of (drop_of_length-le zs h) in omega (arith, r, g.same)

-- ---- a step: it was not taken, or priced and finished
module _ {n m : ℕ} {marks : List ℕ} {numbers sums values : List ℤ} {modes : List ℕ} where
  pub turned-away : held n m marks numbers sums values modes ≡ false → Turned n m marks numbers sums values modes (Err 0) values modes
  turned-away e = record { stepped = not-held sums e; price = rw e refl; few = omega arith }

  module _ (e : held n m marks numbers sums values modes ≡ true) where
    at_price : {p : ℕ} → p ≡ price_of_effects (effects_at marks numbers) (integer_at (take n values)) → p ≤ 40000000000 → (r : Bool)
        {values' : List ℤ} {modes' : List ℕ} → Finished n m marks numbers values modes r values' modes'
        → Turned n m marks numbers sums values modes (priced r p) values' modes'
    at_price q l true F = record { stepped = behind-the-test sums e F; price = rw e q; few = l }
    at_price q l false F = record { stepped = behind-the-test sums e F; price = rw e q; few = l }

    pub turned-single : MacroIs marks false → (r : Bool) {values' : List ℤ} {modes' : List ℕ} → Finished n m marks numbers values modes r values' modes'
        → Turned n m marks numbers sums values modes (priced r 1) values' modes'
    turned-single s r F =
        let es = effects_at marks numbers in
        let v = integer_at (take n values) in
        at_price (sym (price-is es v ∙ ap price_of_strokes (no-strokes es v (s.is numbers)))) (omega arith) r F

    pub turned : {times results : List ℤ} {count : ℕ} → StrokesMade n marks numbers values times results count
        → (p : ℕ) → (p ≡ price_of_strokes (take count times)) × (p ≤ 40000000000) → (r : Bool) {values' : List ℤ} {modes' : List ℕ}
        → Finished n m marks numbers values modes r values' modes'
        → Turned n m marks numbers sums values modes (priced r p) values' modes'
    turned s p q r F = at_price (q.0 ∙ ap price_of_strokes s.listed.is ∙ sym (price-is _ _)) q.1 r F

  -- what a step cost that was taken
  pub applied-price : {p : ℕ} {values' : List ℤ} {modes' : List ℕ} → Turned n m marks numbers sums values modes (Ok p) values' modes'
      → p ≡ price_of_effects (effects_at marks numbers) (integer_at (take n values))
  applied-price t =
      t.price ∙ rw (and_left (held n m marks numbers sums values modes) (stays_in n marks numbers values) (sym t.stepped.is)) refl
