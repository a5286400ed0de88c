-- The stages of an effect by number, and its numbers.
-- Assumes nothing.
use mathlib.Core.Path.{◌≡◌, refl, sym, ap, ◌∙◌, subst}
use mathlib.Core.Bool.{Bool, true, false, cond}
use mathlib.Core.Option.{some}
use mathlib.Core.List.{List, [], ◌∷◌, ◌++◌, map}
use Prim.Native.Nat.{ℕ, zero, suc, min, ◌+◌, ◌*◌, ◌/◌, ◌%◌, ◌≤◌, ◌<◌}
use native.Mathlib.Omega.{arith}
use native.Mathlib.Numerals.{add-one}
use lib.Dec.{eqb, lit≤}
use borrow.Author.Tests.{ne_eqb}
use lib.ListN.{length, get_or, get_elem?, take, drop, length-take, length-map, length-append}
use lib.IntN.{ℤ, pos, negsuc, nat_abs}
use Rattle.model.specs.Tasks.{Effect, add_effect, linear_effect, quotient_effect, residue_effect}
use Rattle.model.specs.Steps.{target}
use Rattle.model.specs.Stages.{Stage, drain, refill, drain_terms, result_stages, result_in, entering_additions, next_additions, set_stages, single_stages, first_stage}
use Rattle.model.specs.Lowering.{numbered_additions}
use Rattle.model.specs.Limits.{source_limits}
use Rattle.model.specs.TaskOk.{AmountOk, EffectOk}
use Rattle.integers.specs.All.{All}
use Rattle.file_actions.specs.declared.Term.{Term}
use Rattle.file_actions.specs.declared.Effect.TheVariants.{None}
use Rattle.file_actions.specs.declared.NumericEffect.{NumericEffect}
use Rattle.file_actions.specs.declared.Effects.{Effects}
use Rattle.file_actions.specs.Views.{term_room, term_is, terms_is, numeric_is, effects_is}
use Rattle.lowering_stages.specs.Shapes.{next_number}
use Rattle.lowering_stages.specs.Stages.{given_is, entering_amount, next_amount, PlaceOk, PlacesFew, PlacesOk, WeightsSmall}

-- ---- elements by number
module _ {A : Type 0} where
  pub get-front : (xs ys : List A) (j : ℕ) → j < length xs → get_elem? (xs ++ ys) j ≡ get_elem? xs j
  get-front [] ys j h = absurd (omega arith)
  get-front (x ∷ xs) ys zero h = refl
  get-front (x ∷ xs) ys (suc j) h = get-front xs ys j (omega arith)

  pub get-behind : (xs ys : List A) (j i : ℕ) → j ≡ length xs + i → get_elem? (xs ++ ys) j ≡ get_elem? ys i
  get-behind [] ys j i e = let z : j ≡ i = omega arith in rw z
  get-behind (x ∷ xs) ys zero i e = absurd (omega arith)
  get-behind (x ∷ xs) ys (suc j) i e = get-behind xs ys j i (omega arith)

  all-at : (P : A → Type 0) (xs : List A) (i : ℕ) (d : A) → All P xs → i < length xs → P (get_or xs i d)
  all-at P [] i d h l = absurd (omega arith)
  all-at P (x ∷ xs) zero d (p, ps) l = p
  all-at P (x ∷ xs) (suc i) d (p, ps) l = all-at P xs i d ps (omega arith)

-- f of each of the first n
module _ {A B : Type 0} (f : A → B) where
  first-length : (n : ℕ) (xs : List A) → length (map f (take n xs)) ≡ min n (length xs)
  first-length n xs = length-map (take n xs) f ∙ length-take n xs

  first-at : (n : ℕ) (xs : List A) (k : ℕ) (d : B) (e : A) → k < n → k < length xs → get_or (map f (take n xs)) k d ≡ f (get_or xs k e)
  first-at n [] k d e h l = absurd (omega arith)
  first-at zero (x ∷ xs) k d e h l = absurd (omega arith)
  first-at (suc n) (x ∷ xs) zero d e h l = refl
  first-at (suc n) (x ∷ xs) (suc k) d e h l = first-at n xs k d e (omega arith) (omega arith)

  first-get : (n : ℕ) (xs : List A) (k : ℕ) (e : A) → k < n → k < length xs → get_elem? (map f (take n xs)) k ≡ some (f (get_or xs k e))
  first-get n [] k e h l = absurd (omega arith)
  first-get zero (x ∷ xs) k e h l = absurd (omega arith)
  first-get (suc n) (x ∷ xs) zero e h l = refl
  first-get (suc n) (x ∷ xs) (suc k) e h l = first-get n xs k e (omega arith) (omega arith)

  first-from : (n : ℕ) (xs : List A) (k : ℕ) (e : A) → k < n → k < length xs → drop k (map f (take n xs)) ≡ f (get_or xs k e) ∷ drop (suc k) (map f (take n xs))
  first-from n [] k e h l = absurd (omega arith)
  first-from zero (x ∷ xs) k e h l = absurd (omega arith)
  first-from (suc n) (x ∷ xs) zero e h l = refl
  first-from (suc n) (x ∷ xs) (suc k) e h l = first-from n xs k e (omega arith) (omega arith)

-- ---- the terms of an L
terms-length : (k : ℕ) (terms : List Term) → length (terms_is k terms) ≡ min k (length terms)
terms-length = first-length term_is

term-at : (k : ℕ) (terms : List Term) (i : ℕ) (d : ℕ × ℤ) (e : Term) → i < k → i < length terms → get_or (terms_is k terms) i d ≡ term_is (get_or terms i e)
term-at = first-at term_is

-- its stages before Clear: two a term
drained-at : (ts : List (ℕ × ℤ)) (j i q : ℕ) (d : ℕ × ℤ) → j ≡ 2 * i + q → q < 2 → i < length ts
    → get_elem? (drain_terms ts []) j ≡ get_elem? (drain (get_or ts i d).0 (get_or ts i d).1 ∷ refill (get_or ts i d).0 ∷ []) q
drained-at [] j i q d e l h = absurd (omega arith)
drained-at (t ∷ ts) j zero zero d e l h = let z : j ≡ zero = omega arith in rw z
drained-at (t ∷ ts) j zero (suc zero) d e l h = let z : j ≡ suc zero = omega arith in rw z
drained-at (t ∷ ts) j zero (suc (suc q)) d e l h = absurd (omega arith)
drained-at (t ∷ ts) j (suc i) q d e l h = let z : j ≡ suc (suc (2 * i + q)) = omega arith in rw z (drained-at ts (2 * i + q) i q d refl l (omega arith))

drained-length : (ts : List (ℕ × ℤ)) → length (drain_terms ts []) ≡ 2 * length ts
drained-length [] = omega arith
drained-length (t ∷ ts) = let e = drained-length ts in omega arith

module _ (k : ℕ) (terms : List Term) (few : k ≤ length terms) where
  pub linear-at : (j : ℕ) (e : Term) → j < 2 * k
      → get_elem? (drain_terms (terms_is k terms) []) j
      ≡ get_elem? (drain (get_or terms (j / 2) e).variable (get_or terms (j / 2) e).weight ∷ refill (get_or terms (j / 2) e).variable ∷ []) (j % 2)
  linear-at j e h =
      drained-at (terms_is k terms) j (j / 2) (j % 2) (term_is e) (omega arith) (omega arith) (omega (arith, terms-length k terms))
      ∙ ap (λ (t : ℕ × ℤ). get_elem? (drain t.0 t.1 ∷ refill t.0 ∷ []) (j % 2)) (term-at k terms (j / 2) (term_is e) e (omega arith) (omega arith))

  pub linear-length : length (drain_terms (terms_is k terms) []) ≡ 2 * k
  linear-length = omega (arith, drained-length (terms_is k terms), terms-length k terms)

-- ---- the stages of an effect before Clear, in front of others
drained-front : (ts : List (ℕ × ℤ)) (rest : List Stage) → drain_terms ts rest ≡ drain_terms ts [] ++ rest
drained-front [] rest = refl
drained-front (t ∷ ts) rest = ap (λ (ds : List Stage). drain t.0 t.1 ∷ refill t.0 ∷ ds) (drained-front ts rest)

result-front : (e : Effect) (rest : List Stage) → result_stages e rest ≡ result_stages e [] ++ rest
result-front (add_effect t c) rest = refl
result-front (linear_effect t w ts) rest = drained-front ts rest
result-front (quotient_effect t y c) rest = refl
result-front (residue_effect t y c) rest = refl

pub result-length : (e : Effect) (rest : List Stage) → length (result_stages e rest) ≡ length (result_stages e []) + length rest
result-length e rest = ap length (result-front e rest) ∙ length-append (result_stages e []) rest

pub result-at : (e : Effect) (rest : List Stage) (j : ℕ) → j < length (result_stages e []) → get_elem? (result_stages e rest) j ≡ get_elem? (result_stages e []) j
result-at e rest j h = ap (λ (ds : List Stage). get_elem? ds j) (result-front e rest) ∙ get-front (result_stages e []) rest j h

pub result-past : (e : Effect) (rest : List Stage) (j i : ℕ) → j ≡ length (result_stages e []) + i → get_elem? (result_stages e rest) j ≡ get_elem? rest i
result-past e rest j i h = ap (λ (ds : List Stage). get_elem? ds j) (result-front e rest) ∙ get-behind (result_stages e []) rest j i h

-- Q and R: Drain and Refill stand in front
pub first_two : (d1 d2 d3 d4 : Stage) (j : ℕ) → (j ≡ 2 → ⊥) → (j ≡ 3 → ⊥) → get_elem? (d1 ∷ d2 ∷ d3 ∷ d4 ∷ []) j ≡ get_elem? (d1 ∷ d2 ∷ []) j
first_two d1 d2 d3 d4 zero h g = refl
first_two d1 d2 d3 d4 (suc zero) h g = refl
first_two d1 d2 d3 d4 (suc (suc zero)) h g = absurd (h refl)
first_two d1 d2 d3 d4 (suc (suc (suc zero))) h g = absurd (g refl)
first_two d1 d2 d3 d4 (suc (suc (suc (suc j)))) h g = refl

-- ---- a single effect that has stages sets its target behind them
pub single-sets : (lower upper : ℕ → ℤ) (e : Effect) (j : ℕ) → j < length (single_stages lower upper e)
    → single_stages lower upper e ≡ result_stages e (set_stages lower upper (result_in e) (target e) [])
single-sets lower upper (add_effect t c) j h = absurd (omega arith)
single-sets lower upper (linear_effect t w ts) j h = refl
single-sets lower upper (quotient_effect t y c) j h = refl
single-sets lower upper (residue_effect t y c) j h = refl

-- ---- what entering its stages adds
pub entering-given : (a : ℕ) (e : Effect) → given_is a (entering_amount e) ≡ numbered_additions a (entering_additions e)
entering-given a (add_effect t (pos zero)) = refl
entering-given a (add_effect t (pos (suc n))) = rw (ne_eqb (suc n) 0 (λ q. omega arith))
entering-given a (add_effect t (negsuc n)) = rw (ne_eqb (suc n) 0 (λ q. omega arith))
entering-given a (linear_effect t (pos zero) ts) = refl
entering-given a (linear_effect t (pos (suc n)) ts) = rw (ne_eqb (suc n) 0 (λ q. omega arith))
entering-given a (linear_effect t (negsuc n) ts) = rw (ne_eqb (suc n) 0 (λ q. omega arith))
entering-given a (quotient_effect t y c) = refl
entering-given a (residue_effect t y c) = refl

pub next-given : (a : ℕ) (es : List Effect) → given_is a (next_amount es) ≡ numbered_additions a (next_additions es)
next-given a [] = refl
next-given a (e ∷ es) = entering-given a e

-- there is no next behind the last
pub next-none : (es : List Effect) (k : ℕ) → length es ≤ k → pos 0 ≡ next_amount (drop k es)
next-none [] zero h = refl
next-none [] (suc k) h = refl
next-none (e ∷ es) zero h = absurd (omega arith)
next-none (e ∷ es) (suc k) h = next-none es k (omega arith)

entering-small : (n : ℕ) (e : Effect) → EffectOk source_limits n e → nat_abs (entering_amount e) ≤ 10000
entering-small n (add_effect t c) h = h.1.1
entering-small n (linear_effect t w ts) h = h.1
entering-small n (quotient_effect t y c) h = lit≤ tt
entering-small n (residue_effect t y c) h = lit≤ tt

-- of the next of effects that keep to the rules
pub next_small : (n k : ℕ) (es : List Effect) → All (EffectOk source_limits n) es → nat_abs (next_amount (drop k es)) ≤ 10000
next_small n zero [] h = lit≤ tt
next_small n zero (e ∷ es) (h, hs) = entering-small n e h
next_small n (suc k) [] h = lit≤ tt
next_small n (suc k) (e ∷ es) (h, hs) = next_small n k es hs

-- ---- the weights of an L that keeps to the rules
pub weights-small : (n k : ℕ) (terms : List Term) → k ≤ length terms → All (AmountOk source_limits n) (terms_is k terms) → WeightsSmall k terms
weights-small n k terms f h i d l =
    let few : i < length (terms_is k terms) = omega (arith, terms-length k terms) in
    let ok : AmountOk source_limits n (get_or (terms_is k terms) i (term_is d)) = all-at (AmountOk source_limits n) (terms_is k terms) i (term_is d) h few in
    let at : AmountOk source_limits n (term_is (get_or terms i d)) = subst (AmountOk source_limits n) (term-at k terms i (term_is d) d l (omega arith)) ok in
    at.1.1

-- ---- the effects of an action by number; what stands for one behind them all
abbrev pub no_place : NumericEffect
no_place = record { effect = None; term_count = 0; terms = [] }

module _ (r : Effects) where
  pub effects-length : length (effects_is r) ≡ min r.count (length r.places)
  effects-length = first-length numeric_is r.count r.places

  pub no-effects : r.count ≡ 0 → effects_is r ≡ []
  no-effects h = ap (λ (n : ℕ). map numeric_is (take n r.places)) h

  module _ (e : ℕ) (l : e < length r.places) where
    pub effect-at : e < r.count → get_elem? (effects_is r) e ≡ some (numeric_is (get_or r.places e no_place))
    effect-at h = first-get numeric_is r.count r.places e no_place h l

    pub effects-from : e < r.count → drop e (effects_is r) ≡ numeric_is (get_or r.places e no_place) ∷ drop (suc e) (effects_is r)
    effects-from h = first-from numeric_is r.count r.places e no_place h l

    pub terms-few : PlacesFew r → (get_or r.places e no_place).term_count ≤ term_room
    terms-few p = all-at (λ (x : NumericEffect). x.term_count ≤ term_room) r.places e no_place p.terms_few l

    pub place_ok : (n : ℕ) → PlacesOk n r → e < r.count → PlaceOk n (get_or r.places e no_place)
    place_ok n p h = record {
      terms_few = terms-few p.few;
      effect_ok =
          subst (EffectOk source_limits n) (first-at numeric_is r.count r.places e (numeric_is no_place) no_place h l)
          (all-at (EffectOk source_limits n) (effects_is r) e (numeric_is no_place) p.effects_ok (omega (arith, effects-length, h, l)));
    }

-- ---- what a turn sets
-- a turn never sets the stage that it is in
pub turns-on : (number following : ℕ) → 0 < number → eqb number (next_number number following) ≡ false
turns-on number following h = by (eqb following 0)
  where
    by : (b : Bool) → eqb number (cond b 0 (number + 1)) ≡ false
    by true = ne_eqb number 0 (λ e. omega arith)
    by false = ne_eqb number (number + 1) (λ e. omega arith)

-- the next stage, by the stages that follow
pub first_next : (s : ℕ) (ds : List Stage) → first_stage (suc s) ds ≡ next_number s (length ds)
first_next s [] = refl
first_next s (d ∷ ds) = sym (rw (ne_eqb (suc (length ds)) 0 (λ e. omega arith)) (add-one s))
