-- What is kept of an action: its K's as C on kept variables, and the + that follow its own. What measures no sum is kept as it is; an
-- opening has one + at most, a small one; and of the + that follow there is one for each sum that is not weighed 0.
-- Assumes nothing.
use mathlib.Core.Path.{◌≡◌, refl, sym, ap, ap₂, ◌∙◌, subst}
use mathlib.Core.Bool.{Bool, true, false, cond}
use mathlib.Core.List.{List, [], ◌∷◌, ◌++◌, map, flat_map}
use Prim.Native.Nat.{ℕ, zero, suc, ◌+◌, ◌<◌, ◌≤◌}
use native.Mathlib.Nat.{add-zero}
use native.Mathlib.Omega.{arith}
use lib.ListN.{length, length-append}
use lib.IntN.{ℤ, pos, negsuc, nat_abs, ◌-ℤ◌}
use lib.Signed.{lt_z}
use Rattle.integers.specs.All.{All}
use Rattle.integers.specs.Relation.{at_most, at_least}
use Rattle.lists.specs.Each.{tabulate}
use Rattle.lists.proofs.Each.{length-tabulate, flat_map-append}
use Rattle.model.specs.Tasks.{NumericCondition, RestrictedAction, Effect, add_effect, linear_effect, quotient_effect, residue_effect}
use Rattle.model.specs.Steps.{natural_at, weigh}
use Rattle.model.specs.Limits.{source_limits}
use Rattle.model.specs.TaskOk.{EffectOk}
use Rattle.model.specs.FourRelations.{all_in_four_relations, in_four}
use Rattle.model.specs.Sums.{sum_in, sums_in, on_kept, added_to, addition, kept_additions, kept, keeping_all}
use Rattle.model.specs.Stages.{Stage, source, when, helper_a, helper_b, stages_actions, drain_terms, move_to_hold, result_stages, result_in, next_additions}
use Rattle.model.specs.Stages.{hold_stages, set_stages, unload_stages, stages_of, added_bound, add_to_a, entering_additions, opening_additions}
use Rattle.model.specs.Lowering.{numbered_additions, numbered_conditions, numbered_all}
use Rattle.file_parts.specs.Layout.{condition_count, addition_count}
use Rattle.file_parts.specs.Row.{condition_in, conditions_in, addition_in, additions_in, row_is, PartsFit, Says}
use Rattle.file_parts.proofs.Pushing.{Sized, parts-fit}
use Rattle.file_actions.specs.declared.Effects.{Effects}
use Rattle.file_actions.specs.Views.{effects_is}
use Rattle.lowering_stages.specs.declared.Shape.{Shape}
use Rattle.lowering_stages.specs.Shapes.{lower_of, upper_of}
use Rattle.lowering_stages.proofs.Rows.{own}
use Rattle.lowering_stages.proofs.Openings.{room-less, opening-sized}
use Rattle.lowering_sums.specs.Views.{most_added}
use Rattle.lowering_rows.specs.Bytes.{addition_bytes, with_kept}
use Rattle.lowering_rows.specs.Macros.{Amount, opening_in, kept_stages, OneAddition, Lowerable}

-- ---- of one list behind another, and of a tabulated list
module _ {A : Type 0} (P : A → Type 0) where
  pub all-parts : (xs ys : List A) → All P (xs ++ ys) → All P xs × All P ys
  all-parts [] ys h = (tt, h)
  all-parts (x ∷ xs) ys (h, hs) = let (l, r) = all-parts xs ys hs in ((h, l), r)

  pub all-at : (n : ℕ) (f : ℕ → A) → All P (tabulate n f) → (i : ℕ) → i < n → P (f i)
  unfolding tabulate
  all-at zero f h i l = absurd (omega arith)
  all-at (suc n) f (p, ps) zero l = p
  all-at (suc n) f (p, ps) (suc i) l = all-at n (λ k. f (suc k)) ps i (omega arith)

-- ---- conditions one behind another; those of a row measure no sum
on-kept-append : (xs ys : List (NumericCondition ℕ)) (j : ℕ) → on_kept j (xs ++ ys) ≡ on_kept j xs ++ on_kept (j + length (sums_in xs)) ys
on-kept-append [] ys j = ap (λ (k : ℕ). on_kept k ys) (sym (add-zero j))
on-kept-append (x ∷ xs) ys j =
    let s = sum_in x.measured in
    let e : j + length s + length (sums_in xs) ≡ j + length (s ++ sums_in xs) = omega (arith, length-append s (sums_in xs)) in
    ap (λ (z : List (NumericCondition ℕ)). on_kept j (x ∷ []) ++ z) (on-kept-append xs ys (j + length s)
    ∙ ap (λ (k : ℕ). on_kept (j + length s) xs ++ on_kept k ys) e)

row-no-sums : (n : ℕ) (f : ℕ → NumericCondition ℕ) → ((i : ℕ) → sum_in (f i).measured ≡ []) → sums_in (tabulate n f) ≡ []
unfolding tabulate
row-no-sums zero f h = refl
row-no-sums (suc n) f h = ap₂ ◌++◌ (h 0) (row-no-sums n (λ k. f (suc k)) (λ i. h (suc i)))

row_stays : (n : ℕ) (f : ℕ → NumericCondition ℕ) → ((i j : ℕ) → on_kept j (f i ∷ []) ≡ f i ∷ []) → (j : ℕ) → on_kept j (tabulate n f) ≡ tabulate n f
unfolding tabulate
row_stays zero f h j = refl
row_stays (suc n) f h j =
    ap₂ ◌++◌ (h 0 j) (row_stays n (λ k. f (suc k)) (λ i. h (suc i)) (j + length (sum_in (f 0).measured)))

-- the bound of an opening measures none
bound-stays : (n : ℕ) (lower upper : ℕ → ℤ) (es : List Effect) (j : ℕ)
    → on_kept j (numbered_conditions n (added_bound lower upper es)) ≡ numbered_conditions n (added_bound lower upper es)
bound-stays n lower upper [] j = refl
bound-stays n lower upper (add_effect t c ∷ []) j = by (lt_z (pos 0) c)
  where
    by : (b : Bool) → (let cs = numbered_conditions n (cond b (when (source t) at_most (upper t -ℤ c)) (when (source t) at_least (lower t -ℤ c)) ∷ []) in
        on_kept j cs ≡ cs)
    by true = refl
    by false = refl
bound-stays n lower upper (linear_effect t w ts ∷ []) j = refl
bound-stays n lower upper (quotient_effect t y c ∷ []) j = refl
bound-stays n lower upper (residue_effect t y c ∷ []) j = refl
bound-stays n lower upper (e ∷ f ∷ es) j = refl

-- so of an opening only the own K's, ks, move
pub opening-kept : (marks : List ℕ) (numbers : List ℤ) (ks : List (NumericCondition ℕ)) (n : ℕ) (lower upper : ℕ → ℤ) (es : List Effect) (j : ℕ)
    → (let cs = conditions_in marks numbers in let bound = numbered_conditions n (added_bound lower upper es) in
    on_kept j ((cs ++ ks) ++ bound) ≡ (cs ++ on_kept j ks) ++ bound)
opening-kept marks numbers ks n lower upper es j =
    let count = natural_at marks condition_count in
    let cs = conditions_in marks numbers in
    let bound = numbered_conditions n (added_bound lower upper es) in
    let none : sums_in cs ≡ [] = row-no-sums count (condition_in marks numbers) (λ i. refl) in
    let stays : on_kept j cs ≡ cs = row_stays count (condition_in marks numbers) (λ i k. refl) j in
    on-kept-append (cs ++ ks) bound j
    ∙ ap₂ ◌++◌
    (on-kept-append cs ks j ∙ ap₂ ◌++◌ stays (ap (λ (s : List (List (ℕ × ℤ))). on_kept (j + length s) ks) none ∙ ap (λ (k : ℕ). on_kept k ks) (add-zero j)))
    (bound-stays n lower upper es (j + length (sums_in (cs ++ ks))))

-- ---- a stage measures no sum and has the four relations
abbrev Plain : ℕ → Stage → Type 0
Plain n d = (j : ℕ) → (let cs = numbered_conditions n d.turn_conditions in all_in_four_relations (on_kept j cs) ≡ cs)

terms-plain : (n : ℕ) (ts : List (ℕ × ℤ)) (ds : List Stage) → All (Plain n) ds → All (Plain n) (drain_terms ts ds)
terms-plain n [] ds h = h
terms-plain n (t ∷ ts) ds h = (λ j. refl, (λ j. refl, terms-plain n ts ds h))

module _ (n : ℕ) (lower upper : ℕ → ℤ) where
  result-plain : (e : Effect) (ds : List Stage) → All (Plain n) ds → All (Plain n) (result_stages e ds)
  result-plain (add_effect t c) ds h = (λ j. refl, (λ j. refl, h))
  result-plain (linear_effect t w ts) ds h = terms-plain n ts ds h
  result-plain (quotient_effect t y c) ds h = (λ j. refl, (λ j. refl, (λ j. refl, (λ j. refl, h))))
  result-plain (residue_effect t y c) ds h = (λ j. refl, (λ j. refl, (λ j. refl, (λ j. refl, h))))

  holds_plain : (es : List Effect) (j : ℕ) (ds : List Stage) → All (Plain n) ds → All (Plain n) (hold_stages j es ds)
  holds_plain [] j ds h = h
  holds_plain (e ∷ es) j ds h =
      result-plain e (move_to_hold j (result_in e) (next_additions es) ∷ hold_stages (suc j) es ds) (λ j. refl, holds_plain es (suc j) ds h)

  unloads-plain : (es : List Effect) (j : ℕ) → All (Plain n) (unload_stages lower upper j es)
  unloads-plain [] j = tt
  unloads-plain (e ∷ es) j = (λ j. refl, (λ j. refl, unloads-plain es (suc j)))

  stages-plain : (es : List Effect) → All (Plain n) (stages_of lower upper es)
  stages-plain [] = tt
  stages-plain (add_effect t c ∷ []) = tt
  stages-plain (linear_effect t w ts ∷ []) = result-plain (linear_effect t w ts) (set_stages lower upper helper_a t []) (λ j. refl, (λ j. refl, tt))
  stages-plain (quotient_effect t y c ∷ []) = result-plain (quotient_effect t y c) (set_stages lower upper helper_b t []) (λ j. refl, (λ j. refl, tt))
  stages-plain (residue_effect t y c ∷ []) = result-plain (residue_effect t y c) (set_stages lower upper helper_a t []) (λ j. refl, (λ j. refl, tt))
  stages-plain (e ∷ f ∷ es) = holds_plain (e ∷ f ∷ es) 0 (unload_stages lower upper 0 (e ∷ f ∷ es)) (unloads-plain (e ∷ f ∷ es) 0)

-- so it is kept as it is but for the + that follow, whatever the number of the next sum
module _ (first : ℕ) (sums : List (List (ℕ × ℤ))) where
  abbrev KeptPlain : RestrictedAction → Type 0
  KeptPlain x = (j : ℕ) → in_four (kept first sums j x) ≡ with_kept first sums x

  keeping_plain : (acts : List RestrictedAction) → All KeptPlain acts → (j : ℕ) → keeping_all first sums j acts ≡ map (with_kept first sums) acts
  keeping_plain [] h j = refl
  keeping_plain (a ∷ acts) (h, hs) j = ap₂ ◌∷◌ (h j) (keeping_plain acts hs (j + length (sums_in a.conditions)))

  stages-kept-plain : (n m : ℕ) (ds : List Stage) (s : ℕ) → All (Plain n) ds → All KeptPlain (numbered_all n m (stages_actions s ds))
  stages-kept-plain n m [] s h = tt
  stages-kept-plain n m (d ∷ ds) s (h, hs) = (λ j. refl, (λ j. refl, (λ j. rw (h (j + 0 + 0)), stages-kept-plain n m ds (suc s) hs)))

  pub keeping-stages : (n m : ℕ) (lower upper : ℕ → ℤ) (es : List Effect) (s j : ℕ) → (let ds = stages_of lower upper es in
      keeping_all first sums j (numbered_all n m (stages_actions s ds)) ≡ kept_stages first sums n m s ds)
  keeping-stages n m lower upper es s j =
      let ds = stages_of lower upper es in
      keeping_plain (numbered_all n m (stages_actions s ds)) (stages-kept-plain n m ds s (stages-plain n lower upper es)) j

-- ---- the + that follow, sum by sum
addition-amount : (j : ℕ) (z : ℤ) → All Amount (addition j z) → nat_abs z < 2147483648
addition-amount j (pos zero) h = omega arith
addition-amount j (pos (suc n)) h = h.0
addition-amount j (negsuc n) h = h.0

module _ (es : List (ℕ × ℤ)) where
  pub kept-amount-fits : (n : ℕ) (f : ℕ → List (ℕ × ℤ)) (j : ℕ) → All Amount (kept_additions j (tabulate n f) es)
      → (i : ℕ) → i < n → nat_abs (weigh (f i) (added_to es)) < 2147483648
  unfolding tabulate
  kept-amount-fits zero f j h i l = absurd (omega arith)
  kept-amount-fits (suc n) f j h zero l =
      addition-amount j (weigh (f 0) (added_to es)) (all-parts Amount (addition j (weigh (f 0) (added_to es)))
      (kept_additions (suc j) (tabulate n (λ k. f (suc k))) es) h).0
  kept-amount-fits (suc n) f j h (suc i) l =
      kept-amount-fits n (λ k. f (suc k)) (suc j) (all-parts Amount (addition j (weigh (f 0) (added_to es)))
      (kept_additions (suc j) (tabulate n (λ k. f (suc k))) es) h).1 i (omega arith)

  -- g numbers the kept variables from j on
  pub kept-bytes : (n : ℕ) (f : ℕ → List (ℕ × ℤ)) (g : ℕ → ℕ) (j : ℕ) → ((i : ℕ) → g i ≡ j + i)
      → flat_map addition_bytes (kept_additions j (tabulate n f) es)
      ≡ flat_map (flat_map addition_bytes) (tabulate n (λ i. addition (g i) (weigh (f i) (added_to es))))
  unfolding tabulate flat_map
  kept-bytes zero f g j h = refl
  kept-bytes (suc n) f g j h =
      let w = weigh (f 0) (added_to es) in
      let zeroth : j ≡ g 0 = omega (arith, h 0) in
      flat_map-append addition_bytes (addition j w) (kept_additions (suc j) (tabulate n (λ k. f (suc k))) es)
      ∙ ap₂ ◌++◌ (ap (λ (v : ℕ). flat_map addition_bytes (addition v w)) zeroth)
      (kept-bytes n (λ k. f (suc k)) (λ k. g (suc k)) (suc j) (λ i. omega (arith, h (suc i))))

-- ---- what an opening adds is small, and on a variable by its number in a file
abbrev SmallAddition : ℕ × ℤ → Type 0
SmallAddition e = (e.0 < 256) × (nat_abs e.1 ≤ most_added)

given-small : (a : ℕ) (z : ℤ) → a < 256 → nat_abs z ≤ most_added → All SmallAddition (numbered_additions a (add_to_a z))
given-small a (pos zero) v h = tt
given-small a (pos (suc n)) v h = ((v, h), tt)
given-small a (negsuc n) v h = ((v, h), tt)

entering-small : (a : ℕ) (e : Effect) → a < 256 → EffectOk source_limits a e → All SmallAddition (numbered_additions a (entering_additions e))
entering-small a (add_effect t c) v h = given-small a c v (omega (arith, h.1.1))
entering-small a (linear_effect t w ts) v h = given-small a w v (omega (arith, h.1))
entering-small a (quotient_effect t y c) v h = tt
entering-small a (residue_effect t y c) v h = tt

opening-small : (a : ℕ) (es : List Effect) → a < 256 → All (EffectOk source_limits a) es → All SmallAddition (numbered_additions a (opening_additions es))
opening-small a [] v h = tt
opening-small a (add_effect t c ∷ []) v h = ((omega (arith, h.0.0), omega (arith, h.0.1.1)), tt)
opening-small a (linear_effect t w ts ∷ []) v h = given-small a w v (omega (arith, h.0.1))
opening-small a (quotient_effect t y c ∷ []) v h = tt
opening-small a (residue_effect t y c ∷ []) v h = tt
opening-small a (e ∷ f ∷ es) v h = entering-small a e v h.0

-- ---- and it has one + at most, since the row of a source action has none
module _ {h : Shape} {marks : List ℕ} {numbers : List ℤ} {r : Effects} (l : Lowerable h marks numbers r) where
  fits : (a : ℕ) → a ≤ 16 → PartsFit 1 1 1 a marks
  fits a b = parts-fit (own {marks = marks} {numbers = numbers} l.marks_long l.numbers_long) (record {
    conditions = omega (arith, l.conditions_few);
    mode_conditions = omega (arith, l.mode_conditions_few);
    mode_effects = omega (arith, l.mode_effects_few);
    additions = omega (arith, ap length l.no_additions, b);
  })

  pub opening-room : PartsFit 1 1 1 1 marks
  opening-room = fits 1 (omega arith)

  module _ (next : ℕ) where
    abbrev opened : RestrictedAction
    opened = opening_in h next (effects_is r) (row_is marks numbers)

    opened-fits : (more : ℕ) → more ≤ 15 → Sized 0 0 0 more opened
    opened-fits more b =
        opening-sized numbers opening-room h.variables (lower_of h) (upper_of h) (effects_is r) h.modes next more
        (room-less (fits (1 + more) (omega arith)) (omega arith) (omega arith) (omega arith) (omega arith))

    pub opened-sized : Sized 0 0 0 0 opened
    opened-sized = opened-fits 0 (omega arith)

    pub opened-once : {marks' : List ℕ} {numbers' : List ℤ} → Says opened marks' numbers' → OneAddition marks' numbers'
    opened-once {marks'} {numbers'} w =
        let count = natural_at marks' addition_count in
        let same : additions_in marks' numbers' ≡ opened.additions = ap (λ (x : RestrictedAction). x.additions) w.is in
        let few : count ≤ 1 = omega (
          arith,
          length-tabulate count (addition_in marks' numbers'),
          ap length same,
          (opened-fits 15 (omega arith)).additions,
        ) in
        let added = numbered_additions h.variables (opening_additions (effects_is r)) in
        let small : All SmallAddition (additions_in marks' numbers') = subst (All SmallAddition)
        (sym (same ∙ ap (λ (z : List (ℕ × ℤ)). z ++ added) l.no_additions))
        (opening-small h.variables (effects_is r) (omega (arith, l.bounded.variables_few)) l.effects.effects_ok) in
        let at_first : count ≡ 1 → SmallAddition (addition_in marks' numbers' 0) =
        λ e. all-at SmallAddition count (addition_in marks' numbers') small 0 (omega arith) in
        record {
          marks_long = w.marks_long;
          numbers_long = w.numbers_long;
          few = few;
          variable = λ e. (at_first e).0;
          small = λ e. (at_first e).1;
        }
