-- The opening or single action of a source action: the parts of the source action, what its effects need and add, and control.
-- Assumes nothing.
use mathlib.Core.Path.{◌≡◌, refl, sym}
use mathlib.Core.Bool.{Bool, true, false, cond}
use mathlib.Core.List.{List, [], ◌∷◌, ◌++◌, append-nil}
use Prim.Native.Nat.{ℕ, zero, suc, ◌+◌, ◌≤◌}
use native.Mathlib.Omega.{arith}
use borrow.Author.Tests.{ne_eqb}
use lib.Dec.{eqb, lit≤}
use lib.ListN.{length, length-append}
use lib.IntN.{ℤ, pos, negsuc, ◌-ℤ◌}
use lib.Signed.{lt_z}
use Rattle.model.specs.Tasks.{NumericCondition, Effect, add_effect, linear_effect, quotient_effect, residue_effect, RestrictedAction}
use Rattle.integers.specs.Relation.{at_most, at_least}
use Rattle.model.specs.Stages.{source, when, add_to_a, entering_additions, added_bound, opening_additions}
use Rattle.model.specs.Lowering.{numbered_additions, numbered_conditions}
use Rattle.file_parts.specs.Row.{row_is, PartsFit, Says}
use Rattle.file_parts.specs.With.{condition, with_condition, with_mode_condition, with_mode_effect, with_addition, with_additions}
use Rattle.file_parts.proofs.Pushing.{Sized, parts-fit}
use Rattle.lowering_stages.specs.Stages.{given_is, entering_amount}
use Rattle.lowering_stages.specs.Openings.{bound_is, with_numeric, with_opening}
use Rattle.lowering_stages.proofs.Effects.{entering-given}
use Rattle.lowering_stages.proofs.Rows.{sized}

-- ---- what effects need and add
module _ (a : ℕ) (lower upper : ℕ → ℤ) where
  pub nothing-more : (es : List Effect) (x : RestrictedAction) → added_bound lower upper es ≡ [] → opening_additions es ≡ [] → x ≡ with_numeric a lower upper es x
  nothing-more es x f g = rw (f, g, append-nil x.conditions, append-nil x.additions)

  pub add-more : (t : ℕ) (c : ℤ) (x : RestrictedAction)
      → with_addition (with_condition x (bound_is t c (lower t) (upper t))) (t, c) ≡ with_numeric a lower upper (add_effect t c ∷ []) x
  add-more t c x = by (lt_z (pos 0) c)
    where
      by : (b : Bool) → with_addition (with_condition x (cond b (condition t 1 (upper t -ℤ c)) (condition t 2 (lower t -ℤ c)))) (t, c)
          ≡ record {
            mode_conditions = x.mode_conditions;
            conditions = x.conditions ++ numbered_conditions a (cond b (when (source t) at_most (upper t -ℤ c)) (when (source t) at_least (lower t -ℤ c)) ∷ []);
            mode_effects = x.mode_effects;
            additions = x.additions ++ ((t, c) ∷ []);
          }
      by true = refl
      by false = refl

  given-more : (es : List Effect) (z : ℤ) (x : RestrictedAction) → added_bound lower upper es ≡ [] → given_is a z ≡ numbered_additions a (opening_additions es)
      → with_additions x (given_is a z) ≡ with_numeric a lower upper es x
  given-more es z x f g = rw (f, g, append-nil x.conditions)

  pub linear-more : (t : ℕ) (w : ℤ) (ts : List (ℕ × ℤ)) (x : RestrictedAction) → with_additions x (given_is a w)
      ≡ with_numeric a lower upper (linear_effect t w ts ∷ []) x
  linear-more t w ts x = given-more (linear_effect t w ts ∷ []) w x refl (entering-given a (linear_effect t w ts))

  -- several: what entering the stages of the first adds
  pub several-more : (e : Effect) (es : List Effect) (x : RestrictedAction) → 1 ≤ length es → with_additions x (given_is a (entering_amount e))
      ≡ with_numeric a lower upper (e ∷ es) x
  several-more e [] x h = absurd (omega arith)
  several-more e (f ∷ es) x h = given-more (e ∷ f ∷ es) (entering_amount e) x refl (entering-given a e)

-- ---- room
module _ {marks : List ℕ} where
  -- for fewer
  pub room-less : {c p e a c' p' e' a' : ℕ} → PartsFit c p e a marks → c' ≤ c → p' ≤ p → e' ≤ e → a' ≤ a → PartsFit c' p' e' a' marks
  room-less r k l m n = record {
    long = r.long;
    conditions = omega (arith, r.conditions, k);
    mode_conditions = omega (arith, r.mode_conditions, l);
    mode_effects = omega (arith, r.mode_effects, m);
    additions = omega (arith, r.additions, n);
  }

  -- for the + behind a bound
  pub bound-room : (numbers : List ℤ) (y : NumericCondition ℕ) {marks' : List ℕ} {numbers' : List ℤ} → PartsFit 1 0 0 1 marks → Says (with_condition (row_is marks numbers) y) marks' numbers' → PartsFit 0 0 0 1 marks'
  bound-room numbers y r w =
      let z = sized numbers r in
      parts-fit w (record {
        conditions = omega (arith, z.conditions, length-append (row_is marks numbers).conditions (y ∷ []));
        mode_conditions = z.mode_conditions;
        mode_effects = z.mode_effects;
        additions = z.additions;
      })

  -- for an effect, control being asked
  pub asked-room : (numbers : List ℤ) (p : ℕ × ℕ) {marks' : List ℕ} → PartsFit 1 1 1 1 marks → Says (with_mode_condition (row_is marks numbers) p) marks' numbers → PartsFit 1 0 0 1 marks'
  asked-room numbers p r w =
      let z = sized numbers r in
      parts-fit w (record {
        conditions = z.conditions;
        mode_conditions = omega (arith, z.mode_conditions, length-append (row_is marks numbers).mode_conditions (p ∷ []));
        mode_effects = omega (arith, z.mode_effects);
        additions = z.additions;
      })

  -- and for control, the effects being there
  module _ (numbers : List ℤ) (r : PartsFit 1 1 1 1 marks) (a : ℕ) (lower upper : ℕ → ℤ) where
    bound-few : (es : List Effect) → length (numbered_conditions a (added_bound lower upper es)) ≤ 1
    bound-few [] = lit≤ tt
    bound-few (add_effect t c ∷ []) = lit≤ tt
    bound-few (linear_effect t v ts ∷ []) = lit≤ tt
    bound-few (quotient_effect t v c ∷ []) = lit≤ tt
    bound-few (residue_effect t v c ∷ []) = lit≤ tt
    bound-few (e ∷ f ∷ es) = lit≤ tt

    given-few : (z : ℤ) → length (numbered_additions a (add_to_a z)) ≤ 1
    given-few (pos zero) = lit≤ tt
    given-few (pos (suc n)) = lit≤ tt
    given-few (negsuc n) = lit≤ tt

    entering-few : (e : Effect) → length (numbered_additions a (entering_additions e)) ≤ 1
    entering-few (add_effect t c) = given-few c
    entering-few (linear_effect t w ts) = given-few w
    entering-few (quotient_effect t v c) = lit≤ tt
    entering-few (residue_effect t v c) = lit≤ tt

    added-few : (es : List Effect) → length (numbered_additions a (opening_additions es)) ≤ 1
    added-few [] = lit≤ tt
    added-few (add_effect t c ∷ []) = lit≤ tt
    added-few (linear_effect t w ts ∷ []) = given-few w
    added-few (quotient_effect t v c ∷ []) = lit≤ tt
    added-few (residue_effect t v c ∷ []) = lit≤ tt
    added-few (e ∷ f ∷ es) = entering-few e

    module _ (es : List Effect) where
      conditions-few : length ((row_is marks numbers).conditions ++ numbered_conditions a (added_bound lower upper es)) ≤ 24
      conditions-few =
          let z = sized numbers r in
          omega (arith, z.conditions, length-append (row_is marks numbers).conditions (numbered_conditions a (added_bound lower upper es)), bound-few es)

      additions-few : length ((row_is marks numbers).additions ++ numbered_additions a (opening_additions es)) ≤ 16
      additions-few =
          let z = sized numbers r in
          omega (arith, z.additions, length-append (row_is marks numbers).additions (numbered_additions a (opening_additions es)), added-few es)

      asked-few : (p : ℕ × ℕ) → length ((row_is marks numbers).mode_conditions ++ (p ∷ [])) ≤ 16
      asked-few p = let z = sized numbers r in omega (arith, z.mode_conditions, length-append (row_is marks numbers).mode_conditions (p ∷ []))

      pub opened-room : (p : ℕ × ℕ) {marks' : List ℕ} {numbers' : List ℤ}
          → Says (with_numeric a lower upper es (with_mode_condition (row_is marks numbers) p)) marks' numbers'
          → PartsFit 0 0 1 0 marks'
      opened-room p w =
          parts-fit w (record {
            conditions = omega (arith, conditions-few);
            mode_conditions = omega (arith, asked-few p);
            mode_effects = (sized numbers r).mode_effects;
            additions = omega (arith, additions-few);
          })

      -- the whole has no more parts than there is room for; of the + as many more as there is room for behind its own
      pub opening-sized : (m next more : ℕ) → PartsFit 0 0 0 (1 + more) marks → Sized 0 0 0 more (with_opening a m next lower upper es (row_is marks numbers))
      opening-sized m next more q = record {
        conditions = omega (arith, conditions-few);
        mode_conditions = omega (arith, asked-few (m, 0));
        mode_effects = omega (
          arith,
          (sized numbers r).mode_effects,
          length-append (row_is marks numbers).mode_effects (cond (eqb 0 next) [] ((m, next) ∷ [])),
          set-few (eqb 0 next) (m, next),
        );
        additions = omega (
          arith,
          (sized numbers q).additions,
          length-append (row_is marks numbers).additions (numbered_additions a (opening_additions es)),
          added-few es,
        );
      }
        where
          set-few : (b : Bool) (e : ℕ × ℕ) → length (cond b [] (e ∷ [])) ≤ 1
          set-few true e = lit≤ tt
          set-few false e = lit≤ tt

-- ---- control after it: as it was, or at the first stage
module _ (a m next : ℕ) (lower upper : ℕ → ℤ) (es : List Effect) (x : RestrictedAction) where
  pub single-is : next ≡ 0 → with_numeric a lower upper es (with_mode_condition x (m, 0)) ≡ with_opening a m next lower upper es x
  single-is z = rw (z, append-nil x.mode_effects)

  pub macro-opens : (next ≡ 0 → ⊥) → with_mode_effect (with_numeric a lower upper es (with_mode_condition x (m, 0))) (m, next)
      ≡ with_opening a m next lower upper es x
  macro-opens h = rw (ne_eqb 0 next (λ q. h (sym q)))
