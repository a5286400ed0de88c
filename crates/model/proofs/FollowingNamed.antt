-- The lowering over named variables meets the terms of following: which openings apply though the source action doesn't.
-- Assumes nothing.
use mathlib.Core.Path.{◌≡◌, refl, sym, ap, ap₂, ◌∙◌, subst}
use mathlib.Core.Logic.{inl, inr}
use Prim.Native.Nat.{ℕ, zero, suc, ◌+◌, ◌-◌, ◌≤◌, ◌<◌}
use native.Mathlib.Omega.{arith}
use mathlib.Core.Bool.{◌&&◌, Bool, true, false, not, cond}
use mathlib.Core.Option.{Option, none, some, none-ne-some}
use mathlib.Core.List.{List, [], ◌∷◌, ◌++◌}
use lib.ListN.{length, length-append, get_elem?}
use lib.Dec.{T, eqb, eqb→eq, ltb, nltb→le}
use lib.IntN.{ℤ, pos}
use Rattle.model.specs.Systems.{bind, provided}
use Rattle.model.specs.Tasks.{NumericCondition, Effect, add_effect, linear_effect, quotient_effect, residue_effect, SourceAction}
use Rattle.model.specs.Steps.{conditions_hold, modes_hold, within_bounds, results}
use Rattle.model.specs.Stages.{Name, NamedAction, stages_of, added_bound, on_source_variables, macro, lower_actions, macro_size, opening, source_number}
use Rattle.model.specs.Stages.{later}
use Rattle.model.specs.Expansion.{all_zero, resting_values}
use Rattle.model.specs.NamedSystems.{NamedState, NamedSource, applies, apply, try_named, step_named, conditions_met, try_named_source, step_named_source}
use Rattle.model.specs.NamedSystems.{after_action, at_rest, stage_steps, dead_end_steps, price_at}
use Rattle.integers.specs.All.{All}
use Rattle.model.specs.InTask.{Distinct, targets}
use Rattle.model.specs.Following.{if_any, makes_macro}
use Rattle.model.proofs.Pairing.{bind-gives, none-not-some, some-injective}
use Rattle.model.proofs.StageWalk.{Rest, and_intro, and_parts, provided-gives, provided-holds, applies-out, found-below-length, all-get}
use Rattle.model.proofs.StageValues.{and-true}
use Rattle.model.proofs.EffectValues.{move_test, tests_agree}
use Rattle.model.proofs.StepBounds.{true_of}
use Rattle.model.proofs.MacroPlace.{OpensOrOfAStage, opens-or-of-a-stage, macro-length, locate, no-opening-past-the-last}
use Rattle.model.proofs.Outcomes.{Good, lowers, dst-step, source-conditions-lift}
use Rattle.model.proofs.FollowingPlans.{Projects}

module _ (lo hi : ℕ → ℤ) where
  -- a source number is that of an action's opening in R
  source-opens : (acts : List SourceAction) (s k a : ℕ) → source_number lo hi acts k ≡ some a → (opening lo hi acts a ≡ k) × (k < length (lower_actions lo hi s acts))
  source-opens [] s k a e = absurd (none-ne-some a e)
  source-opens (x ∷ acts) s zero a e = (ap (opening lo hi (x ∷ acts)) (sym (some-injective e)), omega arith)
  source-opens (x ∷ acts) s (suc k) a e = go (ltb (suc k) (macro_size lo hi x)) refl (source_number lo hi acts (suc k - macro_size lo hi x)) refl e
      (source-opens acts (s + length (stages_of lo hi x.effects)) (suc k - macro_size lo hi x))
    where
      rest : List NamedAction
      rest = lower_actions lo hi (s + length (stages_of lo hi x.effects)) acts

      go : (b : Bool) → ltb (suc k) (macro_size lo hi x) ≡ b → (o : Option ℕ) → source_number lo hi acts (suc k - macro_size lo hi x) ≡ o → cond b none (later o) ≡ some a
          → ((a : ℕ) → source_number lo hi acts (suc k - macro_size lo hi x) ≡ some a → (opening lo hi acts a ≡ suc k - macro_size lo hi x) × (suc k - macro_size lo hi x < length rest))
          → (opening lo hi (x ∷ acts) a ≡ suc k) × (suc k < length (macro lo hi s x ++ rest))
      go true l o n e ih = absurd (none-ne-some a e)
      go false l none n e ih = absurd (none-ne-some a e)
      go false l (some a') n e ih =
          let (w, few) = ih a' n in
          let past : macro_size lo hi x ≤ suc k = nltb→le (suc k) (macro_size lo hi x) (subst (λ (b : Bool). T (not b)) (sym l) tt) in
          let at : macro_size lo hi x + opening lo hi acts a' ≡ suc k = omega (arith, w, past) in
          (ap (opening lo hi (x ∷ acts)) (sym (some-injective e)) ∙ at, omega (arith, few, past, length-append (macro lo hi s x) rest, macro-length lo hi s x))

  -- only a lone + asks its action for a bound more
  no-added-bound : (es : List Effect) (v : Name → ℤ) → makes_macro es ≡ true → T (conditions_hold (added_bound lo hi es) v)
  no-added-bound [] v m = tt
  no-added-bound (add_effect t c ∷ []) v m = absurd (subst T (sym m) tt)
  no-added-bound (linear_effect t w ts ∷ []) v m = tt
  no-added-bound (quotient_effect t y c ∷ []) v m = tt
  no-added-bound (residue_effect t y c ∷ []) v m = tt
  no-added-bound (e ∷ f ∷ es) v m = tt

  -- only a macro has a turn that asks for bounds
  turned-back-in-a-macro : (es : List Effect) (v : ℕ → ℤ) → move_test lo hi es v ≡ false → makes_macro es ≡ true
  turned-back-in-a-macro [] v m = absurd (subst T m tt)
  turned-back-in-a-macro (add_effect t c ∷ []) v m = absurd (subst T m tt)
  turned-back-in-a-macro (linear_effect t w ts ∷ []) v m = refl
  turned-back-in-a-macro (quotient_effect t y c ∷ []) v m = refl
  turned-back-in-a-macro (residue_effect t y c ∷ []) v m = refl
  turned-back-in-a-macro (e ∷ f ∷ es) v m = refl

  module _ (acts : List SourceAction) (all_once : All (λ (a : SourceAction). Distinct (targets a.effects)) acts) where
    abbrev R : List NamedAction
    R = lower_actions lo hi 1 acts

    -- source action k becomes a macro, and its P and C hold
    abbrev pub opens_named : NamedSource → ℕ → Bool
    opens_named s k = if_any (get_elem? acts k) (λ a. makes_macro a.effects && conditions_met a s) false

    module _ (s : NamedSource) (g : Good lo hi s) (k : ℕ) where
      abbrev bound : SourceAction → Bool
      bound a = conditions_hold (added_bound lo hi a.effects) (resting_values s.value)

      -- an opening that applies where the source action doesn't is turned back by the turn of a Move
      turned-back : (a : SourceAction) → get_elem? acts k ≡ some a → T (conditions_met a s) → T (bound a) → step_named_source lo hi acts s k ≡ none
          → move_test lo hi a.effects s.value ≡ false
      turned-back a e m b n = go (move_test lo hi a.effects s.value) refl
        where
          inside : Bool
          inside = within_bounds lo hi (results a.effects s.value)

          go : (c : Bool) → move_test lo hi a.effects s.value ≡ c → c ≡ false
          go true q = absurd (none-not-some n (ap (λ (o : Option SourceAction). bind o (try_named_source lo hi s)) e ∙ provided-holds (conditions_met a s && inside) (after_action a s) (and_intro (conditions_met a s) inside m
              (subst T (tests_agree lo hi a.effects s.value g) (and_intro (bound a) (move_test lo hi a.effects s.value) b (subst T (sym q) tt))))))
          go false q = refl

      -- what its opening gives
      opening-step : (a : SourceAction) → get_elem? acts k ≡ some a
          → (y : NamedState) × (step_named R (at_rest s) (opening lo hi acts k) ≡ provided (conditions_met a s && bound a) y)
      opening-step a e =
          let once = all-get (λ (a : SourceAction). Distinct (targets a.effects)) acts k a all_once e in
          (_, dst-step lo hi acts all_once s g k a e once (locate lo hi acts 1 k a (omega arith) e))

      opening-hangs : (y : NamedState) → step_named_source lo hi acts s k ≡ none → step_named R (at_rest s) (opening lo hi acts k) ≡ some y → opens_named s k ≡ true
      opening-hangs y n o = go (get_elem? acts k) refl
        where
          go : (r : Option SourceAction) → get_elem? acts k ≡ r → opens_named s k ≡ true
          go none e = absurd (none-not-some (ap (λ (o : Option NamedAction). bind o (try_named (at_rest s))) (no-opening-past-the-last lo hi acts 1 k e)) o)
          go (some a) e =
              let (z, step) = opening-step a e in
              let (m, b) = and_parts (conditions_met a s) (bound a) (provided-gives (conditions_met a s && bound a) z y (sym step ∙ o)).0 in
              let back : move_test lo hi a.effects s.value ≡ false = turned-back a e m b n in
              ap (λ (o : Option SourceAction). if_any o (λ a. makes_macro a.effects && conditions_met a s) false) e
              ∙ ap₂ ◌&&◌ (turned-back-in-a-macro a.effects s.value back) (true_of (conditions_met a s) m)

      opening-shut : ((y : NamedState) → ¬ (step_named R (at_rest s) (opening lo hi acts k) ≡ some y)) → opens_named s k ≡ false
      opening-shut off = go (get_elem? acts k) refl
        where
          go : (r : Option SourceAction) → get_elem? acts k ≡ r → opens_named s k ≡ false
          go none e = ap (λ (o : Option SourceAction). if_any o (λ a. makes_macro a.effects && conditions_met a s) false) e
          go (some a) e = ap (λ (o : Option SourceAction). if_any o (λ a. makes_macro a.effects && conditions_met a s) false) e
              ∙ on (makes_macro a.effects) refl (conditions_met a s) refl
            where
              on : (c : Bool) → makes_macro a.effects ≡ c → (d : Bool) → conditions_met a s ≡ d → (c && d) ≡ false
              on true p true q =
                  let (z, step) = opening-step a e in
                  let both = and_intro (conditions_met a s) (bound a) (subst T (sym q) tt) (no-added-bound a.effects (resting_values s.value) p) in
                  absurd (off z (step ∙ provided-holds (conditions_met a s && bound a) z both))
              on true p false q = refl
              on false p d q = refl

    from-rest : (s : NamedSource) (k : ℕ) (y : NamedState) → step_named R (at_rest s) k ≡ some y → (a : ℕ) × (source_number lo hi acts k ≡ some a)
    from-rest s k y e =
        let (r, e₁, e₂) = bind-gives (get_elem? R k) (try_named (at_rest s)) y e in
        go r (opens-or-of-a-stage lo hi acts 1 k r (omega arith) e₁) (applies-out r (at_rest s) (provided-gives (applies r (at_rest s)) (apply r (at_rest s)) y e₂).0).0
      where
        go : (r : NamedAction) → OpensOrOfAStage lo hi acts k r → 0 ≡ r.control → (a : ℕ) × (source_number lo hi acts k ≡ some a)
        go r (inl (a, n, o, c)) q = (a, n)
        go r (inr (n, c)) q = absurd (omega arith)

    module _ (gp : List (ℕ × ℕ)) (gc : List (NumericCondition ℕ)) where
      abbrev pub goal_named : NamedSource → Bool
      goal_named s = modes_hold gp s.mode && conditions_hold gc s.value

      abbrev pub goal_lowered : NamedState → Bool
      goal_lowered x = (modes_hold gp x.mode && eqb x.control 0) && conditions_hold (on_source_variables gc) x.value

      -- the terms of following are met
      pub named-projects : Projects (step_named_source lo hi acts) (step_named R) Rest at_rest (Good lo hi) (opening lo hi acts) (source_number lo hi acts) (stage_steps lo hi acts) (price_at acts) (dead_end_steps lo hi acts)
          (length R) goal_named goal_lowered opens_named
      named-projects = record {
        lowers = lowers lo hi acts all_once;
        counted = λ x k y e. let (r, e₁, e₂) = bind-gives (get_elem? R k) (try_named x) y e in found-below-length R k r e₁;
        goal_rests = λ x h. eqb→eq x.control 0 (and_parts (modes_hold gp x.mode) (eqb x.control 0) (and_parts (modes_hold gp x.mode && eqb x.control 0) (conditions_hold (on_source_variables gc) x.value) h).0).1;
        goals_agree = λ s. ap₂ ◌&&◌ (and-true (modes_hold gp s.mode)) (source-conditions-lift gc s.value (pos 0) (pos 0) all_zero);
        from_rest = from-rest;
        numbers = source-opens acts 1;
        hanging = opening-hangs;
        unopened = opening-shut;
      }
