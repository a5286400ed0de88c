-- The lowering meets the terms of the pairing of plans.
-- Assumes nothing.
use mathlib.Core.Path.{◌≡◌, refl, sym, ap, ap₂, ◌∙◌, subst}
use mathlib.Core.Logic.{◌⊎◌, inl, inr}
use Prim.Native.Nat.{ℕ, suc, ◌+◌, ◌<◌}
use native.Mathlib.Nat.{add-zero}
use native.Mathlib.Omega.{arith}
use mathlib.Core.Bool.{◌&&◌, Bool, true, false, not, cond}
use mathlib.Core.Option.{Option, none, some}
use mathlib.Core.List.{append_assoc, List, [], ◌∷◌, ◌++◌}
use lib.ListN.{length, length-append, get_elem?}
use lib.Dec.{T, eqb, eqb→eq}
use lib.IntN.{ℤ, pos, ◌+ℤ◌, ◌*ℤ◌}
use lib.Signed.{le_z}
use Rattle.model.specs.Systems.{bind, or_empty, or_zero, provided}
use Rattle.integers.specs.All.{All}
use Rattle.model.specs.Walks.{Forced, Stuck, Outcome, not_opened, hangs, completes, Lowers}
use Rattle.model.specs.Tasks.{Measured, variable, weighted_sum, NumericCondition, SourceAction}
use Rattle.model.specs.Steps.{weigh, measure, conditions_hold, modes_hold, results, within_bounds}
use Rattle.integers.specs.Relation.{related}
use Rattle.model.specs.NamedSystems.{set_modes, NamedState, applies, apply, try_named, step_named, NamedSource, updated, store, conditions_met}
use Rattle.model.specs.NamedSystems.{try_named_source, step_named_source, at_rest, price_to_dead_end, entered, stage_steps, price_at, dead_end_steps, dead_end_price}
use Rattle.model.specs.NamedSystems.{after_action}
use Rattle.model.specs.InTask.{Distinct, targets}
use Rattle.model.specs.Stages.{Name, NamedAction, Stage, stages_actions, first_stage, stages_of, added_bound, on_source_terms, on_source, on_source_variables, opening_action, macro, lower_actions, opening, source_number, count_actions}
use Rattle.model.specs.Expansion.{stage_walk, walk_to_dead_end, named_values, resting_values, all_zero, price_of_effects}
use Rattle.model.proofs.Pairing.{bind-gives, none-not-some, some-unique}
use Rattle.model.proofs.StageWalk.{and_intro, and_parts, provided-gives, provided-holds, applies-out, Rest, at, Under, all_app, all_map, all-get}
use Rattle.model.proofs.StageWalk.{get-past, stages-walked, stages-hang}
use Rattle.model.proofs.EffectValues.{EffectsWalk, effects, tests_agree, move_test, all-fine}
use Rattle.model.proofs.MacroPlace.{Where, locate, first_of, no-opening-past-the-last, opening-has-its-source, stage-has-no-source, walk-length, dead-end-length, walk-range, Between}

conds-app : {I : Type 0} (xs ys : List (NumericCondition I)) (v : I → ℤ) → conditions_hold (xs ++ ys) v ≡ ((conditions_hold xs v) && (conditions_hold ys v))
conds-app [] ys v = refl
conds-app (c ∷ xs) ys v = ap (◌&&◌ (related c.relation (measure c.measured v) c.constant)) (conds-app xs ys v) ∙ both-assoc (related c.relation (measure c.measured v) c.constant) (conditions_hold xs v) (conditions_hold ys v)
  where
    both-assoc : (a b c : Bool) → (a && ((b && c))) ≡ (((a && b)) && c)
    both-assoc true b c = refl
    both-assoc false b c = refl

pub source-conditions-lift : (cs : List (NumericCondition ℕ)) (v : ℕ → ℤ) (a b : ℤ) (h : ℕ → ℤ)
    → conditions_hold (on_source_variables cs) (named_values v a b h) ≡ conditions_hold cs v
source-conditions-lift [] v a b h = refl
source-conditions-lift (c ∷ cs) v a b h =
    ap₂ (λ (z : ℤ) (x : Bool). ((related c.relation z c.constant) && x)) (lhs c.measured) (source-conditions-lift cs v a b h)
  where
    sums : (ts : List (ℕ × ℤ)) → weigh (on_source_terms ts) (named_values v a b h) ≡ weigh ts v
    sums [] = refl
    sums (t ∷ ts) = ap (λ (z : ℤ). v t.0 *ℤ t.1 +ℤ z) (sums ts)

    lhs : (l : Measured ℕ) → measure (on_source l) (named_values v a b h) ≡ measure l v
    lhs (variable i) = refl
    lhs (weighted_sum ts) = sums ts

both-again : (a b c : Bool) → (a && ((b && c))) ≡ (((a && b)) && c)
both-again true b c = refl
both-again false b c = refl

given-no : {A : Type 0} (b : Bool) (a : A) → T (not b) → provided b a ≡ none
given-no true a t = absurd t
given-no false a t = refl

either : (b : Bool) → T b ⊎ T (not b)
either true = inl tt
either false = inr tt

not_left : (a b : Bool) → T (not a) → T (not ((a && b)))
not_left true b t = absurd t
not_left false b t = tt

not_right : (a b : Bool) → T (not b) → T (not ((a && b)))
not_right true b t = t
not_right false b t = tt

no-some : {A : Type 0} {o : Option A} → o ≡ none → (y : A) → ¬ (o ≡ some y)
no-some e y f = none-not-some e f

-- what follows the opening of a, the k-th, up to where nothing applies
abbrev dead_end_of : (ℕ → ℤ) → (ℕ → ℤ) → List SourceAction → NamedSource → ℕ → SourceAction → List ℕ
dead_end_of lo hi acts s k a = walk_to_dead_end (suc (opening lo hi acts k)) (stages_of lo hi a.effects) (entered a s)

module _ (lo hi : ℕ → ℤ) where
  -- every value within its bounds
  abbrev pub Good : NamedSource → Type 0
  Good s = (j : ℕ) → T (le_z (lo j) (s.value j)) × T (le_z (s.value j) (hi j))

  stored : (ps : List (ℕ × ℤ)) (v : ℕ → ℤ) → ((j : ℕ) → T (le_z (lo j) (v j)) × T (le_z (v j) (hi j))) → T (within_bounds lo hi ps)
      → (j : ℕ) → T (le_z (lo j) (store ps v j)) × T (le_z (store ps v j) (hi j))
  stored [] v g t j = g j
  stored (p ∷ ps) v g t j = let (t₁, t₂) = and_parts (le_z (lo p.0) p.1 && le_z p.1 (hi p.0)) (within_bounds lo hi ps) t in
      stored ps (updated p.0 p.1 v) (λ i. go t₁ i (eqb p.0 i) refl) t₂ j
    where
      go : T (le_z (lo p.0) p.1 && le_z p.1 (hi p.0)) → (i : ℕ) (b : Bool) → eqb p.0 i ≡ b
          → T (le_z (lo i) (cond b p.1 (v i))) × T (le_z (cond b p.1 (v i)) (hi i))
      go t i true e = subst (λ (i : ℕ). T (le_z (lo i) p.1) × T (le_z p.1 (hi i))) (eqb→eq p.0 i (subst T (sym e) tt))
          (and_parts (le_z (lo p.0) p.1) (le_z p.1 (hi p.0)) t)
      go t i false e = g i

  -- the one bound more that a + alone has
  abbrev bound_holds : SourceAction → NamedSource → Bool
  bound_holds a x = conditions_hold (added_bound lo hi a.effects) (resting_values x.value)

  -- when the first action applies
  opens : (s : ℕ) (a : SourceAction) (x : NamedSource) → applies (opening_action lo hi s a) (at_rest x) ≡ (conditions_met a x && bound_holds a x)
  opens s a x = ap (◌&&◌ (modes_hold a.mode_conditions x.mode))
      (conds-app (on_source_variables a.conditions) (added_bound lo hi a.effects) (resting_values x.value)
      ∙ ap (λ (b : Bool). b && bound_holds a x) (source-conditions-lift a.conditions x.value (pos 0) (pos 0) all_zero))
      ∙ both-again (modes_hold a.mode_conditions x.mode) (conditions_hold a.conditions x.value) (bound_holds a x)

  module _ (acts : List SourceAction) (all_once : All (λ (a : SourceAction). Distinct (targets a.effects)) acts) where
    abbrev R : List NamedAction
    R = lower_actions lo hi 1 acts

    abbrev OutcomeOf : NamedSource → ℕ → Type 0
    OutcomeOf s k = Outcome (step_named_source lo hi acts) (step_named R) Rest at_rest Good (opening lo hi acts) (source_number lo hi acts) (stage_steps lo hi acts) (price_at acts) (dead_end_steps lo hi acts) s k

    module _ (s : NamedSource) (g : Good s) (k : ℕ) (a : SourceAction) (e : get_elem? acts k ≡ some a) (once : Distinct (targets a.effects))
        (w : Where lo hi acts 1 k a) where
      abbrev v₀ : Name → ℤ
      v₀ = resting_values s.value

      abbrev v₁ : Name → ℤ
      v₁ = entered a s

      abbrev m₁ : ℕ → ℕ
      m₁ = set_modes a.mode_effects s.mode

      abbrev ds : List Stage
      ds = stages_of lo hi a.effects

      abbrev opened : NamedState
      opened = at v₁ m₁ (first_stage w.from ds)

      abbrev bnd : Bool
      bnd = bound_holds a s

      abbrev ins : Bool
      ins = within_bounds lo hi (results a.effects s.value)

      abbrev fits : Bool
      fits = move_test lo hi a.effects s.value

      src-step : step_named_source lo hi acts s k ≡ provided (((conditions_met a s) && ins)) (after_action a s)
      src-step = ap (λ (o : Option SourceAction). bind o (try_named_source lo hi s)) e

      pub dst-step : step_named R (at_rest s) (opening lo hi acts k) ≡ provided (((conditions_met a s) && bnd)) opened
      dst-step = ap (λ (o : Option NamedAction). bind o (try_named (at_rest s))) row ∙ ap (λ (b : Bool). provided b opened) (opens w.from a s)
        where
          row : get_elem? R (opening lo hi acts k) ≡ some (opening_action lo hi w.from a)
          row = ap (get_elem? R) (sym w.lengths ∙ sym (add-zero (length w.pre))) ∙ ap (λ (l : List NamedAction). get_elem? l (length w.pre + 0)) w.split
              ∙ get-past w.pre (macro lo hi w.from a ++ w.post) 0

      abbrev pre₁ : List NamedAction
      pre₁ = w.pre ++ (opening_action lo hi w.from a ∷ [])

      split₁ : R ≡ pre₁ ++ (stages_actions w.from ds ++ w.post)
      split₁ = w.split ∙ sym (append_assoc w.pre (opening_action lo hi w.from a ∷ []) (stages_actions w.from ds ++ w.post))

      under₁ : Under w.from pre₁
      under₁ = all_app (λ (r : NamedAction). r.control < w.from) w.pre (opening_action lo hi w.from a ∷ []) w.under (w.after, tt)

      long₁ : length pre₁ ≡ suc (opening lo hi acts k)
      long₁ = length-append w.pre (opening_action lo hi w.from a ∷ []) ∙ omega (arith, w.lengths)

      E : EffectsWalk lo hi a.effects s.value
      E = effects lo hi a.effects s.value once

      finish : T fits → Forced (step_named R) Rest opened (stage_walk (suc (opening lo hi acts k)) ds v₁) (at_rest (after_action a s))
      finish l = subst (λ (b : ℕ). Forced (step_named R) Rest opened (stage_walk b ds v₁) (at_rest (after_action a s))) long₁
          (subst (λ (f : Name → ℤ). Forced (step_named R) Rest opened (stage_walk (length pre₁) ds v₁) (at f m₁ 0)) E.runs.ending
          (stages-walked R m₁ ds w.from pre₁ w.post v₁ split₁ w.after under₁ w.past (all-fine lo hi a.effects)
          (subst T (sym E.runs.passing) l)))

      stuck-is : (z : NamedState) → Forced (step_named R) Rest opened (walk_to_dead_end (length pre₁) ds v₁) z → Forced (step_named R) Rest opened (dead_end_steps lo hi acts s k) z
      stuck-is z f = subst (λ (ks : List ℕ). Forced (step_named R) Rest opened ks z)
          (ap (λ (b : ℕ). walk_to_dead_end b ds v₁) long₁ ∙ sym (ap (λ (o : Option SourceAction). or_empty o (dead_end_of lo hi acts s k)) e)) f

      -- a result out of bounds
      outside : T (not (bnd && fits)) → step_named_source lo hi acts s k ≡ none
      outside n = src-step ∙ given-no (conditions_met a s && ins) (after_action a s)
          (not_right (conditions_met a s) ins (subst (λ (b : Bool). T (not b)) (tests_agree lo hi a.effects s.value g) n))

      choose : T (conditions_met a s) ⊎ T (not (conditions_met a s)) → T bnd ⊎ T (not bnd) → T fits ⊎ T (not fits) → OutcomeOf s k
      choose (inr n) _ _ = not_opened (src-step ∙ given-no (((conditions_met a s) && ins)) (after_action a s) (not_left (conditions_met a s) ins n))
          (no-some (dst-step ∙ given-no (((conditions_met a s) && bnd)) opened (not_left (conditions_met a s) bnd n)))
      choose (inl f) (inr n) _ = not_opened
          (outside (not_left bnd fits n))
          (no-some (dst-step ∙ given-no (((conditions_met a s) && bnd)) opened (not_right (conditions_met a s) bnd n)))
      choose (inl f) (inl b) (inr n) =
          let (z, fo, st) = stages-hang R m₁ ds w.from pre₁ w.post v₁ split₁ w.after under₁ w.past (all-fine lo hi a.effects)
          (subst (λ (c : Bool). T (not c)) (sym E.runs.passing) n) in
          hangs opened z
          (outside (not_right bnd fits n))
          (dst-step ∙ provided-holds (((conditions_met a s) && bnd)) opened (and_intro (conditions_met a s) bnd f b)) (stuck-is z fo) st
      choose (inl f) (inl b) (inl l) =
          completes (after_action a s) opened
          (src-step ∙ provided-holds (((conditions_met a s) && ins)) (after_action a s) (and_intro (conditions_met a s) ins f in-ok))
          (stored (results a.effects s.value) s.value g in-ok)
          (dst-step ∙ provided-holds (((conditions_met a s) && bnd)) opened (and_intro (conditions_met a s) bnd f b))
          (subst (λ (ks : List ℕ). Forced (step_named R) Rest opened ks (at_rest (after_action a s))) (sym tail-is) (finish l))
          (opening-has-its-source lo hi acts k a e)
          (subst (All (λ (j : ℕ). source_number lo hi acts j ≡ none)) (sym tail-is)
          (all_map (Between (suc (opening lo hi acts k)) (suc (opening lo hi acts k) + count_actions ds)) (λ (j : ℕ). source_number lo hi acts j ≡ none)
          (λ j r. stage-has-no-source lo hi acts k a j e r.0 (omega (arith, r.1)))
          (stage_walk (suc (opening lo hi acts k)) ds v₁) (walk-range (suc (opening lo hi acts k)) ds v₁)))
          (ap (λ (o : Option SourceAction). or_zero o (λ a. price_of_effects a.effects s.value)) e ∙ E.priced
          ∙ ap suc (sym E.runs.costing ∙ sym (walk-length (suc (opening lo hi acts k)) ds v₁) ∙ ap length (sym tail-is)))
        where
          in-ok : T ins
          in-ok = subst T (tests_agree lo hi a.effects s.value g) (and_intro bnd fits b l)

          tail-is : stage_steps lo hi acts s k ≡ stage_walk (suc (opening lo hi acts k)) ds v₁
          tail-is = ap (λ (o : Option SourceAction). or_empty o (λ a. stage_walk (suc (opening lo hi acts k)) (stages_of lo hi a.effects) (entered a s))) e

    outcome : (s : NamedSource) → Good s → (k : ℕ) → OutcomeOf s k
    outcome s g k = go (get_elem? acts k) refl
      where
        go : (o : Option SourceAction) → get_elem? acts k ≡ o → OutcomeOf s k
        go none e = not_opened (ap (λ (o : Option SourceAction). bind o (try_named_source lo hi s)) e)
            (no-some (ap (λ (o : Option NamedAction). bind o (try_named (at_rest s))) (no-opening-past-the-last lo hi acts 1 k e)))
        go (some a) e = choose s g k a e (all-get (λ (a : SourceAction). Distinct (targets a.effects)) acts k a all_once e)
            (locate lo hi acts 1 k a (omega arith) e) (either (conditions_met a s)) (either (bound_holds a s))
            (either (move_test lo hi a.effects s.value))

    pub lowers : Lowers (step_named_source lo hi acts) (step_named R) Rest at_rest Good (opening lo hi acts) (source_number lo hi acts) (stage_steps lo hi acts) (price_at acts) (dead_end_steps lo hi acts)
    lowers = record {
      rests = λ s. refl;
      only_openings = λ s k y e. let (r, e₁, e₂) = bind-gives (get_elem? R k) (try_named (at_rest s)) y e in
          first_of lo hi acts 1 k r (omega arith) e₁ (sym (applies-out r (at_rest s) (provided-gives (applies r (at_rest s)) (apply r (at_rest s)) y e₂).0).0);
      outcomes = outcome;
    }

    stuck-length : (s : NamedSource) (k : ℕ) → length (dead_end_steps lo hi acts s k) ≡ dead_end_price lo hi acts s k
    stuck-length s k = go (get_elem? acts k)
      where
        go : (o : Option SourceAction)
            → length (or_empty o (dead_end_of lo hi acts s k)) ≡ or_zero o (λ a. price_to_dead_end (stages_of lo hi a.effects) (entered a s))
        go none = refl
        go (some a) = dead-end-length (suc (opening lo hi acts k)) (stages_of lo hi a.effects) (entered a s)

    -- M-113. Behind an opening that applies (y is the state it leaves) there is one walk. Where the source action applies it ends at rest, and the steps,
    -- the opening among them, number the step price; otherwise it ends where nothing applies, after `stuck_cost` steps.
    abbrev pub OneWalk : NamedSource → ℕ → NamedState → Type 0
    OneWalk s k y =
        ((s' : NamedSource) × (step_named_source lo hi acts s k ≡ some s') × Forced (step_named R) Rest y (stage_steps lo hi acts s k) (at_rest s') × (suc (length (stage_steps lo hi acts s k)) ≡ price_at acts s k))
        ⊎ ((z : NamedState) × (step_named_source lo hi acts s k ≡ none) × Forced (step_named R) Rest y (dead_end_steps lo hi acts s k) z × Stuck (step_named R) Rest z × (length (dead_end_steps lo hi acts s k) ≡ dead_end_price lo hi acts s k))

    pub no-move-hangs : (s : NamedSource) → Good s → (k : ℕ) (y : NamedState) → step_named R (at_rest s) (opening lo hi acts k) ≡ some y → OneWalk s k y
    no-move-hangs s g k y o = go (outcome s g k)
      where
        go : OutcomeOf s k → OneWalk s k y
        go (not_opened _ n) = absurd (n y o)
        go (hangs y' z e o' f st) = inr (z, e, subst (λ (u : NamedState). Forced (step_named R) Rest u (dead_end_steps lo hi acts s k) z) (some-unique o' o) f, st, stuck-length s k)
        go (completes s' y' e _ o' f _ _ pr) = inl (s', e, subst (λ (u : NamedState). Forced (step_named R) Rest u (stage_steps lo hi acts s k) (at_rest s')) (some-unique o' o) f, sym pr)
