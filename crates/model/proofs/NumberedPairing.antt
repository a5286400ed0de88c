-- The systems over lists and numbers go the same way as those over named variables; so the pairing of plans holds of them.
-- Assumes nothing.
use mathlib.Core.Path.{◌≡◌, refl, sym, ap, ap₂, ◌∙◌, subst, fun_ext}
use Prim.Native.Nat.{ℕ, zero, suc, ◌+◌, ◌≤◌, ◌<◌}
use native.Mathlib.Omega.{arith}
use mathlib.Core.Bool.{◌&&◌, Bool, true, false, cond}
use mathlib.Core.Option.{Option, none, some, none-ne-some}
use mathlib.Core.List.{List, [], ◌∷◌, ◌++◌}
use lib.ListN.{length, length-set, length-replicate, replicate, set}
use lib.Dec.{T, eqb, eqb→eq}
use lib.IntN.{ℤ, pos, negsuc, neg_ℤ, ◌-ℤ◌}
use lib.Signed.{lt_z}
use Rattle.model.specs.Systems.{bind, or_empty, or_zero, run_plan, keep, expand_from, total_price, provided}
use Rattle.integers.specs.All.{All}
use Rattle.model.specs.Walks.{Pairing}
use Rattle.model.specs.Tasks.{Measured, variable, weighted_sum, NumericCondition, SourceAction, Effect, add_effect, linear_effect, quotient_effect}
use Rattle.model.specs.Tasks.{residue_effect, State}
use Rattle.integers.specs.Relation.{at_most, at_least}
use Rattle.model.specs.Steps.{target, conditions_hold, modes_hold, results, within_bounds, integer_at, natural_at, set_all, applies_restricted}
use Rattle.model.specs.Steps.{apply_restricted, restricted_step_of, try_source, source_step_of}
use Rattle.model.specs.NamedSystems.{mode_effect_on, or_default, set_modes, NamedState, applies, apply, step_named, NamedSource, store}
use Rattle.model.specs.NamedSystems.{conditions_met, try_named_source, step_named_source, at_rest, stage_steps, price_at, by_name, after_action}
use Rattle.model.specs.Stages.{Name, source, helper_a, helper_b, hold, NamedAction, Stage, when, opposite, stage_actions, first_stage, stages_actions}
use Rattle.model.specs.Stages.{drain, refill, divide, empty, clear, move, drain_terms, move_to_hold, result_stages, result_in, add_to_a, entering_additions}
use Rattle.model.specs.Stages.{next_additions, hold_stages, set_stages, unload_stages, stages_of, added_bound, opening_additions, on_source_terms, on_source}
use Rattle.model.specs.Stages.{on_source_variables, lower_actions, opening, source_number}
use Rattle.model.specs.Expansion.{same_name, addition_to, named_values, stage_steps_from, price_from}
use Rattle.model.specs.Lowering.{resting_helpers, numbered_measure, numbered_conditions, numbered_additions, numbered, numbered_all, helpers_at_rest}
use Rattle.model.specs.Lowering.{lowered_actions}
use Rattle.model.specs.InTask.{NameIn, MeasureIn, Once, EffectIn, ActionIn, HoldsFor, Distinct, targets, SourceGoal, LoweredGoal}
use Rattle.model.proofs.Pairing.{some-injective}
use Rattle.model.proofs.StageWalk.{and_intro, and_parts, all_app, all_map}
use Rattle.model.proofs.Outcomes.{Good}
use Rattle.model.proofs.NamedPairing.{named-plans-pair-off, GoalS, GoalR}
use Rattle.model.proofs.Arrays.{get_set, list_ext, replicated, NamesOnce, ValuesLaid, values-laid-all, values-laid-conditions, ModesLaid}
use Rattle.model.proofs.Arrays.{modes-laid-all, modes-laid-set, modes-laid-hold}

-- ---- two systems that go together
abbrev pub Agree : {X Y : Type 0} → (X → Y → Type 0) → Option X → Option Y → Type 0
Agree Sim none none = Unit {0}
Agree Sim none (some y) = ⊥
Agree Sim (some x) none = ⊥
Agree Sim (some x) (some y) = Sim x y

module _ {X Y : Type 0} (Sim : X → Y → Type 0) where
  pub agree_left : (o : Option X) (o' : Option Y) (x : X) → Agree Sim o o' → o ≡ some x → (y : Y) × (o' ≡ some y) × Sim x y
  agree_left none o' x h e = absurd (none-ne-some x e)
  agree_left (some u) none x h e = absurd h
  agree_left (some u) (some y) x h e = (y, refl, subst (λ (v : X). Sim v y) (some-injective e) h)

  pub agree_right : (o : Option X) (o' : Option Y) (y : Y) → Agree Sim o o' → o' ≡ some y → (x : X) × (o ≡ some x) × Sim x y
  agree_right o none y h e = absurd (none-ne-some y e)
  agree_right none (some v) y h e = absurd h
  agree_right (some x) (some v) y h e = (x, refl, subst (Sim x) (some-injective e) h)

  pub agree-run : (step_x : X → ℕ → Option X) (step_y : Y → ℕ → Option Y) → ((x : X) (y : Y) (k : ℕ) → Sim x y → Agree Sim (step_x x k) (step_y y k))
      → (q : List ℕ) (x : X) (y : Y) → Sim x y → Agree Sim (run_plan step_x q x) (run_plan step_y q y)
  agree-run step_x step_y h [] x y s = s
  agree-run step_x step_y h (k ∷ q) x y s = go (step_x x k) (step_y y k) (h x y k s) (agree-run step_x step_y h q)
    where
      go : (o : Option X) (o' : Option Y) → Agree Sim o o' → ((x : X) (y : Y) → Sim x y → Agree Sim (run_plan step_x q x) (run_plan step_y q y)) → Agree Sim (bind o (run_plan step_x q)) (bind o' (run_plan step_y q))
      go none none a ih = tt
      go none (some y) a ih = absurd a
      go (some x) none a ih = absurd a
      go (some x) (some y) a ih = ih x y a

  pub agree-given : (b b' : Bool) (x : X) (y : Y) → b ≡ b' → (T b' → Sim x y) → Agree Sim (provided b x) (provided b' y)
  agree-given b true x y e h = subst (λ (c : Bool). Agree Sim (provided c x) (some y)) (sym e) (h tt)
  agree-given b false x y e h = subst (λ (c : Bool). Agree Sim (provided c x) none) (sym e) tt

-- ---- rows
pub record NamedActionIn (n holds m : ℕ) (r : NamedAction) : Type 0 where
  pub mode_conditions_in : All (λ (p : ℕ × ℕ). p.0 < m) r.mode_conditions
  pub conditions_in : All (λ (c : NumericCondition Name). MeasureIn (NameIn n holds) c.measured) r.conditions
  pub mode_effects_in : All (λ (p : ℕ × ℕ). p.0 < m) r.mode_effects
  pub mode_effects_once : Once r.mode_effects
  pub additions_in : All (λ (e : Name × ℤ). NameIn n holds e.0) r.additions
  pub additions_once : NamesOnce r.additions

abbrev pub RestrictedAgrees : ℕ → ℕ → ℕ → State → NamedState → Type 0
RestrictedAgrees n holds m X x = ValuesLaid n holds X.values x.value × ModesLaid m X.modes x.mode x.control

set_all-app : (es fs : List (ℕ × ℕ)) (l : List ℕ) → set_all (es ++ fs) l ≡ set_all fs (set_all es l)
set_all-app [] fs l = refl
set_all-app (e ∷ es) fs l = set_all-app es fs (set l e.0 e.1)

shuffle : (a b c : Bool) → (((a && b)) && c) ≡ (b && ((a && c)))
shuffle true true c = refl
shuffle true false c = refl
shuffle false true c = refl
shuffle false false c = refl

row-applies : (n holds m : ℕ) (r : NamedAction) (X : State) (x : NamedState) → NamedActionIn n holds m r → RestrictedAgrees n holds m X x
    → applies_restricted (numbered n m r) X ≡ applies r x
row-applies n holds m r X x i (L, M) = ap₂ ◌&&◌ (modes-laid-hold m r.mode_conditions X.modes x.mode x.control r.control i.mode_conditions_in M)
    (values-laid-conditions n holds r.conditions X.values x.value i.conditions_in L)
    ∙ shuffle (modes_hold r.mode_conditions x.mode) (eqb x.control r.control) (conditions_hold r.conditions x.value)

row-apply : (n holds m : ℕ) (r : NamedAction) (X : State) (x : NamedState) → NamedActionIn n holds m r → RestrictedAgrees n holds m X x → T (applies r x)
    → RestrictedAgrees n holds m (apply_restricted (numbered n m r) X) (apply r x)
row-apply n holds m r X x i (L, M) t = (
  values-laid-all n holds r.additions X.values x.value i.additions_in i.additions_once L,
  subst (λ (u : List ℕ). ModesLaid m u (set_modes r.mode_effects x.mode) r.next_control) (sym (set_all-app r.mode_effects (cond (eqb r.control r.next_control) [] ((m, r.next_control) ∷ [])) X.modes))
      (go (eqb r.control r.next_control) refl),
)
  where
    M' : ModesLaid m (set_all r.mode_effects X.modes) (set_modes r.mode_effects x.mode) x.control
    M' = modes-laid-all m r.mode_effects X.modes x.mode x.control i.mode_effects_in i.mode_effects_once M

    go : (b : Bool) → eqb r.control r.next_control ≡ b → ModesLaid m (set_all (cond b [] ((m, r.next_control) ∷ [])) (set_all r.mode_effects X.modes)) (set_modes r.mode_effects x.mode) r.next_control
    go true e = subst (ModesLaid m (set_all r.mode_effects X.modes) (set_modes r.mode_effects x.mode))
        (eqb→eq x.control r.control (and_parts (eqb x.control r.control) (((modes_hold r.mode_conditions x.mode) && (conditions_hold r.conditions x.value))) t).0 ∙ eqb→eq r.control r.next_control (subst T (sym e) tt)) M'
    go false e = modes-laid-set m (set_all r.mode_effects X.modes) (set_modes r.mode_effects x.mode) x.control r.next_control M'

pub restricted-steps-agree : (n holds m : ℕ) (R : List NamedAction) → All (NamedActionIn n holds m) R → (X : State) (x : NamedState) (k : ℕ)
    → RestrictedAgrees n holds m X x → Agree (RestrictedAgrees n holds m) (restricted_step_of (numbered_all n m R) X k) (step_named R x k)
restricted-steps-agree n holds m [] i X x k s = tt
restricted-steps-agree n holds m (r ∷ R) (i, is) X x zero s = agree-given (RestrictedAgrees n holds m) (applies_restricted (numbered n m r) X) (applies r x)
    (apply_restricted (numbered n m r) X) (apply r x) (row-applies n holds m r X x i s) (row-apply n holds m r X x i s)
restricted-steps-agree n holds m (r ∷ R) (i, is) X x (suc k) s = restricted-steps-agree n holds m R is X x k s

-- ---- every row of a lowered task is in range
pub record StageIn (n holds : ℕ) (d : Stage) : Type 0 where
  pub c_in : NameIn n holds d.counter
  pub a_in : All (λ (e : Name × ℤ). NameIn n holds e.0) d.additions
  pub a_once : NamesOnce d.additions
  pub x_in : All (λ (c : NumericCondition Name). MeasureIn (NameIn n holds) c.measured) d.turn_conditions
  pub t_in : All (λ (e : Name × ℤ). NameIn n holds e.0) d.turn_additions
  pub t_once : NamesOnce d.turn_additions

opposite-in : (n holds : ℕ) (es : List (Name × ℤ)) → All (λ (e : Name × ℤ). NameIn n holds e.0) es
    → All (λ (e : Name × ℤ). NameIn n holds e.0) (opposite es)
opposite-in n holds [] h = tt
opposite-in n holds (e ∷ es) (h, hs) = (h, opposite-in n holds es hs)

opposite-none : (es : List (Name × ℤ)) (w : Name) → addition_to es w ≡ none → addition_to (opposite es) w ≡ none
opposite-none [] w h = refl
opposite-none (e ∷ es) w h = go (same_name e.0 w) h (opposite-none es w)
  where
    go : (b : Bool) → cond b (some e.1) (addition_to es w) ≡ none → (addition_to es w ≡ none → addition_to (opposite es) w ≡ none) → cond b (some (neg_ℤ e.1)) (addition_to (opposite es) w) ≡ none
    go true h k = absurd (none-ne-some e.1 (sym h))
    go false h k = k h

opposite-once : (es : List (Name × ℤ)) → NamesOnce es → NamesOnce (opposite es)
opposite-once [] h = tt
opposite-once (e ∷ es) (h, hs) = (opposite-none es e.0 h, opposite-once es hs)

rows_in : (n holds m : ℕ) (ds : List Stage) (s : ℕ) → All (StageIn n holds) ds → All (NamedActionIn n holds m) (stages_actions s ds)
rows_in n holds m [] s h = tt
rows_in n holds m (d ∷ ds) s (h, hs) = all_app (NamedActionIn n holds m) (stage_actions s d (first_stage (suc s) ds)) (stages_actions (suc s) ds) (
  record { mode_conditions_in = tt; conditions_in = (h.c_in, tt); mode_effects_in = tt; mode_effects_once = tt; additions_in = h.a_in; additions_once = h.a_once },
  (
    record {
      mode_conditions_in = tt;
      conditions_in = (h.c_in, tt);
      mode_effects_in = tt;
      mode_effects_once = tt;
      additions_in = opposite-in n holds d.additions h.a_in;
      additions_once = opposite-once d.additions h.a_once;
    },
    (record { mode_conditions_in = tt; conditions_in = (h.c_in, (h.c_in, h.x_in)); mode_effects_in = tt; mode_effects_once = tt; additions_in = h.t_in; additions_once = h.t_once }, tt),
  ),
)
    (rows_in n holds m ds (suc s) hs)

module _ (n holds : ℕ) where
  drain-in : (t : ℕ) (w : ℤ) → t < n → StageIn n holds (drain t w)
  drain-in t w h = record { c_in = h; a_in = (h, (tt, (tt, tt))); a_once = (refl, (refl, (refl, tt))); x_in = tt; t_in = tt; t_once = tt }

  refill-in : (t : ℕ) → t < n → StageIn n holds (refill t)
  refill-in t h = record { c_in = tt; a_in = (h, (tt, tt)); a_once = (refl, (refl, tt)); x_in = tt; t_in = tt; t_once = tt }

  divide-in : (c : ℤ) → StageIn n holds (divide c)
  divide-in c = record { c_in = tt; a_in = (tt, (tt, tt)); a_once = (refl, (refl, tt)); x_in = tt; t_in = tt; t_once = tt }

  empty-in : (v : Name) → NameIn n holds v → StageIn n holds (empty v)
  empty-in v h = record { c_in = h; a_in = (h, tt); a_once = (refl, tt); x_in = tt; t_in = tt; t_once = tt }

  clear_in : (t : ℕ) → t < n → StageIn n holds (clear t)
  clear_in t h = record { c_in = h; a_in = (h, tt); a_once = (refl, tt); x_in = tt; t_in = tt; t_once = tt }

  move_in : (t : ℕ) (f : Name) (lo hi : ℤ) → t < n → NameIn n holds f → same_name f (source t) ≡ false → StageIn n holds (move t f lo hi)
  move_in t f lo hi h k e = record { c_in = k; a_in = (h, (k, tt)); a_once = (ap (λ (b : Bool). cond b (some (negsuc 0)) none) e, (refl, tt)); x_in = (h, (h, tt)); t_in = tt; t_once = tt }

  terms-in : (ts : List (ℕ × ℤ)) (ds : List Stage) → All (λ (p : ℕ × ℤ). p.0 < n) ts → All (StageIn n holds) ds → All (StageIn n holds) (drain_terms ts ds)
  terms-in [] ds h k = k
  terms-in (t ∷ ts) ds (h, hs) k = (drain-in t.0 t.1 h, (refill-in t.0 h, terms-in ts ds hs k))

  to-hold-in : (e : Effect) (j : ℕ) (es : List (Name × ℤ)) → j < holds → All (λ (e : Name × ℤ). NameIn n holds e.0) es × NamesOnce es
      → StageIn n holds (move_to_hold j (result_in e) es)
  to-hold-in (add_effect t c) j es h k = record { c_in = tt; a_in = (tt, (h, tt)); a_once = (refl, (refl, tt)); x_in = tt; t_in = k.0; t_once = k.1 }
  to-hold-in (linear_effect t w ts) j es h k = record { c_in = tt; a_in = (tt, (h, tt)); a_once = (refl, (refl, tt)); x_in = tt; t_in = k.0; t_once = k.1 }
  to-hold-in (quotient_effect t y c) j es h k = record { c_in = tt; a_in = (tt, (h, tt)); a_once = (refl, (refl, tt)); x_in = tt; t_in = k.0; t_once = k.1 }
  to-hold-in (residue_effect t y c) j es h k = record { c_in = tt; a_in = (tt, (h, tt)); a_once = (refl, (refl, tt)); x_in = tt; t_in = k.0; t_once = k.1 }

  -- what an opening or a turn adds to A
  to-A-in : (w : ℤ) → All (λ (e : Name × ℤ). NameIn n holds e.0) (add_to_a w) × NamesOnce (add_to_a w)
  to-A-in (pos zero) = (tt, tt)
  to-A-in (pos (suc w)) = ((tt, tt), (refl, tt))
  to-A-in (negsuc w) = ((tt, tt), (refl, tt))

  entering-in : (e : Effect) → All (λ (e : Name × ℤ). NameIn n holds e.0) (entering_additions e) × NamesOnce (entering_additions e)
  entering-in (add_effect t c) = to-A-in c
  entering-in (linear_effect t w ts) = to-A-in w
  entering-in (quotient_effect t y c) = (tt, tt)
  entering-in (residue_effect t y c) = (tt, tt)

  next-in : (es : List Effect) → All (λ (e : Name × ℤ). NameIn n holds e.0) (next_additions es) × NamesOnce (next_additions es)
  next-in [] = (tt, tt)
  next-in (e ∷ es) = entering-in e

  results-in : (e : Effect) (ds : List Stage) → EffectIn n e → All (StageIn n holds) ds → All (StageIn n holds) (result_stages e ds)
  results-in (add_effect t c) ds h k = terms-in ((t, pos 1) ∷ []) ds (h, tt) k
  results-in (linear_effect t w ts) ds (h, hs) k = terms-in ts ds hs k
  results-in (quotient_effect t y c) ds (h, i) k = (drain-in y (pos 1) i, (refill-in y i, (divide-in c, (empty-in helper_a tt, k))))
  results-in (residue_effect t y c) ds (h, i) k = (drain-in y (pos 1) i, (refill-in y i, (divide-in c, (empty-in helper_b tt, k))))

  target-in : (e : Effect) → EffectIn n e → target e < n
  target-in (add_effect t c) h = h
  target-in (linear_effect t w ts) (h, hs) = h
  target-in (quotient_effect t y c) (h, k) = h
  target-in (residue_effect t y c) (h, k) = h

  holds-in : (es : List Effect) (j : ℕ) (ds : List Stage) → j + length es ≤ holds → All (EffectIn n) es → All (StageIn n holds) ds
      → All (StageIn n holds) (hold_stages j es ds)
  holds-in [] j ds l h k = k
  holds-in (e ∷ es) j ds l (h, hs) k = results-in e (move_to_hold j (result_in e) (next_additions es) ∷ hold_stages (suc j) es ds) h
      (to-hold-in e j (next_additions es) (omega (arith, l)) (next-in es), holds-in es (suc j) ds (omega (arith, l)) hs k)

  module _ (lo hi : ℕ → ℤ) where
    set-in : (t : ℕ) (f : Name) (ds : List Stage) → t < n → NameIn n holds f → same_name f (source t) ≡ false → All (StageIn n holds) ds
        → All (StageIn n holds) (set_stages lo hi f t ds)
    set-in t f ds h i e k = (clear_in t h, (move_in t f (lo t) (hi t) h i e, k))

    unloads-in : (es : List Effect) (j : ℕ) → j + length es ≤ holds → All (EffectIn n) es → All (StageIn n holds) (unload_stages lo hi j es)
    unloads-in [] j l h = tt
    unloads-in (e ∷ es) j l (h, hs) = set-in (target e) (hold j) (unload_stages lo hi (suc j) es) (target-in e h) (omega (arith, l)) refl
        (unloads-in es (suc j) (omega (arith, l)) hs)

    stages-in : (es : List Effect) → All (EffectIn n) es → HoldsFor holds es → All (StageIn n holds) (stages_of lo hi es)
    stages-in [] h f = tt
    stages-in (add_effect t c ∷ []) h f = tt
    stages-in (linear_effect t w ts ∷ []) (h, hs) f = results-in (linear_effect t w ts) (set_stages lo hi helper_a t []) h (set-in t helper_a [] h.0 tt refl tt)
    stages-in (quotient_effect t y c ∷ []) (h, hs) f = results-in (quotient_effect t y c) (set_stages lo hi helper_b t []) h (set-in t helper_b [] h.0 tt refl tt)
    stages-in (residue_effect t y c ∷ []) (h, hs) f = results-in (residue_effect t y c) (set_stages lo hi helper_a t []) h (set-in t helper_a [] h.0 tt refl tt)
    stages-in (e ∷ e' ∷ es) h f = holds-in (e ∷ e' ∷ es) 0 (unload_stages lo hi 0 (e ∷ e' ∷ es)) (omega (arith, f)) h
        (unloads-in (e ∷ e' ∷ es) 0 (omega (arith, f)) h)

lift-in : (n holds : ℕ) (cs : List (NumericCondition ℕ)) → All (λ (c : NumericCondition ℕ). MeasureIn (λ (i : ℕ). i < n) c.measured) cs
    → All (λ (c : NumericCondition Name). MeasureIn (NameIn n holds) c.measured) (on_source_variables cs)
lift-in n holds [] h = tt
lift-in n holds (c ∷ cs) (h, hs) = (lhs c.measured h, lift-in n holds cs hs)
  where
    sums : (ts : List (ℕ × ℤ)) → All (λ (t : ℕ × ℤ). t.0 < n) ts → All (λ (t : Name × ℤ). NameIn n holds t.0) (on_source_terms ts)
    sums [] h = tt
    sums (t ∷ ts) (h, hs) = (h, sums ts hs)

    lhs : (l : Measured ℕ) → MeasureIn (λ (i : ℕ). i < n) l → MeasureIn (NameIn n holds) (on_source l)
    lhs (variable i) h = h
    lhs (weighted_sum ts) h = sums ts h

bound-in : (n holds : ℕ) (lo hi : ℕ → ℤ) (es : List Effect) → All (EffectIn n) es
    → All (λ (c : NumericCondition Name). MeasureIn (NameIn n holds) c.measured) (added_bound lo hi es)
bound-in n holds lo hi [] h = tt
bound-in n holds lo hi (add_effect t c ∷ []) (h, hs) = (which (lt_z (pos 0) c) (when (source t) at_most (hi t -ℤ c)) (when (source t) at_least (lo t -ℤ c)) h h, tt)
  where
    which : (b : Bool) (x y : NumericCondition Name) → MeasureIn (NameIn n holds) x.measured → MeasureIn (NameIn n holds) y.measured
        → MeasureIn (NameIn n holds) (cond b x y).measured
    which true x y h k = h
    which false x y h k = k
bound-in n holds lo hi (linear_effect t w ts ∷ []) h = tt
bound-in n holds lo hi (quotient_effect t y c ∷ []) h = tt
bound-in n holds lo hi (residue_effect t y c ∷ []) h = tt
bound-in n holds lo hi (e ∷ f ∷ es) h = tt

start-in : (n holds : ℕ) (es : List Effect) → All (EffectIn n) es
    → All (λ (e : Name × ℤ). NameIn n holds e.0) (opening_additions es) × NamesOnce (opening_additions es)
start-in n holds [] h = (tt, tt)
start-in n holds (add_effect t c ∷ []) (h, hs) = ((h, tt), (refl, tt))
start-in n holds (linear_effect t w ts ∷ []) h = to-A-in n holds w
start-in n holds (quotient_effect t y c ∷ []) h = (tt, tt)
start-in n holds (residue_effect t y c ∷ []) h = (tt, tt)
start-in n holds (e ∷ f ∷ es) h = entering-in n holds e

pub lower_in_lem : (n holds m : ℕ) (lo hi : ℕ → ℤ) (acts : List SourceAction) (s : ℕ) → All (ActionIn n holds m) acts
    → All (NamedActionIn n holds m) (lower_actions lo hi s acts)
lower_in_lem n holds m lo hi [] s h = tt
lower_in_lem n holds m lo hi (a ∷ acts) s (h, hs) = (
  record {
    mode_conditions_in = h.mode_conditions_in;
    conditions_in = all_app (λ (c : NumericCondition Name). MeasureIn (NameIn n holds) c.measured) (on_source_variables a.conditions)
        (added_bound lo hi a.effects) (lift-in n holds a.conditions h.conditions_in) (bound-in n holds lo hi a.effects h.effects_in);
    mode_effects_in = h.mode_effects_in;
    mode_effects_once = h.mode_effects_once;
    additions_in = (start-in n holds a.effects h.effects_in).0;
    additions_once = (start-in n holds a.effects h.effects_in).1;
  },
  all_app (NamedActionIn n holds m) (stages_actions s (stages_of lo hi a.effects)) (lower_actions lo hi (s + length (stages_of lo hi a.effects)) acts)
      (rows_in n holds m (stages_of lo hi a.effects) s (stages-in n holds lo hi a.effects h.effects_in h.holds_for))
      (lower_in_lem n holds m lo hi acts (s + length (stages_of lo hi a.effects)) hs),
)

-- ---- source states
abbrev pub SourceAgrees : ℕ → ℕ → State → NamedSource → Type 0
SourceAgrees n m X s = (length X.values ≡ n) × (length X.modes ≡ m) × (s ≡ by_name X)

modes-all : (es : List (ℕ × ℕ)) (m : ℕ) (l : List ℕ) → length l ≡ m → All (λ (e : ℕ × ℕ). e.0 < m) es → Once es → (length (set_all es l) ≡ m) × (set_modes es (natural_at l) ≡ natural_at (set_all es l))
modes-all [] m l h i o = (h, refl)
modes-all (e ∷ es) m l h (i, is) (o, os) =
    let (h', r) = modes-all es m (set l e.0 e.1) (length-set l e.0 e.1 ∙ h) is os in
    (h', fun_ext (λ k. pick k (eqb e.0 k) refl ∙ ap (or_default (mode_effect_on es k)) (sym (get_set l e.0 k e.1 0 (omega (arith, h, i))))) ∙ r)
  where
    pick : (k : ℕ) (b : Bool) → eqb e.0 k ≡ b → or_default (cond b (some e.1) (mode_effect_on es k)) (natural_at l k) ≡ or_default (mode_effect_on es k) (cond b e.1 (natural_at l k))
    pick k true q = sym (ap (λ (r : Option ℕ). or_default r e.1) (ap (mode_effect_on es) (sym (eqb→eq e.0 k (subst T (sym q) tt))) ∙ o))
    pick k false q = refl

put-store : (ps : List (ℕ × ℤ)) (l : List ℤ) → All (λ (p : ℕ × ℤ). p.0 < length l) ps
    → (length (set_all ps l) ≡ length l) × (store ps (integer_at l) ≡ integer_at (set_all ps l))
put-store [] l h = (refl, refl)
put-store (p ∷ ps) l (h, hs) =
    let (e, r) = put-store ps (set l p.0 p.1) (subst (λ (k : ℕ). All (λ (p : ℕ × ℤ). p.0 < k) ps) (sym (length-set l p.0 p.1)) hs) in
    (e ∙ length-set l p.0 p.1, ap (store ps) (fun_ext (λ j. sym (get_set l p.0 j p.1 (pos 0) h))) ∙ r)

targets-in : (n k : ℕ) → k ≡ n → (es : List Effect) (v : ℕ → ℤ) → All (EffectIn n) es → All (λ (p : ℕ × ℤ). p.0 < k) (results es v)
targets-in n k q [] v h = tt
targets-in n k q (e ∷ es) v (h, hs) = (subst (λ (c : ℕ). target e < c) (sym q) (target-in n 0 e h), targets-in n k q es v hs)

pub num-lift : (n : ℕ) (cs : List (NumericCondition ℕ)) → numbered_conditions n (on_source_variables cs) ≡ cs
num-lift n [] = refl
num-lift n (c ∷ cs) = λ i. record { measured = lhs c.measured i; relation = c.relation; constant = c.constant } ∷ num-lift n cs i
  where
    sums : (ts : List (ℕ × ℤ)) → numbered_additions n (on_source_terms ts) ≡ ts
    sums [] = refl
    sums (t ∷ ts) = ap (λ (r : List (ℕ × ℤ)). t ∷ r) (sums ts)

    lhs : (l : Measured ℕ) → numbered_measure n (on_source l) ≡ l
    lhs (variable i) = refl
    lhs (weighted_sum ts) = ap weighted_sum (sums ts)

module _ (n holds m : ℕ) (lo hi : ℕ → ℤ) where
  pub goal-conds : (cs : List (NumericCondition ℕ)) → All (λ (c : NumericCondition ℕ). MeasureIn (λ (i : ℕ). i < n) c.measured) cs
      → (l : List ℤ) (f : Name → ℤ) → ValuesLaid n holds l f → conditions_hold cs (integer_at l) ≡ conditions_hold (on_source_variables cs) f
  goal-conds cs i l f L = ap (λ (u : List (NumericCondition ℕ)). conditions_hold u (integer_at l)) (sym (num-lift n cs))
      ∙ values-laid-conditions n holds (on_source_variables cs) l f (lift-in n holds cs i) L

  actions-agree : (a : SourceAction) → ActionIn n holds m a → (X : State) → length X.values ≡ n → length X.modes ≡ m
      → Agree (SourceAgrees n m) (try_source lo hi X a) (try_named_source lo hi (by_name X) a)
  actions-agree a i X h k = agree-given (SourceAgrees n m) tst tst
      (record { values = set_all (results a.effects (integer_at X.values)) X.values; modes = set_all a.mode_effects X.modes })
      (after_action a (by_name X)) refl
      (λ t. (
        (put-store (results a.effects (integer_at X.values)) X.values tin).0 ∙ h,
        (modes-all a.mode_effects m X.modes k i.mode_effects_in i.mode_effects_once).0,
        λ j. record {
          value = (put-store (results a.effects (integer_at X.values)) X.values tin).1 j;
          mode = (modes-all a.mode_effects m X.modes k i.mode_effects_in i.mode_effects_once).1 j;
        },
      ))
    where
      tst : Bool
      tst = ((conditions_met a (by_name X)) && (within_bounds lo hi (results a.effects (integer_at X.values))))

      tin : All (λ (p : ℕ × ℤ). p.0 < length X.values) (results a.effects (integer_at X.values))
      tin = targets-in n (length X.values) h a.effects (integer_at X.values) i.effects_in

  pub source-steps-agree : (acts : List SourceAction) → All (ActionIn n holds m) acts → (X : State) (s : NamedSource) (k : ℕ) → SourceAgrees n m X s
      → Agree (SourceAgrees n m) (source_step_of lo hi acts X k) (step_named_source lo hi acts s k)
  source-steps-agree [] i X s k h = tt
  source-steps-agree (a ∷ acts) (i, is) X s zero h = subst (λ (u : NamedSource). Agree (SourceAgrees n m) (try_source lo hi X a) (try_named_source lo hi u a)) (sym h.2) (actions-agree a i X h.0 h.1)
  source-steps-agree (a ∷ acts) (i, is) X s (suc k) h = source-steps-agree acts is X s k h

  -- a restricted state over lists that stands for a source state at rest
  at_rest_lem : (Y X : State) → length X.values ≡ n → length X.modes ≡ m → RestrictedAgrees n holds m Y (at_rest (by_name X)) → Y ≡ helpers_at_rest holds X
  at_rest_lem Y X h k (L, M) = λ i. record { values = (L.is ∙ vs) i; modes = (M.is ∙ ms) i }
    where
      v-is : L.V₀ ≡ X.values
      v-is = list_ext L.V₀ X.values (pos 0) (L.lengths ∙ sym h) (λ j. ap (λ (f : Name → ℤ). f (source j)) (sym L.reads))

      h-is : L.H ≡ replicate holds (pos 0)
      h-is = list_ext L.H (replicate holds (pos 0)) (pos 0) (L.holds_length ∙ sym (length-replicate holds (pos 0)))
          (λ j. ap (λ (f : Name → ℤ). f (hold j)) (sym L.reads) ∙ sym (replicated holds j))

      vs : L.V₀ ++ (L.a ∷ L.b ∷ L.H) ≡ X.values ++ resting_helpers holds
      vs = λ i. v-is i ++ (ap (λ (f : Name → ℤ). f helper_a) (sym L.reads) i ∷ ap (λ (f : Name → ℤ). f helper_b) (sym L.reads) i ∷ h-is i)

      ms : M.M₀ ++ (0 ∷ []) ≡ X.modes ++ (0 ∷ [])
      ms = ap (λ (u : List ℕ). u ++ (0 ∷ [])) (list_ext M.M₀ X.modes 0 (M.lengths ∙ sym k) (λ j. ap (λ (f : ℕ → ℕ). f j) (sym M.reads)))

  pub rest-agrees : (X : State) → length X.values ≡ n → length X.modes ≡ m → RestrictedAgrees n holds m (helpers_at_rest holds X) (at_rest (by_name X))
  rest-agrees X h k = (
    record {
      V₀ = X.values;
      a = pos 0;
      b = pos 0;
      H = replicate holds (pos 0);
      lengths = h;
      holds_length = length-replicate holds (pos 0);
      is = refl;
      reads = ap (named_values (integer_at X.values) (pos 0) (pos 0)) (fun_ext (λ j. sym (replicated holds j)));
    },
    record { M₀ = X.modes; lengths = k; is = refl; reads = refl },
  )

  module _ (acts : List SourceAction) (acts-in : All (ActionIn n holds m) acts) where
    expansions-agree : (p : List ℕ) (X : State) (s : NamedSource) → SourceAgrees n m X s
        → expand_from (source_step_of lo hi acts) (opening lo hi acts) (stage_steps_from lo hi acts) p X ≡ expand_from (step_named_source lo hi acts) (opening lo hi acts) (stage_steps lo hi acts) p s
    expansions-agree [] X s h = refl
    expansions-agree (k ∷ p) X s h = λ i. opening lo hi acts k ∷ (stage_steps lo hi acts (sym h.2 i) k ++ rest (source_step_of lo hi acts X k) (step_named_source lo hi acts s k) (source-steps-agree acts acts-in X s k h) (expansions-agree p) i)
      where
        rest : (o : Option State) (o' : Option NamedSource) → Agree (SourceAgrees n m) o o'
            → ((X : State) (s : NamedSource) → SourceAgrees n m X s → expand_from (source_step_of lo hi acts) (opening lo hi acts) (stage_steps_from lo hi acts) p X ≡ expand_from (step_named_source lo hi acts) (opening lo hi acts) (stage_steps lo hi acts) p s)
            → or_empty o (expand_from (source_step_of lo hi acts) (opening lo hi acts) (stage_steps_from lo hi acts) p) ≡ or_empty o' (expand_from (step_named_source lo hi acts) (opening lo hi acts) (stage_steps lo hi acts) p)
        rest none none a ih = refl
        rest none (some y) a ih = absurd a
        rest (some x) none a ih = absurd a
        rest (some x) (some y) a ih = ih x y a

    prices-agree : (p : List ℕ) (X : State) (s : NamedSource) → SourceAgrees n m X s → total_price (source_step_of lo hi acts) (price_from acts) p X ≡ total_price (step_named_source lo hi acts) (price_at acts) p s
    prices-agree [] X s h = refl
    prices-agree (k ∷ p) X s h = ap₂ (λ (x y : ℕ). x + y) (ap (λ (u : NamedSource). price_at acts u k) (sym h.2))
        (rest (source_step_of lo hi acts X k) (step_named_source lo hi acts s k) (source-steps-agree acts acts-in X s k h) (prices-agree p))
      where
        rest : (o : Option State) (o' : Option NamedSource) → Agree (SourceAgrees n m) o o'
            → ((X : State) (s : NamedSource) → SourceAgrees n m X s → total_price (source_step_of lo hi acts) (price_from acts) p X ≡ total_price (step_named_source lo hi acts) (price_at acts) p s)
            → or_zero o (total_price (source_step_of lo hi acts) (price_from acts) p) ≡ or_zero o' (total_price (step_named_source lo hi acts) (price_at acts) p)
        rest none none a ih = refl
        rest none (some y) a ih = absurd a
        rest (some x) none a ih = absurd a
        rest (some x) (some y) a ih = ih x y a

    abbrev R : List NamedAction
    R = lower_actions lo hi 1 acts

    all_once : All (λ (a : SourceAction). Distinct (targets a.effects)) acts
    all_once = all_map (ActionIn n holds m) (λ (a : SourceAction). Distinct (targets a.effects)) (λ a i. i.targets_once) acts acts-in

    restricted-agrees : (q : List ℕ) (X : State) → length X.values ≡ n → length X.modes ≡ m
        → Agree (RestrictedAgrees n holds m) (run_plan (restricted_step_of (lowered_actions n m lo hi acts)) q (helpers_at_rest holds X))
        (run_plan (step_named R) q (at_rest (by_name X)))
    restricted-agrees q X h k = agree-run (RestrictedAgrees n holds m) (restricted_step_of (lowered_actions n m lo hi acts)) (step_named R)
        (λ Y y j. restricted-steps-agree n holds m R (lower_in_lem n holds m lo hi acts 1 acts-in) Y y j) q (helpers_at_rest holds X) (at_rest (by_name X))
        (rest-agrees X h k)

    source-agrees : (p : List ℕ) (X : State) → length X.values ≡ n → length X.modes ≡ m → Agree (SourceAgrees n m) (run_plan (source_step_of lo hi acts) p X) (run_plan (step_named_source lo hi acts) p (by_name X))
    source-agrees p X h k = agree-run (SourceAgrees n m) (source_step_of lo hi acts) (step_named_source lo hi acts) (λ Y y j. source-steps-agree acts acts-in Y y j) p X (by_name X) (h, k, refl)

    pub numbered-plans-pair-off : (gp : List (ℕ × ℕ)) (gc : List (NumericCondition ℕ)) → All (λ (p : ℕ × ℕ). p.0 < m) gp → All (λ (c : NumericCondition ℕ). MeasureIn (λ (i : ℕ). i < n) c.measured) gc
        → (X₀ : State) → length X₀.values ≡ n → length X₀.modes ≡ m → Good lo hi (by_name X₀)
        → Pairing (source_step_of lo hi acts) (restricted_step_of (lowered_actions n m lo hi acts)) (helpers_at_rest holds) (opening lo hi acts)
        (source_number lo hi acts) (stage_steps_from lo hi acts) (price_from acts)
        X₀ (SourceGoal gp gc) (LoweredGoal m gp gc) 1_000_000
    numbered-plans-pair-off gp gc gp_in gc_in X₀ h k g = record {
      forth = λ p X' r goal l.
          let (s', r', sim) = agree_left (SourceAgrees n m) (run_plan (source_step_of lo hi acts) p X₀) (run_plan (step_named_source lo hi acts) p (by_name X₀)) X' (source-agrees p X₀ h k) r in
          to p X' s' r' sim goal l;
      lengths = λ p X' r.
          let (s', r', sim) = agree_left (SourceAgrees n m) (run_plan (source_step_of lo hi acts) p X₀) (run_plan (step_named_source lo hi acts) p (by_name X₀)) X' (source-agrees p X₀ h k) r in
          ap length (ex-is p) ∙ P.lengths p s' r' ∙ sym (prices-agree p X₀ (by_name X₀) (h, k, refl));
      back = λ q Y r goal l.
          let (y, r', sim) = agree_left (RestrictedAgrees n holds m) (run_plan (restricted_step_of (lowered_actions n m lo hi acts)) q (helpers_at_rest holds X₀))
          (run_plan (step_named R) q (at_rest (by_name X₀))) Y (restricted-agrees q X₀ h k) r in
          fro q Y y r' sim goal l;
    }
      where
        P : Pairing (step_named_source lo hi acts) (step_named R) at_rest (opening lo hi acts) (source_number lo hi acts) (stage_steps lo hi acts) (price_at acts)
            (by_name X₀) (GoalS lo hi acts all_once gp gc) (GoalR lo hi acts all_once gp gc) 1_000_000
        P = named-plans-pair-off lo hi acts all_once gp gc (by_name X₀) g

        ex : List ℕ → List ℕ
        ex p = expand_from (source_step_of lo hi acts) (opening lo hi acts) (stage_steps_from lo hi acts) p X₀

        ex-is : (p : List ℕ) → ex p ≡ expand_from (step_named_source lo hi acts) (opening lo hi acts) (stage_steps lo hi acts) p (by_name X₀)
        ex-is p = expansions-agree p X₀ (by_name X₀) (h, k, refl)

        goal-in : (Y : State) (y : NamedState) → RestrictedAgrees n holds m Y y → LoweredGoal m gp gc Y → GoalR lo hi acts all_once gp gc y
        goal-in Y y (L, M) (a, b) =
            let (a₁, a₂) = and_parts (modes_hold gp y.mode) (eqb y.control 0) (subst T (modes-laid-hold m gp Y.modes y.mode y.control 0 gp_in M) a) in
            (a₁, subst T (goal-conds gc gc_in Y.values y.value L) b, eqb→eq y.control 0 a₂)

        goal-out : (Y : State) (y : NamedState) → RestrictedAgrees n holds m Y y → GoalR lo hi acts all_once gp gc y → LoweredGoal m gp gc Y
        goal-out Y y (L, M) (a, b, c) = (
          subst T (sym (modes-laid-hold m gp Y.modes y.mode y.control 0 gp_in M)) (and_intro (modes_hold gp y.mode) (eqb y.control 0) a (subst (λ (u : ℕ). T (eqb u 0)) (sym c) tt)),
          subst T (sym (goal-conds gc gc_in Y.values y.value L)) b,
        )

        arrive : (q : List ℕ) (X' : State) → length X'.values ≡ n → length X'.modes ≡ m
            → run_plan (step_named R) q (at_rest (by_name X₀)) ≡ some (at_rest (by_name X'))
            → run_plan (restricted_step_of (lowered_actions n m lo hi acts)) q (helpers_at_rest holds X₀) ≡ some (helpers_at_rest holds X')
        arrive q X' hv hm r =
            let (Y, r', sim) = agree_right (RestrictedAgrees n holds m) (run_plan (restricted_step_of (lowered_actions n m lo hi acts)) q (helpers_at_rest holds X₀))
            (run_plan (step_named R) q (at_rest (by_name X₀))) (at_rest (by_name X')) (restricted-agrees q X₀ h k) r in
            r' ∙ ap {B = Option State} some (at_rest_lem Y X' hv hm sim)

        to : (p : List ℕ) (X' : State) (s' : NamedSource) → run_plan (step_named_source lo hi acts) p (by_name X₀) ≡ some s' → SourceAgrees n m X' s' → SourceGoal gp gc X' → length (ex p) ≤ 1_000_000
            → (run_plan (restricted_step_of (lowered_actions n m lo hi acts)) (ex p) (helpers_at_rest holds X₀) ≡ some (helpers_at_rest holds X'))
            × LoweredGoal m gp gc (helpers_at_rest holds X') × (keep (source_number lo hi acts) (ex p) ≡ p)
            × (length (ex p) ≡ total_price (source_step_of lo hi acts) (price_from acts) p X₀)
        to p X' s' r (hv, hm, e) goal l =
            let (rr, gr, kp, ln) = P.forth p (by_name X') (subst (λ (u : NamedSource). run_plan (step_named_source lo hi acts) p (by_name X₀) ≡ some u) e r) goal (subst (λ (u : List ℕ). length u ≤ 1_000_000) (ex-is p) l) in (
              ap (λ (u : List ℕ). run_plan (restricted_step_of (lowered_actions n m lo hi acts)) u (helpers_at_rest holds X₀)) (ex-is p)
                  ∙ arrive (expand_from (step_named_source lo hi acts) (opening lo hi acts) (stage_steps lo hi acts) p (by_name X₀)) X' hv hm rr,
              goal-out (helpers_at_rest holds X') (at_rest (by_name X')) (rest-agrees X' hv hm) gr,
              ap (keep (source_number lo hi acts)) (ex-is p) ∙ kp,
              ap length (ex-is p) ∙ ln ∙ sym (prices-agree p X₀ (by_name X₀) (h, k, refl)),
            )

        fro : (q : List ℕ) (Y : State) (y : NamedState) → run_plan (step_named R) q (at_rest (by_name X₀)) ≡ some y → RestrictedAgrees n holds m Y y
            → LoweredGoal m gp gc Y → length q ≤ 1_000_000
            → (X' : State) × (run_plan (source_step_of lo hi acts) (keep (source_number lo hi acts) q) X₀ ≡ some X') × SourceGoal gp gc X'
            × (Y ≡ helpers_at_rest holds X') × (ex (keep (source_number lo hi acts) q) ≡ q) × (length (ex (keep (source_number lo hi acts) q)) ≤ 1_000_000)
        fro q Y y r sim goal l =
            let (s', rs, gs, ys, exq, ln) = P.back q y r (goal-in Y y sim goal) l in
            let (X', rx, hv, hm, e) = flat (agree_right (SourceAgrees n m) (run_plan (source_step_of lo hi acts) (keep (source_number lo hi acts) q) X₀) (run_plan (step_named_source lo hi acts) (keep (source_number lo hi acts) q) (by_name X₀)) s' (source-agrees (keep (source_number lo hi acts) q) X₀ h k) rs) in (
              X',
              rx,
              subst (GoalS lo hi acts all_once gp gc) e gs,
              at_rest_lem Y X' hv hm (subst (RestrictedAgrees n holds m Y) (ys ∙ ap at_rest e) sim),
              ex-is (keep (source_number lo hi acts) q) ∙ exq,
              subst (λ (u : List ℕ). length u ≤ 1_000_000) (sym (ex-is (keep (source_number lo hi acts) q))) ln,
            )
          where
            flat : {Q : State → Type 0} {s : NamedSource} → (X : State) × Q X × SourceAgrees n m X s → (X : State) × Q X × (length X.values ≡ n) × (length X.modes ≡ m) × (s ≡ by_name X)
            flat (X, q, (hv, hm, e)) = (X, q, hv, hm, e)
