-- The strokes of an action's effects are those of the walk through its stages: each stage is gone through as often as the unit goes into its
-- counter, and what the stages make of the values is known stage by stage. So the walk and the prices of its fronts are read off the strokes.
-- Assumes nothing.
use mathlib.Core.Path.{◌≡◌, refl, sym, ap, ap₂, ◌∙◌, subst}
use Prim.Native.Nat.{ℕ, zero, suc, ◌+◌}
use native.Mathlib.Omega.{arith}
use mathlib.Core.Bool.{Bool, false, cond}
use mathlib.Core.Option.{some}
use mathlib.Core.List.{List, [], ◌∷◌, ◌++◌, append_assoc, append-nil}
use lib.Dec.{eqb}
use lib.ListN.{length, take, get_elem?, length-append, length-replicate}
use lib.IntN.{ℤ, pos, negsuc, nat_abs, ◌+ℤ◌, ◌*ℤ◌}
use Rattle.integers.specs.All.{All}
use Rattle.integers.specs.Division.{unit_less, floor, quotient_of, residue_of}
use Rattle.integers.proofs.Parts.{ints, sum-parts, mul-up, mul-down}
use Rattle.model.specs.Limits.{source_limits}
use Rattle.model.specs.Tasks.{Effect, add_effect, linear_effect, quotient_effect, residue_effect, SourceAction, SourceTask}
use Rattle.model.specs.TaskOk.{SourceActionOk, SourceTaskOk}
use Rattle.model.specs.InTask.{Distinct, targets}
use Rattle.model.specs.Steps.{integer_at, linear, target, result, results, sizes_of}
use Rattle.model.specs.Stages.{Name, helper_a, helper_b, StageKind, by_one, by_unit, Stage, turn_place, drain, refill, divide, empty, clear, move}
use Rattle.model.specs.Stages.{drain_terms, move_to_hold, result_stages, result_in, next_additions, hold_stages, unload_stages, opening_additions, stages_of}
use Rattle.model.specs.Expansion.{plus, units_in, after_stage, named_values, all_zero, resting_values, strokes, stage_walk, opened_values}
use Rattle.model.specs.NamedSystems.{updated, stages_price}
use Rattle.model.proofs.StageWalk.{all-get}
use Rattle.model.proofs.StageValues.{flip, updated-itself, drained, refilled, divided, emptied_a, emptied_b, cleared, holding, held_a, held_b, added_to_a, w0}
use Rattle.model.proofs.StageValues.{ready, entered-with}
use Rattle.model.proofs.EffectValues.{holds-zero-past, filled, held-there, result_values, next_w0, next-entered, move_out, moved_out}
use Rattle.plan_strokes.specs.Strokes.{term_strokes, result_strokes, held_strokes, set_strokes, single_strokes, strokes_of, macro_steps, all_strokes}

-- how many steps so many strokes and their turns are
abbrev pub steps_of : List ℤ → ℕ
steps_of zs = all_strokes zs + length zs

strokes-length : (b : ℕ) (z : ℤ) → length (strokes b z) ≡ nat_abs z
strokes-length b (pos k) = length-replicate k b
strokes-length b (negsuc k) = length-replicate (suc k) (suc b)

pub steps-length : (b : ℕ) (zs : List ℤ) → length (macro_steps b zs) ≡ steps_of zs
unfolding macro_steps
steps-length b [] = refl
steps-length b (z ∷ zs) = length-append (strokes b z) ((b + 2) ∷ macro_steps (b + 3) zs) ∙ omega (arith, strokes-length b z, steps-length (b + 3) zs)

pub steps-of-both : (xs ys : List ℤ) → steps_of (xs ++ ys) ≡ steps_of xs + steps_of ys
steps-of-both [] ys = omega arith
steps-of-both (x ∷ xs) ys = omega (arith, steps-of-both xs ys)

-- ---- the walk through stages, from the values v, as strokes: its steps, how many stages there are, and what the first of them cost
record Walks (ds : List Stage) (v : Name → ℤ) (zs : List ℤ) : Type 0 where
  steps : (b : ℕ) → stage_walk b ds v ≡ macro_steps b zs
  many : length ds ≡ length zs
  fronts : (j : ℕ) → stages_price (take j ds) v ≡ steps_of (take j zs)

turn_last : (k : StageKind) → turn_place k ≡ 2
turn_last by_one = refl
turn_last (by_unit u) = refl

ends : (v : Name → ℤ) → Walks [] v []
unfolding macro_steps
ends v = record { steps = λ b. refl; many = refl; fronts = none }
  where
    none : (j : ℕ) → stages_price (take j []) v ≡ steps_of (take j [])
    none zero = refl
    none (suc j) = refl

goes : (d : Stage) {ds : List Stage} {v v₁ : Name → ℤ} {z : ℤ} {zs : List ℤ} → units_in d.kind (v d.counter) ≡ z → after_stage d v ≡ v₁
    → Walks ds v₁ zs → Walks (d ∷ ds) v (z ∷ zs)
unfolding macro_steps
goes d {ds} {v} {v₁} {z} {zs} e h w = record { steps = walked; many = ap suc w.many; fronts = priced }
  where
    walked : (b : ℕ) → stage_walk b (d ∷ ds) v ≡ macro_steps b (z ∷ zs)
    walked b =
        let k : b + turn_place d.kind ≡ b + 2 = ap (λ (n : ℕ). b + n) (turn_last d.kind) in
        let l : suc (b + turn_place d.kind) ≡ b + 3 = omega (arith, k) in
        ap₂ (λ (x : ℤ) (xs : List ℕ). strokes b x ++ xs) e
        (ap₂ (λ (n : ℕ) (xs : List ℕ). n ∷ xs) k (ap₂ (λ (n : ℕ) (u : Name → ℤ). stage_walk n ds u) l h ∙ w.steps (b + 3)))

    priced : (j : ℕ) → stages_price (take j (d ∷ ds)) v ≡ steps_of (take j (z ∷ zs))
    priced zero = refl
    priced (suc j) = omega (arith, ap nat_abs e, ap (stages_price (take j ds)) h, w.fronts j)

onto : (z : ℤ) → pos 0 +ℤ z *ℤ pos 1 ≡ z
onto z = omega (ints, sum-parts (pos 0) (z *ℤ pos 1), mul-up z (pos 1), mul-down z (pos 1))

-- ---- an effect's stages before Clear, the holds having the values h
module _ (h : ℕ → ℤ) {ds : List Stage} {zs : List ℤ} where
  drain-refill : (t : ℕ) (w : ℤ) (v : ℕ → ℤ) (a : ℤ) → Walks ds (named_values v (a +ℤ v t *ℤ w) (pos 0) h) zs
      → Walks (drain t w ∷ refill t ∷ ds) (named_values v a (pos 0) h) (v t ∷ v t ∷ zs)
  drain-refill t w v a g =
      goes (drain t w) refl (drained h t w v a)
      (goes (refill t) refl (refilled h t v (a +ℤ v t *ℤ w) (v t) ∙ ap (λ (f : ℕ → ℤ). named_values f (a +ℤ v t *ℤ w) (pos 0) h) (updated-itself t v)) g)

  dividing : (y : ℕ) (c : ℤ) (v : ℕ → ℤ) → Walks ds (named_values v (residue_of (v y) c) (quotient_of (v y) c) h) zs
      → Walks (drain y (pos 1) ∷ refill y ∷ divide c ∷ ds) (holding v h) (v y ∷ v y ∷ floor (v y) (unit_less c) ∷ zs)
  dividing y c v g =
      goes (drain y (pos 1)) refl (drained h y (pos 1) v (pos 0))
      (goes (refill y) refl
      (refilled h y v (pos 0 +ℤ v y *ℤ pos 1) (v y) ∙ ap₂ (λ (f : ℕ → ℤ) (z : ℤ). named_values f z (pos 0) h) (updated-itself y v) (onto (v y)))
      (goes (divide c) refl (divided h c v (v y)) g))

all-terms : (h : ℕ → ℤ) (ts : List (ℕ × ℤ)) (v : ℕ → ℤ) (a : ℤ) {ds : List Stage} {zs : List ℤ} → Walks ds (named_values v (linear a ts v) (pos 0) h) zs
    → Walks (drain_terms ts ds) (named_values v a (pos 0) h) (term_strokes ts v ++ zs)
unfolding term_strokes
all-terms h [] v a g = g
all-terms h (t ∷ ts) v a g = drain-refill h t.0 t.1 v a (all-terms h ts v (a +ℤ v t.0 *ℤ t.1) g)

works : (e : Effect) (v h : ℕ → ℤ) {ds : List Stage} {zs : List ℤ} → Walks ds (ready e v h) zs
    → Walks (result_stages e ds) (named_values v (w0 e) (pos 0) h) (result_strokes e v ++ zs)
unfolding result_strokes
works (add_effect t c) v h {ds} {zs} g = drain-refill h t (pos 1) v c (subst (λ (z : ℤ). Walks ds (named_values v z (pos 0) h) zs)
    (omega (ints, sum-parts (v t) c, sum-parts c (v t *ℤ pos 1), mul-up (v t) (pos 1), mul-down (v t) (pos 1))) g)
works (linear_effect t w ts) v h g = all-terms h ts v w g
works (quotient_effect t y c) v h g = dividing h y c v (goes (empty helper_a) refl (emptied_a h v (residue_of (v y) c) (quotient_of (v y) c)) g)
works (residue_effect t y c) v h g = dividing h y c v (goes (empty helper_b) refl (emptied_b h v (residue_of (v y) c) (quotient_of (v y) c)) g)

-- ---- several effects, through the holds
module _ (v : ℕ → ℤ) where
  -- the next hold filled, the next effect's stages entered
  into-hold : (e : Effect) (es : List Effect) (rs : List ℤ) {ds : List Stage} {zs : List ℤ}
      → Walks ds (named_values v (next_w0 es) (pos 0) (integer_at (rs ++ (result e v ∷ [])))) zs
      → Walks (move_to_hold (length rs) (result_in e) (next_additions es) ∷ ds) (ready e v (integer_at rs)) (result e v ∷ zs)
  into-hold e es rs {ds} {zs} g = go e g
    where
      onward : (z : ℤ) → plus (next_additions es) (holding v (updated (length rs) z (integer_at rs)))
          ≡ named_values v (next_w0 es) (pos 0) (integer_at (rs ++ (z ∷ [])))
      onward z = ap (λ (h : ℕ → ℤ). plus (next_additions es) (holding v h)) (filled rs z) ∙ next-entered es v (integer_at (rs ++ (z ∷ [])))

      from_a : (z : ℤ) → Walks ds (named_values v (next_w0 es) (pos 0) (integer_at (rs ++ (z ∷ [])))) zs
          → Walks (move_to_hold (length rs) helper_a (next_additions es) ∷ ds) (named_values v z (pos 0) (integer_at rs)) (z ∷ zs)
      from_a z g = goes (move_to_hold (length rs) helper_a (next_additions es)) refl
          (ap (plus (next_additions es)) (held_a (integer_at rs) (length rs) (next_additions es) v z (holds-zero-past rs)) ∙ onward z) g

      from_b : (z : ℤ) → Walks ds (named_values v (next_w0 es) (pos 0) (integer_at (rs ++ (z ∷ [])))) zs
          → Walks (move_to_hold (length rs) helper_b (next_additions es) ∷ ds) (named_values v (pos 0) z (integer_at rs)) (z ∷ zs)
      from_b z g = goes (move_to_hold (length rs) helper_b (next_additions es)) refl
          (ap (plus (next_additions es)) (held_b (integer_at rs) (length rs) (next_additions es) v z (holds-zero-past rs)) ∙ onward z) g

      go : (e : Effect) → Walks ds (named_values v (next_w0 es) (pos 0) (integer_at (rs ++ (result e v ∷ [])))) zs
          → Walks (move_to_hold (length rs) (result_in e) (next_additions es) ∷ ds) (ready e v (integer_at rs)) (result e v ∷ zs)
      go (add_effect t c) g = from_a (result (add_effect t c) v) g
      go (linear_effect t w ts) g = from_a (result (linear_effect t w ts) v) g
      go (quotient_effect t y c) g = from_b (result (quotient_effect t y c) v) g
      go (residue_effect t y c) g = from_a (result (residue_effect t y c) v) g

  all_held : (es : List Effect) (j : ℕ) (rs : List ℤ) → length rs ≡ j → {ds : List Stage} {zs : List ℤ}
      → Walks ds (holding v (integer_at (rs ++ result_values es v))) zs
      → Walks (hold_stages j es ds) (named_values v (next_w0 es) (pos 0) (integer_at rs)) (held_strokes es v ++ zs)
  unfolding held_strokes
  all_held [] j rs l {ds} {zs} g = subst (λ (u : List ℤ). Walks ds (holding v (integer_at u)) zs) (append-nil rs) g
  all_held (e ∷ es) j rs l {ds} {zs} g =
      subst (Walks (hold_stages j (e ∷ es) ds) (named_values v (w0 e) (pos 0) (integer_at rs)))
      (sym (append_assoc (result_strokes e v) (result e v ∷ held_strokes es v) zs))
      (works e v (integer_at rs)
      (subst (λ (i : ℕ). Walks (move_to_hold i (result_in e) (next_additions es) ∷ hold_stages (suc j) es ds) (ready e v (integer_at rs))
      (result e v ∷ (held_strokes es v ++ zs))) l
      (into-hold e es rs
      (all_held es (suc j) (rs ++ (result e v ∷ [])) (length-append rs (result e v ∷ []) ∙ omega arith)
      (subst (λ (u : List ℤ). Walks ds (holding v (integer_at u)) zs) (sym (append_assoc rs (result e v ∷ []) (result_values es v))) g)))))

module _ (lower upper : ℕ → ℤ) where
  -- Clear and Move of a single effect, whose result stands in A or in B
  clear-move : (e : Effect) (from : Name) (v : ℕ → ℤ) (a b : ℤ) → ((u : ℕ → ℤ) → named_values u a b all_zero from ≡ result e v)
      → Walks (clear (target e) ∷ move (target e) from (lower (target e)) (upper (target e)) ∷ []) (named_values v a b all_zero)
      (set_strokes (results (e ∷ []) v) v)
  unfolding set_strokes
  clear-move e from v a b q = goes (clear (target e)) refl (cleared all_zero (target e) v a b)
      (goes (move (target e) from (lower (target e)) (upper (target e))) (q (updated (target e) (pos 0) v)) refl (ends _))

  module _ (v : ℕ → ℤ) where
    -- Unloading from hold j on: `held` are the holds' values, u the source's
    abbrev Unloads : ℕ → List Effect → (ℕ → ℤ) → List ℤ → Type 0
    Unloads j es u held = Walks (unload_stages lower upper j es) (holding u (integer_at held)) (set_strokes (results es v) v)

    -- the targets still have their values from before
    all-unloaded : (es : List Effect) (j : ℕ) (u : ℕ → ℤ) (zs : List ℤ) → length zs ≡ j → Distinct (targets es) → All (λ (t : ℕ). u t ≡ v t) (targets es)
        → Unloads j es u (zs ++ result_values es v)
    unfolding set_strokes
    all-unloaded [] j u zs l a q = ends _
    all-unloaded (e ∷ es) j u zs l (a, as₁) (q, qs) =
        subst (λ (i : ℕ). Unloads i (e ∷ es) u (zs ++ (z ∷ result_values es v))) l
        (goes (clear t) q (cleared (integer_at (zs ++ (z ∷ result_values es v))) t u (pos 0) (pos 0))
        (goes (move_out v lower upper e zs) (held-there zs z (result_values es v)) (moved_out v lower upper e u zs (result_values es v))
        (subst (Unloads (suc (length zs)) es (updated t z u)) (append_assoc zs (pos 0 ∷ []) (result_values es v))
        (all-unloaded es (suc (length zs)) (updated t z u) (zs ++ (pos 0 ∷ [])) (length-append zs (pos 0 ∷ []) ∙ omega arith) as₁
        (still (targets es) a qs)))))
      where
        t : ℕ
        t = target e

        z : ℤ
        z = result e v

        still : (ks : List ℕ) → All (λ (j : ℕ). eqb j t ≡ false) ks → All (λ (k : ℕ). u k ≡ v k) ks → All (λ (k : ℕ). updated t z u k ≡ v k) ks
        still [] a h = tt
        still (k ∷ ks) (a, as₁) (h, hs) = (ap (λ (b : Bool). cond b z (u k)) (flip t k a) ∙ h, still ks as₁ hs)

  -- ---- the stages of all effects
  same-everywhere : (ks : List ℕ) (v : ℕ → ℤ) → All (λ (t : ℕ). v t ≡ v t) ks
  same-everywhere [] v = tt
  same-everywhere (k ∷ ks) v = (refl, same-everywhere ks v)

  effects-walk : (es : List Effect) (v : ℕ → ℤ) → Distinct (targets es)
      → Walks (stages_of lower upper es) (plus (opening_additions es) (resting_values v)) (strokes_of es v)
  unfolding strokes_of single_strokes
  effects-walk [] v d = ends _
  effects-walk (add_effect t c ∷ []) v d = ends _
  effects-walk (linear_effect t w ts ∷ []) v d =
      let e = linear_effect t w ts in
      subst (λ (f : Name → ℤ). Walks (stages_of lower upper (e ∷ [])) f (result_strokes e v ++ set_strokes (results (e ∷ []) v) v))
      (sym (added_to_a all_zero w v))
      (works e v all_zero (clear-move e helper_a v (linear w ts v) (pos 0) (λ u. refl)))
  effects-walk (quotient_effect t y c ∷ []) v d =
      let e = quotient_effect t y c in works e v all_zero (clear-move e helper_b v (pos 0) (quotient_of (v y) c) (λ u. refl))
  effects-walk (residue_effect t y c ∷ []) v d =
      let e = residue_effect t y c in works e v all_zero (clear-move e helper_a v (residue_of (v y) c) (pos 0) (λ u. refl))
  effects-walk (e ∷ f ∷ es) v d =
      subst (λ (g : Name → ℤ). Walks (stages_of lower upper (e ∷ f ∷ es)) g (held_strokes (e ∷ f ∷ es) v ++ set_strokes (results (e ∷ f ∷ es) v) v))
      (sym (entered-with e v all_zero))
      (all_held v (e ∷ f ∷ es) 0 [] refl (all-unloaded v (e ∷ f ∷ es) 0 v [] refl d (same-everywhere (targets (e ∷ f ∷ es)) v)))

  module _ (a : SourceAction) (v : ℕ → ℤ) (d : Distinct (targets a.effects)) where
    -- the steps behind an opening are those of the strokes
    pub walk_is_lem : (b : ℕ) → stage_walk b (stages_of lower upper a.effects) (opened_values a v) ≡ macro_steps b (strokes_of a.effects v)
    walk_is_lem b = (effects-walk a.effects v d).steps b

    -- and those of the first stages are those of the first strokes
    pub stages-many : length (stages_of lower upper a.effects) ≡ length (strokes_of a.effects v)
    stages-many = (effects-walk a.effects v d).many

    pub front-price : (j : ℕ) → stages_price (take j (stages_of lower upper a.effects)) (opened_values a v) ≡ steps_of (take j (strokes_of a.effects v))
    front-price j = (effects-walk a.effects v d).fronts j

-- ---- the targets of an action of a task that keeps to the rules
pub targets-once : {t : SourceTask} → SourceTaskOk t → (k : ℕ) (a : SourceAction) → get_elem? t.actions k ≡ some a → Distinct (targets a.effects)
targets-once {t} ok k a found =
    (all-get (SourceActionOk source_limits (length t.variables) (sizes_of t.modes)) t.actions k a ok.actions_ok found).targets_once
