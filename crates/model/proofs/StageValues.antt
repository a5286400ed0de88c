-- What a stage makes of the values, and what the stages of one effect do: its result in A or B before Clear, and Clear and Move behind them.
-- Assumes nothing.
use mathlib.Core.Path.{◌≡◌, refl, sym, ap, ap₂, ◌∙◌, subst, fun_ext}
use Prim.Native.Nat.{ℕ, zero, suc, ◌+◌, ◌*◌}
use native.Mathlib.Omega.{arith}
use mathlib.Core.Bool.{◌&&◌, Bool, true, false, cond}
use mathlib.Core.Option.{none, some}
use mathlib.Core.List.{List, [], ◌∷◌}
use lib.ListN.{length}
use lib.Dec.{T, eqb, eqb→eq, eqb_refl}
use borrow.Author.Tests.{eq-eqb, ne_eqb}
use lib.IntN.{ℤ, pos, negsuc, neg_ℤ, nat_abs, ◌+ℤ◌, ◌*ℤ◌, +ℤ_idl}
use lib.Signed.{le_z}
use Rattle.model.specs.Steps.{conditions_hold, linear, result}
use Rattle.model.specs.Stages.{Name, source, helper_a, helper_b, hold, Stage, drain, refill, divide, empty, clear, move, drain_terms}
use Rattle.model.specs.Stages.{move_to_hold, result_stages, add_to_a, entering_additions}
use Rattle.model.specs.Expansion.{plus, units_in, times_added, after_strokes, after_stage, named_values, magnitudes}
use Rattle.model.specs.Expansion.{price_of_result}
use Rattle.integers.specs.Division.{unit_less, sign, floor, quotient_of, residue_of}
use Rattle.model.specs.NamedSystems.{updated, passes, after_stages, stages_price}
use Rattle.model.specs.Tasks.{Effect, add_effect, linear_effect, quotient_effect, residue_effect}
use Rattle.model.proofs.StageWalk.{floor-left}
use Rattle.integers.proofs.Parts.{ints, sum-parts, mul-up, mul-down}

true_of : (b : Bool) → T b → b ≡ true
true_of true t = refl
true_of false t = absurd t

pub eqb_same : (t : ℕ) → eqb t t ≡ true
eqb_same t = true_of (eqb t t) (eqb_refl t)

-- two functions of a number agree if they do at t and away from it
pub by_place : (t : ℕ) (f g : Bool → ℕ → ℤ) → f true t ≡ g true t → ((j : ℕ) → f false j ≡ g false j) → (j : ℕ) → f (eqb t j) j ≡ g (eqb t j) j
by_place t f g h k j = go (eqb t j) refl
  where
    go : (b : Bool) → eqb t j ≡ b → f b j ≡ g b j
    go true e = subst (λ (i : ℕ). f true i ≡ g true i) (eqb→eq t j (subst T (sym e) tt)) h
    go false e = k j

-- a test of two numbers that fails does so the other way round
pub flip : (k j : ℕ) → eqb j k ≡ false → eqb k j ≡ false
flip k j e = ne_eqb k j (λ (h : k ≡ j). subst T (sym (eq-eqb j k (sym h)) ∙ e) tt)

pub updated-itself : (t : ℕ) (v : ℕ → ℤ) → updated t (v t) v ≡ v
updated-itself t v = fun_ext (by_place t (λ b j. cond b (v t) (v j)) (λ b j. v j) refl (λ j. refl))

pub values-equal : (v : ℕ → ℤ) (a b : ℤ) (h : ℕ → ℤ) (f : Name → ℤ) → ((j : ℕ) → f (source j) ≡ v j) → f helper_a ≡ a → f helper_b ≡ b
    → ((j : ℕ) → f (hold j) ≡ h j) → f ≡ named_values v a b h
values-equal v a b h f p q r e = fun_ext go
  where
    go : (w : Name) → f w ≡ named_values v a b h w
    go (source j) = p j
    go helper_a = q
    go helper_b = r
    go (hold j) = e j

-- the source's values and the holds', with A and B at 0
abbrev pub holding : (ℕ → ℤ) → (ℕ → ℤ) → Name → ℤ
holding v h = named_values v (pos 0) (pos 0) h

-- z − z, z + 0, 0 + z as the stages write them
away : (z : ℤ) → z +ℤ z *ℤ negsuc 0 ≡ pos 0
away z = omega (ints, sum-parts z (z *ℤ negsuc 0), mul-up z (negsuc 0), mul-down z (negsuc 0))

onto : (z : ℤ) → pos 0 +ℤ z *ℤ pos 1 ≡ z
onto z = omega (ints, sum-parts (pos 0) (z *ℤ pos 1), mul-up z (pos 1), mul-down z (pos 1))

-- a variable that is taken away whole, and one that was 0 and is filled
emptying : (t : ℕ) (v : ℕ → ℤ) (j : ℕ) → times_added (v t) (cond (eqb t j) (some (negsuc 0)) none) (v j) ≡ updated t (pos 0) v j
emptying t v = by_place t (λ c j. times_added (v t) (cond c (some (negsuc 0)) none) (v j)) (λ c j. cond c (pos 0) (v j)) (away (v t)) (λ j. refl)

landing : (t : ℕ) (v : ℕ → ℤ) (z : ℤ) (j : ℕ) → times_added z (cond (eqb t j) (some (pos 1)) none) (updated t (pos 0) v j) ≡ updated t z v j
landing t v z = by_place t (λ c j. times_added z (cond c (some (pos 1)) none) (cond c (pos 0) (v j))) (λ c j. cond c z (v j)) (onto z) (λ j. refl)

module _ (h : ℕ → ℤ) where
  pub drained : (t : ℕ) (w : ℤ) (v : ℕ → ℤ) (a : ℤ)
      → after_stage (drain t w) (named_values v a (pos 0) h) ≡ named_values (updated t (pos 0) v) (a +ℤ v t *ℤ w) (v t) h
  drained t w v a = values-equal (updated t (pos 0) v) (a +ℤ v t *ℤ w) (v t) h _ (emptying t v) refl (onto (v t)) (λ j. refl)

  pub refilled : (t : ℕ) (v : ℕ → ℤ) (a b : ℤ)
      → after_stage (refill t) (named_values (updated t (pos 0) v) a b h) ≡ named_values (updated t b v) a (pos 0) h
  refilled t v a b = values-equal (updated t b v) a (pos 0) h _ (landing t v b) refl (away b) (λ j. refl)

  pub cleared : (t : ℕ) (v : ℕ → ℤ) (a b : ℤ) → after_stage (clear t) (named_values v a b h) ≡ named_values (updated t (pos 0) v) a b h
  cleared t v a b = values-equal (updated t (pos 0) v) a b h _ (emptying t v) refl refl (λ j. refl)

  pub moved_a : (t : ℕ) (lo hi : ℤ) (v : ℕ → ℤ) (a b : ℤ)
      → after_stage (move t helper_a lo hi) (named_values (updated t (pos 0) v) a b h) ≡ named_values (updated t a v) (pos 0) b h
  moved_a t lo hi v a b = values-equal (updated t a v) (pos 0) b h _ (landing t v a) (away a) refl (λ j. refl)

  pub moved_b : (t : ℕ) (lo hi : ℤ) (v : ℕ → ℤ) (a b : ℤ)
      → after_stage (move t helper_b lo hi) (named_values (updated t (pos 0) v) a b h) ≡ named_values (updated t b v) a (pos 0) h
  moved_b t lo hi v a b = values-equal (updated t b v) a (pos 0) h _ (landing t v b) refl (away b) (λ j. refl)

  -- out of hold i
  pub unloaded : (t i : ℕ) (lo hi : ℤ) (v : ℕ → ℤ) (a b : ℤ)
      → after_stage (move t (hold i) lo hi) (named_values (updated t (pos 0) v) a b h) ≡ named_values (updated t (h i) v) a b (updated i (pos 0) h)
  unloaded t i lo hi v a b = values-equal (updated t (h i) v) a b (updated i (pos 0) h) _ (landing t v (h i)) refl refl (emptying i h)

  pub emptied_a : (v : ℕ → ℤ) (a b : ℤ) → after_stage (empty helper_a) (named_values v a b h) ≡ named_values v (pos 0) b h
  emptied_a v a b = values-equal v (pos 0) b h _ (λ j. refl) (away a) refl (λ j. refl)

  pub emptied_b : (v : ℕ → ℤ) (a b : ℤ) → after_stage (empty helper_b) (named_values v a b h) ≡ named_values v a (pos 0) h
  emptied_b v a b = values-equal v a (pos 0) h _ (λ j. refl) refl (away b) (λ j. refl)

  pub divided : (c : ℤ) (v : ℕ → ℤ) (y : ℤ) → after_stage (divide c) (named_values v y (pos 0) h) ≡ named_values v (residue_of y c) (quotient_of y c) h
  divided c v y =
      values-equal v (residue_of y c) (quotient_of y c) h _ (λ j. refl) (floor-left y (unit_less c)) (+ℤ_idl (quotient_of y c)) (λ j. refl)

  -- a result into hold i, which was 0
  held : (i : ℕ) (z : ℤ) → h i ≡ pos 0 → (j : ℕ) → times_added z (cond (eqb i j) (some (pos 1)) none) (h j) ≡ updated i z h j
  held i z p = by_place i (λ c j. times_added z (cond c (some (pos 1)) none) (h j)) (λ c j. cond c z (h j))
      (ap (λ (x : ℤ). x +ℤ z *ℤ pos 1) p ∙ onto z) (λ j. refl)

  pub held_a : (i : ℕ) (es : List (Name × ℤ)) (v : ℕ → ℤ) (a : ℤ) → h i ≡ pos 0
      → after_strokes (move_to_hold i helper_a es) (named_values v a (pos 0) h) ≡ holding v (updated i a h)
  held_a i es v a p = values-equal v (pos 0) (pos 0) (updated i a h) _ (λ j. refl) (away a) refl (held i a p)

  pub held_b : (i : ℕ) (es : List (Name × ℤ)) (v : ℕ → ℤ) (b : ℤ) → h i ≡ pos 0
      → after_strokes (move_to_hold i helper_b es) (named_values v (pos 0) b h) ≡ holding v (updated i b h)
  held_b i es v b p = values-equal v (pos 0) (pos 0) (updated i b h) _ (λ j. refl) refl (away b) (held i b p)

  -- w0 into A
  pub added_to_a : (w : ℤ) (v : ℕ → ℤ) → plus (add_to_a w) (holding v h) ≡ named_values v w (pos 0) h
  added_to_a (pos zero) v = refl
  added_to_a (pos (suc n)) v = values-equal v (pos (suc n)) (pos 0) h _ (λ j. refl) (+ℤ_idl (pos (suc n))) refl (λ j. refl)
  added_to_a (negsuc n) v = values-equal v (negsuc n) (pos 0) h _ (λ j. refl) (+ℤ_idl (negsuc n)) refl (λ j. refl)

-- ---- runs of stages: the values that they end in, whether their turns' tests pass, what they cost
pub record Gives (ds : List Stage) (v v' : Name → ℤ) (ok : Bool) (n : ℕ) : Type 0 where
  pub ending : after_stages ds v ≡ v'
  pub passing : passes ds v ≡ ok
  pub costing : stages_price ds v ≡ n

pub stop : (v : Name → ℤ) → Gives [] v v true 0
stop v = record { ending = refl; passing = refl; costing = refl }

pub then : (d : Stage) {ds : List Stage} {v v₁ v' : Name → ℤ} {b ok : Bool} {n k : ℕ} → after_stage d v ≡ v₁ → conditions_hold d.turn_conditions (after_strokes d v) ≡ b
    → nat_abs (units_in d.kind (v d.counter)) ≡ n → Gives ds v₁ v' ok k → Gives (d ∷ ds) v v' ((b && ok)) (suc n + k)
then d {ds} {v} {v₁} {v'} {b} {ok} {n} {k} e c h g = record {
  ending = ap (after_stages ds) e ∙ g.ending;
  passing = ap₂ ◌&&◌ c (ap (passes ds) e ∙ g.passing);
  costing = ap₂ (λ (x y : ℕ). suc x + y) h (ap (stages_price ds) e ∙ g.costing);
}

-- the same with the cost summed up otherwise
pub gives : {ds : List Stage} {v v' : Name → ℤ} {b ok : Bool} {n k : ℕ} → b ≡ ok → n ≡ k → Gives ds v v' b n → Gives ds v v' ok k
gives e h g = record { ending = g.ending; passing = g.passing ∙ e; costing = g.costing ∙ h }

pub and-true : (a : Bool) → (a && true) ≡ a
and-true true = refl
and-true false = refl

pub bounds : (t : ℕ) (l h z : ℤ) (v : ℕ → ℤ) (b : Bool) → b ≡ true → ((le_z l (cond b z (v t))) && (((le_z (cond b z (v t)) h) && true))) ≡ ((le_z l z) && (le_z z h))
bounds t l h z v b e = rw e (ap (◌&&◌ (le_z l z)) (and-true (le_z z h)))

abs_neg : (n : ℕ) → nat_abs (neg_ℤ (pos n)) ≡ n
abs_neg zero = refl
abs_neg (suc n) = refl

pub sign-cost : (q c : ℤ) → nat_abs (q *ℤ sign c) ≡ nat_abs q
sign-cost (pos a) (pos n) = omega arith
sign-cost (pos a) (negsuc n) = abs_neg (a * 1) ∙ omega arith
sign-cost (negsuc a) (pos n) = abs_neg (suc a * 1) ∙ omega arith
sign-cost (negsuc a) (negsuc n) = omega arith

module _ (h : ℕ → ℤ) {ds : List Stage} {v' : Name → ℤ} {ok : Bool} {k : ℕ} where
  drain-refill : (t : ℕ) (w : ℤ) (v : ℕ → ℤ) (a : ℤ) → Gives ds (named_values v (a +ℤ v t *ℤ w) (pos 0) h) v' ok k
      → Gives (drain t w ∷ refill t ∷ ds) (named_values v a (pos 0) h) v' ok (suc (nat_abs (v t)) + (suc (nat_abs (v t)) + k))
  drain-refill t w v a g =
      then (drain t w) (drained h t w v a) refl refl
      (then (refill t) (refilled h t v (a +ℤ v t *ℤ w) (v t) ∙ ap (λ (f : ℕ → ℤ). named_values f (a +ℤ v t *ℤ w) (pos 0) h) (updated-itself t v)) refl refl g)

  dividing : (y : ℕ) (c : ℤ) (v : ℕ → ℤ) → Gives ds (named_values v (residue_of (v y) c) (quotient_of (v y) c) h) v' ok k
      → Gives (drain y (pos 1) ∷ refill y ∷ divide c ∷ ds) (holding v h) v' ok (3 + 2 * nat_abs (v y) + nat_abs (quotient_of (v y) c) + k)
  dividing y c v g = gives refl (omega arith) (
      then (drain y (pos 1)) (drained h y (pos 1) v (pos 0)) refl refl
      (then (refill y)
      (refilled h y v (pos 0 +ℤ v y *ℤ pos 1) (v y) ∙ ap₂ (λ (f : ℕ → ℤ) (z : ℤ). named_values f z (pos 0) h) (updated-itself y v) (onto (v y)))
      refl refl
      (then (divide c) (divided h c v (v y)) refl (sym (sign-cost (floor (v y) (unit_less c)) c)) g)))

all-terms : (h : ℕ → ℤ) (ts : List (ℕ × ℤ)) (v : ℕ → ℤ) (a : ℤ) {ds : List Stage} {v' : Name → ℤ} {ok : Bool} {k : ℕ}
    → Gives ds (named_values v (linear a ts v) (pos 0) h) v' ok k
    → Gives (drain_terms ts ds) (named_values v a (pos 0) h) v' ok (2 * length ts + 2 * magnitudes ts v + k)
all-terms h [] v a g = gives refl (omega arith) g
all-terms h (t ∷ ts) v a g = gives refl (omega arith) (drain-refill h t.0 t.1 v a (all-terms h ts v (a +ℤ v t.0 *ℤ t.1) g))

-- ---- an effect's stages before Clear: they leave its result in A, or in B
-- what the action that enters them adds to A
abbrev pub w0 : Effect → ℤ
w0 (add_effect t c) = c
w0 (linear_effect t w ts) = w
w0 (quotient_effect t y c) = pos 0
w0 (residue_effect t y c) = pos 0

-- the values that they leave
abbrev pub ready : Effect → (ℕ → ℤ) → (ℕ → ℤ) → Name → ℤ
ready (add_effect t c) v h = named_values v (result (add_effect t c) v) (pos 0) h
ready (linear_effect t w ts) v h = named_values v (result (linear_effect t w ts) v) (pos 0) h
ready (quotient_effect t y c) v h = named_values v (pos 0) (result (quotient_effect t y c) v) h
ready (residue_effect t y c) v h = named_values v (result (residue_effect t y c) v) (pos 0) h

pub entered-with : (e : Effect) (v h : ℕ → ℤ) → plus (entering_additions e) (holding v h) ≡ named_values v (w0 e) (pos 0) h
entered-with (add_effect t c) v h = added_to_a h c v
entered-with (linear_effect t w ts) v h = added_to_a h w v
entered-with (quotient_effect t y c) v h = refl
entered-with (residue_effect t y c) v h = refl

pub works : (e : Effect) (v h : ℕ → ℤ) {ds : List Stage} {v' : Name → ℤ} {ok : Bool} {k : ℕ} → Gives ds (ready e v h) v' ok k
    → Gives (result_stages e ds) (named_values v (w0 e) (pos 0) h) v' ok (price_of_result e v + k)
works (add_effect t c) v h {ds} {v'} {ok} {k} g = gives refl (omega arith)
    (all-terms h ((t, pos 1) ∷ []) v c (subst (λ (z : ℤ). Gives ds (named_values v z (pos 0) h) v' ok k)
    (omega (ints, sum-parts (v t) c, sum-parts c (v t *ℤ pos 1), mul-up (v t) (pos 1), mul-down (v t) (pos 1))) g))
works (linear_effect t w ts) v h g = all-terms h ts v w g
works (quotient_effect t y c) v h g =
    gives refl (omega arith) (dividing h y c v (then (empty helper_a) (emptied_a h v (residue_of (v y) c) (quotient_of (v y) c)) refl refl g))
works (residue_effect t y c) v h g =
    gives refl (omega arith) (dividing h y c v (then (empty helper_b) (emptied_b h v (residue_of (v y) c) (quotient_of (v y) c)) refl refl g))

-- Clear and Move of a single effect
pub clear-move_a : (t : ℕ) (l u : ℤ) (v : ℕ → ℤ) (a : ℤ) (h : ℕ → ℤ)
    → Gives (clear t ∷ move t helper_a l u ∷ []) (named_values v a (pos 0) h) (holding (updated t a v) h)
    ((le_z l a && le_z a u) && true) (2 + nat_abs (v t) + nat_abs a)
clear-move_a t l u v a h = gives refl (omega arith)
    (then (clear t) (cleared h t v a (pos 0)) refl refl
    (then (move t helper_a l u) moved (ap (conditions_hold (move t helper_a l u).turn_conditions) moved ∙ bounds t l u a v (eqb t t) (eqb_same t)) refl
    (stop (holding (updated t a v) h))))
  where
    moved : after_stage (move t helper_a l u) (named_values (updated t (pos 0) v) a (pos 0) h) ≡ holding (updated t a v) h
    moved = moved_a h t l u v a (pos 0)

pub clear-move_b : (t : ℕ) (l u : ℤ) (v : ℕ → ℤ) (b : ℤ) (h : ℕ → ℤ)
    → Gives (clear t ∷ move t helper_b l u ∷ []) (named_values v (pos 0) b h) (holding (updated t b v) h)
    ((le_z l b && le_z b u) && true) (2 + nat_abs (v t) + nat_abs b)
clear-move_b t l u v b h = gives refl (omega arith)
    (then (clear t) (cleared h t v (pos 0) b) refl refl
    (then (move t helper_b l u) moved (ap (conditions_hold (move t helper_b l u).turn_conditions) moved ∙ bounds t l u b v (eqb t t) (eqb_same t)) refl
    (stop (holding (updated t b v) h))))
  where
    moved : after_stage (move t helper_b l u) (named_values (updated t (pos 0) v) (pos 0) b h) ≡ holding (updated t b v) h
    moved = moved_b h t l u v (pos 0) b
