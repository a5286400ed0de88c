-- What the stages of all effects of an action make of the values, one effect by itself or several through the holds: the source step's results, with
-- helpers at rest; whether the turns' tests pass, and what they cost.
-- Assumes nothing.
use mathlib.Core.Path.{◌≡◌, refl, sym, ap, ◌∙◌, subst, fun_ext}
use Prim.Native.Nat.{ℕ, zero, suc, ◌+◌, ◌*◌}
use native.Mathlib.Omega.{arith}
use mathlib.Core.Bool.{◌&&◌, Bool, true, false, not, cond}
use mathlib.Core.Option.{Option, none, some}
use mathlib.Core.List.{List, [], ◌∷◌, ◌++◌, append_assoc, append-nil}
use lib.ListN.{length, length-append}
use lib.Dec.{T, eqb, eqb-zero-suc, eqb-suc-zero, eqb-suc-suc}
use lib.IntN.{ℤ, pos, negsuc, neg_ℤ, nat_abs, ◌+ℤ◌, ◌-ℤ◌}
use lib.Signed.{le_z, lt_z}
use Rattle.integers.specs.Relation.{at_most, at_least}
use Rattle.model.specs.Steps.{conditions_hold, linear, within_bounds, result, target, results, integer_at}
use Rattle.model.specs.Stages.{Name, source, helper_a, helper_b, hold, Stage, when, clear, move, drain_terms}
use Rattle.model.specs.Stages.{opening_additions, stages_of, added_bound, move_to_hold, result_stages, result_in, entering_additions, next_additions}
use Rattle.model.specs.Stages.{hold_stages, set_stages, unload_stages}
use Rattle.model.specs.Expansion.{add_to, plus, after_strokes, after_stage, named_values, magnitudes, all_zero, resting_values}
use Rattle.model.specs.Expansion.{price_of_result, price_of_held, price_of_effects}
use Rattle.integers.specs.Division.{quotient_of, residue_of}
use Rattle.model.specs.NamedSystems.{updated, store, after_stages}
use Rattle.model.specs.Tasks.{Effect, add_effect, linear_effect, quotient_effect, residue_effect}
use Rattle.model.proofs.StageWalk.{Fine, and_intro, and_parts}
use Rattle.integers.specs.All.{All}
use Rattle.model.specs.InTask.{Distinct, targets}
use Rattle.integers.proofs.Parts.{ints, sum-parts, neg-up, neg-down}
use Rattle.model.proofs.StageValues.{eqb_same, by_place, flip, values-equal, holding, stop, then, gives, and-true, bounds, w0, ready, entered-with, works, clear-move_a, clear-move_b, cleared, unloaded, held_a, held_b, added_to_a, Gives}

-- ---- several effects, through the holds: a list of their values, 0 beyond it
pub holds-zero-past : (rs : List ℤ) → integer_at rs (length rs) ≡ pos 0
holds-zero-past [] = refl
holds-zero-past (r ∷ rs) = holds-zero-past rs

pub filled : (rs : List ℤ) (z : ℤ) → updated (length rs) z (integer_at rs) ≡ integer_at (rs ++ (z ∷ []))
filled rs z = fun_ext (go rs)
  where
    go : (rs : List ℤ) (j : ℕ) → cond (eqb (length rs) j) z (integer_at rs j) ≡ integer_at (rs ++ (z ∷ [])) j
    go [] zero = refl
    go [] (suc j) = rw (eqb-zero-suc j) refl
    go (r ∷ rs) zero = rw (eqb-suc-zero (length rs)) refl
    go (r ∷ rs) (suc j) = rw (eqb-suc-suc (length rs) j) (go rs j)

pub replaced : (zs : List ℤ) (y z : ℤ) (rs : List ℤ) → updated (length zs) z (integer_at (zs ++ (y ∷ rs))) ≡ integer_at (zs ++ (z ∷ rs))
replaced zs y z rs = fun_ext (go zs)
  where
    go : (zs : List ℤ) (j : ℕ) → cond (eqb (length zs) j) z (integer_at (zs ++ (y ∷ rs)) j) ≡ integer_at (zs ++ (z ∷ rs)) j
    go [] zero = refl
    go [] (suc j) = rw (eqb-zero-suc j) refl
    go (r ∷ zs) zero = rw (eqb-suc-zero (length zs)) refl
    go (r ∷ zs) (suc j) = rw (eqb-suc-suc (length zs) j) (go zs j)

pub held-there : (zs : List ℤ) (y : ℤ) (rs : List ℤ) → integer_at (zs ++ (y ∷ rs)) (length zs) ≡ y
held-there [] y rs = refl
held-there (z ∷ zs) y rs = held-there zs y rs

abbrev pub result_values : List Effect → (ℕ → ℤ) → List ℤ
result_values [] v = []
result_values (e ∷ es) v = result e v ∷ result_values es v

abbrev pub next_w0 : List Effect → ℤ
next_w0 [] = pos 0
next_w0 (e ∷ es) = w0 e

pub next-entered : (es : List Effect) (v h : ℕ → ℤ) → plus (next_additions es) (holding v h) ≡ named_values v (next_w0 es) (pos 0) h
next-entered [] v h = refl
next-entered (e ∷ es) v h = entered-with e v h

module _ (v : ℕ → ℤ) where
  -- the next hold filled, the next effect's stages entered
  into-hold : (e : Effect) (es : List Effect) (rs : List ℤ) {ds : List Stage} {v' : Name → ℤ} {ok : Bool} {k : ℕ}
      → Gives ds (named_values v (next_w0 es) (pos 0) (integer_at (rs ++ (result e v ∷ [])))) v' ok k
      → Gives (move_to_hold (length rs) (result_in e) (next_additions es) ∷ ds) (ready e v (integer_at rs)) v' ok (suc (nat_abs (result e v)) + k)
  into-hold e es rs {ds} {v'} {ok} {k} g = go e g
    where
      onward : (z : ℤ) → plus (next_additions es) (holding v (updated (length rs) z (integer_at rs)))
          ≡ named_values v (next_w0 es) (pos 0) (integer_at (rs ++ (z ∷ [])))
      onward z = ap (λ (h : ℕ → ℤ). plus (next_additions es) (holding v h)) (filled rs z) ∙ next-entered es v (integer_at (rs ++ (z ∷ [])))

      from_a : (z : ℤ) → Gives ds (named_values v (next_w0 es) (pos 0) (integer_at (rs ++ (z ∷ [])))) v' ok k
          → Gives (move_to_hold (length rs) helper_a (next_additions es) ∷ ds) (named_values v z (pos 0) (integer_at rs)) v' ok (suc (nat_abs z) + k)
      from_a z g = then (move_to_hold (length rs) helper_a (next_additions es))
          (ap (plus (next_additions es)) (held_a (integer_at rs) (length rs) (next_additions es) v z (holds-zero-past rs)) ∙ onward z) refl refl g

      from_b : (z : ℤ) → Gives ds (named_values v (next_w0 es) (pos 0) (integer_at (rs ++ (z ∷ [])))) v' ok k
          → Gives (move_to_hold (length rs) helper_b (next_additions es) ∷ ds) (named_values v (pos 0) z (integer_at rs)) v' ok (suc (nat_abs z) + k)
      from_b z g = then (move_to_hold (length rs) helper_b (next_additions es))
          (ap (plus (next_additions es)) (held_b (integer_at rs) (length rs) (next_additions es) v z (holds-zero-past rs)) ∙ onward z) refl refl g

      go : (e : Effect) → Gives ds (named_values v (next_w0 es) (pos 0) (integer_at (rs ++ (result e v ∷ [])))) v' ok k
          → Gives (move_to_hold (length rs) (result_in e) (next_additions es) ∷ ds) (ready e v (integer_at rs)) v' ok (suc (nat_abs (result e v)) + k)
      go (add_effect t c) g = from_a (result (add_effect t c) v) g
      go (linear_effect t w ts) g = from_a (result (linear_effect t w ts) v) g
      go (quotient_effect t y c) g = from_b (result (quotient_effect t y c) v) g
      go (residue_effect t y c) g = from_a (result (residue_effect t y c) v) g

  -- what the stages up to the last hold cost
  abbrev price_of_holding : List Effect → ℕ
  price_of_holding [] = zero
  price_of_holding (e ∷ es) = price_of_result e v + (1 + nat_abs (result e v)) + price_of_holding es

  all_held : (es : List Effect) (j : ℕ) (rs : List ℤ) → length rs ≡ j → {ds : List Stage} {v' : Name → ℤ} {ok : Bool} {k : ℕ}
      → Gives ds (holding v (integer_at (rs ++ result_values es v))) v' ok k
      → Gives (hold_stages j es ds) (named_values v (next_w0 es) (pos 0) (integer_at rs)) v' ok (price_of_holding es + k)
  all_held [] j rs l {ds} {v'} {ok} {k} g =
      gives refl (omega arith) (subst (λ (u : List ℤ). Gives ds (holding v (integer_at u)) v' ok k) (append-nil rs) g)
  all_held (e ∷ es) j rs l {ds} {v'} {ok} {k} g = gives refl (omega arith) (works e v (integer_at rs)
      (subst (λ (i : ℕ). Gives (move_to_hold i (result_in e) (next_additions es) ∷ hold_stages (suc j) es ds) (ready e v (integer_at rs)) v' ok
      (suc (nat_abs (result e v)) + (price_of_holding es + k))) l
      (into-hold e es rs
      (all_held es (suc j) (rs ++ (result e v ∷ [])) (length-append rs (result e v ∷ []) ∙ omega arith)
      (subst (λ (u : List ℤ). Gives ds (holding v (integer_at u)) v' ok k) (sym (append_assoc rs (result e v ∷ []) (result_values es v))) g)))))

  -- so the results are in the holds
  pub results-held : (es : List Effect) → after_stages (hold_stages 0 es []) (named_values v (next_w0 es) (pos 0) all_zero)
      ≡ holding v (integer_at (result_values es v))
  results-held es = (all_held es 0 [] refl (stop (holding v (integer_at (result_values es v))))).ending

  abbrev zeros : List Effect → List ℤ
  zeros [] = []
  zeros (e ∷ es) = pos 0 ∷ zeros es

  -- what the stages behind the last hold cost
  abbrev price_of_unloading : List Effect → ℕ
  price_of_unloading [] = zero
  price_of_unloading (e ∷ es) = (2 + nat_abs (v (target e)) + nat_abs (result e v)) + price_of_unloading es

  both_ways : (es : List Effect) → price_of_holding es + price_of_unloading es ≡ price_of_held es v
  both_ways [] = refl
  both_ways (e ∷ es) = omega (arith, both_ways es)

  module _ (lo hi : ℕ → ℤ) where
    -- Unloading from hold j on: `before` and `after` are the holds' values, u the source's; the test and the price are those of the effects
    abbrev Unloads : ℕ → List Effect → (ℕ → ℤ) → List ℤ → List ℤ → Type 0
    Unloads j es u before after = Gives (unload_stages lo hi j es) (holding u (integer_at before)) (holding (store (results es v) u) (integer_at after))
        (within_bounds lo hi (results es v)) (price_of_unloading es)

    -- Move out of the hold of effect e, the holds before it being zs: what it leaves, and its test
    abbrev pub move_out : Effect → List ℤ → Stage
    move_out e zs = move (target e) (hold (length zs)) (lo (target e)) (hi (target e))

    module _ (e : Effect) (u : ℕ → ℤ) (zs rs : List ℤ) where
      abbrev held-before : Name → ℤ
      held-before = holding (updated (target e) (pos 0) u) (integer_at (zs ++ (result e v ∷ rs)))

      out-of-its-hold : after_stage (move_out e zs) held-before
          ≡ holding (updated (target e) (result e v) u) (updated (length zs) (pos 0) (integer_at (zs ++ (result e v ∷ rs))))
      out-of-its-hold =
          unloaded (integer_at (zs ++ (result e v ∷ rs))) (target e) (length zs) (lo (target e)) (hi (target e)) u (pos 0) (pos 0)
          ∙ ap (λ (x : ℤ). holding (updated (target e) x u) (updated (length zs) (pos 0) (integer_at (zs ++ (result e v ∷ rs))))) (held-there zs (result e v) rs)

      pub moved_out : after_stage (move_out e zs) held-before ≡ holding (updated (target e) (result e v) u) (integer_at (zs ++ (pos 0 ∷ rs)))
      moved_out = out-of-its-hold ∙ ap (holding (updated (target e) (result e v) u)) (replaced zs (result e v) (pos 0) rs)

      pub tested-out : conditions_hold (move_out e zs).turn_conditions (after_strokes (move_out e zs) held-before)
          ≡ (le_z (lo (target e)) (result e v) && le_z (result e v) (hi (target e)))
      tested-out = ap (conditions_hold (move_out e zs).turn_conditions) out-of-its-hold
          ∙ bounds (target e) (lo (target e)) (hi (target e)) (result e v) u (eqb (target e) (target e)) (eqb_same (target e))

    one-unloaded : (e : Effect) (es : List Effect) (u : ℕ → ℤ) (zs : List ℤ) → u (target e) ≡ v (target e)
        → Unloads (suc (length zs)) es (updated (target e) (result e v) u) (zs ++ (pos 0 ∷ result_values es v)) (zs ++ (pos 0 ∷ zeros es))
        → Unloads (length zs) (e ∷ es) u (zs ++ (result e v ∷ result_values es v)) (zs ++ (pos 0 ∷ zeros es))
    one-unloaded e es u zs q g = gives refl (omega (arith, ap nat_abs q))
        (then (clear (target e)) (cleared (integer_at (zs ++ (result e v ∷ result_values es v))) (target e) u (pos 0) (pos 0)) refl refl
        (then (move_out e zs) (moved_out e u zs (result_values es v)) (tested-out e u zs (result_values es v))
        (ap nat_abs (held-there zs (result e v) (result_values es v))) g))

    -- the targets still have their values from before
    all-unloaded : (es : List Effect) (j : ℕ) (u : ℕ → ℤ) (zs : List ℤ) → length zs ≡ j → Distinct (targets es) → All (λ (t : ℕ). u t ≡ v t) (targets es)
        → Unloads j es u (zs ++ result_values es v) (zs ++ zeros es)
    all-unloaded [] j u zs l a q = stop (holding u (integer_at (zs ++ [])))
    all-unloaded (e ∷ es) j u zs l (a, as₁) (q, qs) =
        subst (λ (i : ℕ). Unloads i (e ∷ es) u (zs ++ (z ∷ result_values es v)) (zs ++ (pos 0 ∷ zeros es))) l (one-unloaded e es u zs q
        (subst (λ (w : List ℤ). Unloads (suc (length zs)) es (updated t z u) w (zs ++ (pos 0 ∷ zeros es))) (append_assoc zs (pos 0 ∷ []) (result_values es v))
        (subst (Unloads (suc (length zs)) es (updated t z u) ((zs ++ (pos 0 ∷ [])) ++ result_values es v)) (append_assoc zs (pos 0 ∷ []) (zeros es))
        (all-unloaded es (suc (length zs)) (updated t z u) (zs ++ (pos 0 ∷ [])) (length-append zs (pos 0 ∷ []) ∙ omega arith) as₁
        (still (targets es) a qs)))))
      where
        t : ℕ
        t = target e

        z : ℤ
        z = result e v

        still : (ks : List ℕ) → All (λ (j : ℕ). eqb j t ≡ false) ks → All (λ (k : ℕ). u k ≡ v k) ks → All (λ (k : ℕ). updated t z u k ≡ v k) ks
        still [] a h = tt
        still (k ∷ ks) (a, as₁) (h, hs) = (ap (λ (b : Bool). cond b z (u k)) (flip t k a) ∙ h, still ks as₁ hs)

zero-holds : (es : List Effect) (v : ℕ → ℤ) → integer_at (zeros v es) ≡ all_zero
zero-holds es v = fun_ext (go es)
  where
    go : (es : List Effect) (j : ℕ) → integer_at (zeros v es) j ≡ pos 0
    go [] j = refl
    go (e ∷ es) zero = refl
    go (e ∷ es) (suc j) = go es j

added : (t : ℕ) (c : ℤ) (v : ℕ → ℤ) → plus ((source t, c) ∷ []) (resting_values v) ≡ resting_values (updated t (v t +ℤ c) v)
added t c v = values-equal (updated t (v t +ℤ c) v) (pos 0) (pos 0) all_zero (plus ((source t, c) ∷ []) (resting_values v))
    (by_place t (λ b j. add_to (cond b (some c) none) (v j)) (λ b j. cond b (v t +ℤ c) (v j)) refl (λ j. refl)) refl refl (λ j. refl)

pub bool-ext : (a b : Bool) → (T a → T b) → (T b → T a) → a ≡ b
bool-ext true true f g = refl
bool-ext true false f g = absurd (f tt)
bool-ext false true f g = absurd (g tt)
bool-ext false false f g = refl

module _ (lo hi : ℕ → ℤ) where
  -- the part of the bound test that the stages make
  abbrev pub move_test : List Effect → (ℕ → ℤ) → Bool
  move_test [] v = true
  move_test (add_effect t c ∷ []) v = true
  move_test (linear_effect t w ts ∷ []) v = within_bounds lo hi (results (linear_effect t w ts ∷ []) v)
  move_test (quotient_effect t y c ∷ []) v = within_bounds lo hi (results (quotient_effect t y c ∷ []) v)
  move_test (residue_effect t y c ∷ []) v = within_bounds lo hi (results (residue_effect t y c ∷ []) v)
  move_test (e ∷ f ∷ es) v = within_bounds lo hi (results (e ∷ f ∷ es) v)

  pub record EffectsWalk (es : List Effect) (v : ℕ → ℤ) : Type 0 where
    pub price : ℕ
    pub runs :
        Gives (stages_of lo hi es) (plus (opening_additions es) (resting_values v)) (resting_values (store (results es v) v)) (move_test es v) price
    pub priced : price_of_effects es v ≡ suc price

  same-everywhere : (ks : List ℕ) (v : ℕ → ℤ) → All (λ (t : ℕ). v t ≡ v t) ks
  same-everywhere [] v = tt
  same-everywhere (k ∷ ks) v = (refl, same-everywhere ks v)

  through-holds : (e f : Effect) (es : List Effect) (v : ℕ → ℤ) → Distinct (targets (e ∷ f ∷ es))
      → Gives (stages_of lo hi (e ∷ f ∷ es)) (plus (entering_additions e) (resting_values v)) (resting_values (store (results (e ∷ f ∷ es) v) v))
      (within_bounds lo hi (results (e ∷ f ∷ es) v)) (price_of_held (e ∷ f ∷ es) v)
  through-holds e f es v a =
      subst (λ (x : Name → ℤ). Gives (stages_of lo hi all) x (resting_values after) (within_bounds lo hi (results all v)) (price_of_held all v))
      (sym (entered-with e v all_zero))
      (gives refl (both_ways v all)
      (all_held v all 0 [] refl
      (subst (λ (h : ℕ → ℤ). Gives (unload_stages lo hi 0 all) (holding v (integer_at (result_values all v))) (holding after h)
      (within_bounds lo hi (results all v)) (price_of_unloading v all))
      (zero-holds all v) (all-unloaded v lo hi all 0 v [] refl a (same-everywhere (targets all) v)))))
    where
      all : List Effect
      all = e ∷ f ∷ es

      after : ℕ → ℤ
      after = store (results all v) v

  pub effects : (es : List Effect) (v : ℕ → ℤ) → Distinct (targets es) → EffectsWalk es v
  effects [] v a = record { price = 0; runs = stop (resting_values v); priced = refl }
  effects (add_effect t c ∷ []) v a = record {
    price = 0;
    runs = subst (λ (f : Name → ℤ). Gives [] f (resting_values (updated t (v t +ℤ c) v)) true 0) (sym (added t c v))
        (stop (resting_values (updated t (v t +ℤ c) v)));
    priced = refl;
  }
  effects (linear_effect t w ts ∷ []) v a = record {
    price = 2 * length ts + 2 * magnitudes ts v + (2 + nat_abs (v t) + nat_abs (linear w ts v));
    runs = subst (λ (f : Name → ℤ). Gives (stages_of lo hi (linear_effect t w ts ∷ [])) f (resting_values (updated t (linear w ts v) v))
        (move_test (linear_effect t w ts ∷ []) v) (2 * length ts + 2 * magnitudes ts v + (2 + nat_abs (v t) + nat_abs (linear w ts v))))
        (sym (added_to_a all_zero w v))
        (works (linear_effect t w ts) v all_zero (clear-move_a t (lo t) (hi t) v (linear w ts v) all_zero));
    priced = omega arith;
  }
  effects (quotient_effect t y c ∷ []) v a = record {
    price = price_of_result (quotient_effect t y c) v + (2 + nat_abs (v t) + nat_abs (quotient_of (v y) c));
    runs = works (quotient_effect t y c) v all_zero (clear-move_b t (lo t) (hi t) v (quotient_of (v y) c) all_zero);
    priced = omega arith;
  }
  effects (residue_effect t y c ∷ []) v a = record {
    price = price_of_result (residue_effect t y c) v + (2 + nat_abs (v t) + nat_abs (residue_of (v y) c));
    runs = works (residue_effect t y c) v all_zero (clear-move_a t (lo t) (hi t) v (residue_of (v y) c) all_zero);
    priced = omega arith;
  }
  effects (e ∷ f ∷ es) v a = record { price = price_of_held (e ∷ f ∷ es) v; runs = through-holds e f es v a; priced = omega arith }

  -- together with the bound of a lone + that is the test of the source step
  pub tests_agree : (es : List Effect) (v : ℕ → ℤ) → ((j : ℕ) → T (le_z (lo j) (v j)) × T (le_z (v j) (hi j)))
      → ((conditions_hold (added_bound lo hi es) (resting_values v)) && (move_test es v)) ≡ within_bounds lo hi (results es v)
  tests_agree [] v g = refl
  tests_agree (add_effect t c ∷ []) v g = and-true (conditions_hold (added_bound lo hi (add_effect t c ∷ [])) (resting_values v))
      ∙ go (lt_z (pos 0) c) refl ∙ sym (and-true ((le_z (lo t) (v t +ℤ c)) && (le_z (v t +ℤ c) (hi t))))
    where
      low : T (le_z (lo t) (v t))
      low = (g t).0

      high : T (le_z (v t) (hi t))
      high = (g t).1

      go : (b : Bool) → lt_z (pos 0) c ≡ b
          → conditions_hold (cond b (when (source t) at_most (hi t -ℤ c)) (when (source t) at_least (lo t -ℤ c)) ∷ []) (resting_values v)
          ≡ ((le_z (lo t) (v t +ℤ c)) && (le_z (v t +ℤ c) (hi t)))
      go true e = and-true (le_z (v t) (hi t -ℤ c)) ∙ bool-ext (le_z (v t) (hi t -ℤ c)) (((le_z (lo t) (v t +ℤ c)) && (le_z (v t +ℤ c) (hi t))))
          (λ a. and_intro (le_z (lo t) (v t +ℤ c)) (le_z (v t +ℤ c) (hi t)) (omega (ints, low, sum-parts (v t) c, subst T (sym e) tt))
          (omega (ints, a, sum-parts (v t) c, sum-parts (hi t) (neg_ℤ c), neg-up c, neg-down c)))
          (λ b. omega (ints, (and_parts (le_z (lo t) (v t +ℤ c)) (le_z (v t +ℤ c) (hi t)) b).1, sum-parts (v t) c, sum-parts (hi t) (neg_ℤ c), neg-up c, neg-down c))
      go false e = and-true (le_z (lo t -ℤ c) (v t)) ∙ bool-ext (le_z (lo t -ℤ c) (v t)) (((le_z (lo t) (v t +ℤ c)) && (le_z (v t +ℤ c) (hi t))))
          (λ a. and_intro (le_z (lo t) (v t +ℤ c)) (le_z (v t +ℤ c) (hi t)) (omega (ints, a, sum-parts (v t) c, sum-parts (lo t) (neg_ℤ c), neg-up c, neg-down c))
          (omega (ints, high, sum-parts (v t) c, subst (λ (b : Bool). T (not b)) (sym e) tt)))
          (λ b. omega (ints, (and_parts (le_z (lo t) (v t +ℤ c)) (le_z (v t +ℤ c) (hi t)) b).0, sum-parts (v t) c, sum-parts (lo t) (neg_ℤ c), neg-up c, neg-down c))
  tests_agree (linear_effect t w ts ∷ []) v g = refl
  tests_agree (quotient_effect t y c ∷ []) v g = refl
  tests_agree (residue_effect t y c ∷ []) v g = refl
  tests_agree (e ∷ f ∷ es) v g = refl

own-counter : (t : ℕ) (rest : Option ℤ) → cond (eqb t t) (some (negsuc 0)) rest ≡ some (negsuc 0)
own-counter t rest = rw (eqb_same t) refl

terms-fine : (ts : List (ℕ × ℤ)) (ds : List Stage) → All Fine ds → All Fine (drain_terms ts ds)
terms-fine [] ds h = h
terms-fine (t ∷ ts) ds h = (own-counter t.0 none, (refl, terms-fine ts ds h))

results_fine : (e : Effect) (ds : List Stage) → All Fine ds → All Fine (result_stages e ds)
results_fine (add_effect t c) ds h = terms-fine ((t, pos 1) ∷ []) ds h
results_fine (linear_effect t w ts) ds h = terms-fine ts ds h
results_fine (quotient_effect t y c) ds h = (own-counter y none, (refl, (refl, (refl, h))))
results_fine (residue_effect t y c) ds h = (own-counter y none, (refl, (refl, (refl, h))))

to-hold-fine : (e : Effect) (j : ℕ) (es : List (Name × ℤ)) → Fine (move_to_hold j (result_in e) es)
to-hold-fine (add_effect t c) j es = refl
to-hold-fine (linear_effect t w ts) j es = refl
to-hold-fine (quotient_effect t y c) j es = refl
to-hold-fine (residue_effect t y c) j es = refl

holds-fine : (es : List Effect) (j : ℕ) (ds : List Stage) → All Fine ds → All Fine (hold_stages j es ds)
holds-fine [] j ds h = h
holds-fine (e ∷ es) j ds h = results_fine e (move_to_hold j (result_in e) (next_additions es) ∷ hold_stages (suc j) es ds)
    (to-hold-fine e j (next_additions es), holds-fine es (suc j) ds h)

unloads-fine : (lo hi : ℕ → ℤ) (es : List Effect) (j : ℕ) → All Fine (unload_stages lo hi j es)
unloads-fine lo hi [] j = tt
unloads-fine lo hi (e ∷ es) j = (own-counter (target e) none, (own-counter j none, unloads-fine lo hi es (suc j)))

pub all-fine : (lo hi : ℕ → ℤ) (es : List Effect) → All Fine (stages_of lo hi es)
all-fine lo hi [] = tt
all-fine lo hi (add_effect t c ∷ []) = tt
all-fine lo hi (linear_effect t w ts ∷ []) = results_fine (linear_effect t w ts) (set_stages lo hi helper_a t []) (own-counter t none, (refl, tt))
all-fine lo hi (quotient_effect t y c ∷ []) = results_fine (quotient_effect t y c) (set_stages lo hi helper_b t []) (own-counter t none, (refl, tt))
all-fine lo hi (residue_effect t y c ∷ []) = results_fine (residue_effect t y c) (set_stages lo hi helper_a t []) (own-counter t none, (refl, tt))
all-fine lo hi (e ∷ f ∷ es) = holds-fine (e ∷ f ∷ es) 0 (unload_stages lo hi 0 (e ∷ f ∷ es)) (unloads-fine lo hi (e ∷ f ∷ es) 0)
