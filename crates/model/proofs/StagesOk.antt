-- The rows that accepted source actions become keep to the limits under which sums can be kept, before their variables are numbered, and are few
-- enough.
-- Assumes nothing.
use mathlib.Core.Path.{◌≡◌, refl, ap}
use Prim.Native.Nat.{ℕ, zero, suc, ◌+◌, ◌*◌, ◌≤◌, ◌<◌}
use native.Mathlib.Omega.{arith}
use mathlib.Core.Bool.{Bool, true, false, cond}
use mathlib.Core.List.{List, [], ◌∷◌}
use lib.ListN.{length, length-append}
use lib.Signed.{lt_z}
use lib.IntN.{ℤ, pos, negsuc, neg_ℤ, nat_abs, ◌-ℤ◌}
use Rattle.integers.specs.All.{All}
use Rattle.integers.specs.Relation.{at_most, at_least}
use Rattle.model.specs.Tasks.{Measured, variable, weighted_sum, NumericCondition, SourceAction, Effect, add_effect, linear_effect, quotient_effect}
use Rattle.model.specs.Tasks.{residue_effect}
use Rattle.model.specs.Stages.{Name, source, helper_a, helper_b, hold, NamedAction, Stage, opposite, stage_actions, first_stage, stages_actions, drain, refill}
use Rattle.model.specs.Stages.{divide, empty, clear, move, drain_terms, move_to_hold, result_stages, result_in, add_to_a, entering_additions, next_additions}
use Rattle.model.specs.Stages.{hold_stages, set_stages, unload_stages, stages_of, opening_additions, on_source_terms, on_source}
use Rattle.model.specs.Stages.{on_source_variables, added_bound, opening_action, lower_actions, stage_count, when, left_over, count_actions}
use Rattle.model.specs.Steps.{target}
use Rattle.model.specs.Limits.{source_limits}
use Rattle.model.specs.TaskOk.{Distinct, keys, ValuesIn, InRange, Factor, AmountOk, MeasureOk, ConditionOk, EffectOk, SourceActionOk}
use Rattle.model.proofs.StageWalk.{all_app, body-length}
use Rattle.model.proofs.KeptOk.{MeasureFits}
use Rattle.model.proofs.StepBounds.{abs-sum}
use Rattle.model.proofs.AcceptedPairing.{abs_neg, sign-up_to}
use Rattle.model.proofs.MacroPlace.{stages-length}
use Rattle.model.proofs.AcceptedSource.{factor-less}

-- ---- conditions with which sums can be kept; amounts as in a source file, so that a weight times one fits, and no more than three
abbrev pub NamedFits : NumericCondition Name → Type 0
NamedFits c = MeasureFits c.measured c.constant

abbrev pub AmountsIn : List (Name × ℤ) → Type 0
AmountsIn es = All (λ (e : Name × ℤ). Factor source_limits e.1) es

abbrev FewAmounts : List (Name × ℤ) → Type 0
FewAmounts es = (length es ≤ 3) × AmountsIn es

-- ---- rows, before their variables are numbered
pub record RowOk (sizes : List ℕ) (z : ℕ) (r : NamedAction) : Type 0 where
  pub mode_conditions_few : length r.mode_conditions ≤ 8
  pub mode_conditions_in : ValuesIn sizes r.mode_conditions
  pub conditions_few : length r.conditions ≤ 9
  pub cs_up : All NamedFits r.conditions
  pub mode_effects_in : ValuesIn sizes r.mode_effects
  pub es_apart : Distinct (keys r.mode_effects)
  pub additions_few : length r.additions ≤ 3
  pub adds_up : AmountsIn r.additions
  pub control : r.control < z
  pub next_control : r.next_control < z

-- ---- stages
record StageOk (d : Stage) : Type 0 where
  high_up : left_over d.kind ≤ 10_000
  x_few : length d.turn_conditions ≤ 2
  x_up : All NamedFits d.turn_conditions
  a_few : length d.additions ≤ 3
  a_up : AmountsIn d.additions
  t_few : length d.turn_additions ≤ 3
  t_up : AmountsIn d.turn_additions

opposite-length : (es : List (Name × ℤ)) → length (opposite es) ≡ length es
opposite-length [] = refl
opposite-length (e ∷ es) = ap suc (opposite-length es)

opposite-ok : (es : List (Name × ℤ)) → AmountsIn es → AmountsIn (opposite es)
opposite-ok [] h = tt
opposite-ok (e ∷ es) (h, hs) = ((omega (arith, h.0, abs_neg e.1), omega (arith, h.1, abs_neg e.1)), opposite-ok es hs)

entry_lt : (s : ℕ) (ds : List Stage) (z : ℕ) → 1 ≤ z → s + length ds ≤ z → first_stage s ds < z
entry_lt s [] z o h = omega (arith, o)
entry_lt s (d ∷ ds) z o h = omega (arith, h)

rows_ok : (sizes : List ℕ) (z : ℕ) → 1 ≤ z → (ds : List Stage) (s : ℕ) → s + length ds ≤ z → All StageOk ds → All (RowOk sizes z) (stages_actions s ds)
rows_ok sizes z o [] s h a = tt
rows_ok sizes z o (d ∷ ds) s h (a, as₁) = all_app (RowOk sizes z) (stage_actions s d (first_stage (suc s) ds)) (stages_actions (suc s) ds) (
  record {
    mode_conditions_few = omega arith;
    mode_conditions_in = tt;
    conditions_few = omega arith;
    cs_up = (omega (arith, a.high_up), tt);
    mode_effects_in = tt;
    es_apart = tt;
    additions_few = a.a_few;
    adds_up = a.a_up;
    control = omega (arith, h);
    next_control = omega (arith, h);
  },
  (
    record {
      mode_conditions_few = omega arith;
      mode_conditions_in = tt;
      conditions_few = omega arith;
      cs_up = (omega arith, tt);
      mode_effects_in = tt;
      es_apart = tt;
      additions_few = omega (arith, a.a_few, opposite-length d.additions);
      adds_up = opposite-ok d.additions a.a_up;
      control = omega (arith, h);
      next_control = omega (arith, h);
    },
    (
      record {
        mode_conditions_few = omega arith;
        mode_conditions_in = tt;
        conditions_few = omega (arith, a.x_few);
        cs_up = (omega arith, (omega (arith, a.high_up), a.x_up));
        mode_effects_in = tt;
        es_apart = tt;
        additions_few = a.t_few;
        adds_up = a.t_up;
        control = omega (arith, h);
        next_control = entry_lt (suc s) ds z o (omega (arith, h));
      },
      tt,
    ),
  ),
)
    (rows_ok sizes z o ds (suc s) (omega (arith, h)) as₁)

module _ (lo hi : ℕ → ℤ) (lo_up : (j : ℕ) → nat_abs (lo j) ≤ 10_000) (hi_up : (j : ℕ) → nat_abs (hi j) ≤ 10_000) where
  abbrev One : Type 0
  One = (1 ≤ 1) × (1 ≤ 10_000)

  one : One
  one = (omega arith, omega arith)

  drain-ok : (t : ℕ) (w : ℤ) → Factor source_limits w → StageOk (drain t w)
  drain-ok t w h = record {
    high_up = omega arith;
    x_few = omega arith;
    x_up = tt;
    a_few = omega arith;
    a_up = (one, ((h.0, omega (arith, h.1)), (one, tt)));
    t_few = omega arith;
    t_up = tt;
  }

  refill-ok : (t : ℕ) → StageOk (refill t)
  refill-ok t = record { high_up = omega arith; x_few = omega arith; x_up = tt; a_few = omega arith; a_up = (one, (one, tt)); t_few = omega arith; t_up = tt }

  divide-ok : (c : ℤ) → Factor source_limits c → StageOk (divide c)
  divide-ok c h = record {
    high_up = omega (arith, h.1, factor-less c h);
    x_few = omega arith;
    x_up = tt;
    a_few = omega arith;
    a_up = ((omega arith, omega (arith, h.1, factor-less c h)), ((omega (arith, sign-up_to c), omega (arith, sign-up_to c)), tt));
    t_few = omega arith;
    t_up = tt;
  }

  empty-ok : (v : Name) → StageOk (empty v)
  empty-ok v = record { high_up = omega arith; x_few = omega arith; x_up = tt; a_few = omega arith; a_up = (one, tt); t_few = omega arith; t_up = tt }

  clear-ok : (t : ℕ) → StageOk (clear t)
  clear-ok t = record { high_up = omega arith; x_few = omega arith; x_up = tt; a_few = omega arith; a_up = (one, tt); t_few = omega arith; t_up = tt }

  move-ok : (t : ℕ) (f : Name) → StageOk (move t f (lo t) (hi t))
  move-ok t f = record {
    high_up = omega arith;
    x_few = omega arith;
    x_up = (omega (arith, lo_up t), (omega (arith, hi_up t), tt));
    a_few = omega arith;
    a_up = (one, (one, tt));
    t_few = omega arith;
    t_up = tt;
  }

  to-A-ok : (w : ℤ) → InRange source_limits w → FewAmounts (add_to_a w)
  to-A-ok (pos zero) h = (omega arith, tt)
  to-A-ok (pos (suc w)) h = (omega arith, ((omega arith, omega (arith, h)), tt))
  to-A-ok (negsuc w) h = (omega arith, ((omega arith, omega (arith, h)), tt))

  entering-ok : (n : ℕ) (e : Effect) → EffectOk source_limits n e → FewAmounts (entering_additions e)
  entering-ok n (add_effect t c) h = to-A-ok c h.1.1
  entering-ok n (linear_effect t w ts) h = to-A-ok w h.1
  entering-ok n (quotient_effect t y c) h = (omega arith, tt)
  entering-ok n (residue_effect t y c) h = (omega arith, tt)

  next-ok : (n : ℕ) (es : List Effect) → All (EffectOk source_limits n) es → FewAmounts (next_additions es)
  next-ok n [] h = (omega arith, tt)
  next-ok n (e ∷ es) (h, hs) = entering-ok n e h

  hold-ok : (j : ℕ) (f : Name) (es : List (Name × ℤ)) → FewAmounts es → StageOk (move_to_hold j f es)
  hold-ok j f es (h, k) = record { high_up = omega arith; x_few = omega arith; x_up = tt; a_few = omega arith; a_up = (one, (one, tt)); t_few = h; t_up = k }

  terms-ok : (n : ℕ) (ts : List (ℕ × ℤ)) (ds : List Stage) → All (AmountOk source_limits n) ts → All StageOk ds → All StageOk (drain_terms ts ds)
  terms-ok n [] ds i k = k
  terms-ok n (p ∷ ts) ds (i, is) k = (drain-ok p.0 p.1 i.1, (refill-ok p.0, terms-ok n ts ds is k))

  results-ok : (n : ℕ) (e : Effect) (ds : List Stage) → EffectOk source_limits n e → All StageOk ds → All StageOk (result_stages e ds)
  results-ok n (add_effect t c) ds h k = (drain-ok t (pos 1) (omega arith, omega arith), (refill-ok t, k))
  results-ok n (linear_effect t w ts) ds (h, _, _, (i, _)) k = terms-ok n ts ds i k
  results-ok n (quotient_effect t y c) ds (h, _, f) k = (drain-ok y (pos 1) (omega arith, omega arith), (refill-ok y, (divide-ok c f, (empty-ok helper_a, k))))
  results-ok n (residue_effect t y c) ds (h, _, f) k = (drain-ok y (pos 1) (omega arith, omega arith), (refill-ok y, (divide-ok c f, (empty-ok helper_b, k))))

  set-ok : (f : Name) (t : ℕ) (ds : List Stage) → All StageOk ds → All StageOk (set_stages lo hi f t ds)
  set-ok f t ds k = (clear-ok t, (move-ok t f, k))

  holds-ok : (n : ℕ) (es : List Effect) (j : ℕ) (ds : List Stage) → All (EffectOk source_limits n) es → All StageOk ds → All StageOk (hold_stages j es ds)
  holds-ok n [] j ds h k = k
  holds-ok n (e ∷ es) j ds (h, hs) k = results-ok n e (move_to_hold j (result_in e) (next_additions es) ∷ hold_stages (suc j) es ds) h
      (hold-ok j (result_in e) (next_additions es) (next-ok n es hs), holds-ok n es (suc j) ds hs k)

  unloads-ok : (es : List Effect) (j : ℕ) → All StageOk (unload_stages lo hi j es)
  unloads-ok [] j = tt
  unloads-ok (e ∷ es) j = set-ok (hold j) (target e) (unload_stages lo hi (suc j) es) (unloads-ok es (suc j))

  stages-ok : (n : ℕ) (es : List Effect) → All (EffectOk source_limits n) es → All StageOk (stages_of lo hi es)
  stages-ok n [] h = tt
  stages-ok n (add_effect t c ∷ []) h = tt
  stages-ok n (linear_effect t w ts ∷ []) (h, hs) = results-ok n (linear_effect t w ts) (set_stages lo hi helper_a t []) h (set-ok helper_a t [] tt)
  stages-ok n (quotient_effect t y c ∷ []) (h, hs) = results-ok n (quotient_effect t y c) (set_stages lo hi helper_b t []) h (set-ok helper_b t [] tt)
  stages-ok n (residue_effect t y c ∷ []) (h, hs) = results-ok n (residue_effect t y c) (set_stages lo hi helper_a t []) h (set-ok helper_a t [] tt)
  stages-ok n (e ∷ f ∷ es) h = holds-ok n (e ∷ f ∷ es) 0 (unload_stages lo hi 0 (e ∷ f ∷ es)) h (unloads-ok (e ∷ f ∷ es) 0)

  terms-few : (ts : List (ℕ × ℤ)) (ds : List Stage) → length (drain_terms ts ds) ≡ 2 * length ts + length ds
  terms-few [] ds = omega arith
  terms-few (p ∷ ts) ds = omega (arith, terms-few ts ds)

  results-few : (n : ℕ) (e : Effect) (ds : List Stage) → EffectOk source_limits n e → length (result_stages e ds) ≤ 8 + length ds
  results-few n (add_effect t c) ds h = omega arith
  results-few n (linear_effect t w ts) ds (h, k, f, i) = omega (arith, f, terms-few ts ds)
  results-few n (quotient_effect t y c) ds h = omega arith
  results-few n (residue_effect t y c) ds h = omega arith

  holds-few : (n : ℕ) (es : List Effect) (j : ℕ) (ds : List Stage) → All (EffectOk source_limits n) es → length (hold_stages j es ds) ≤ 9 * length es + length ds
  holds-few n [] j ds h = omega arith
  holds-few n (e ∷ es) j ds (h, hs) =
      omega (arith, results-few n e (move_to_hold j (result_in e) (next_additions es) ∷ hold_stages (suc j) es ds) h, holds-few n es (suc j) ds hs)

  unloads-few : (es : List Effect) (j : ℕ) → length (unload_stages lo hi j es) ≡ 2 * length es
  unloads-few [] j = refl
  unloads-few (e ∷ es) j = omega (arith, unloads-few es (suc j))

  stages-few : (n : ℕ) (es : List Effect) → length es ≤ 3 → All (EffectOk source_limits n) es → length (stages_of lo hi es) ≤ 33
  stages-few n [] l h = omega arith
  stages-few n (add_effect t c ∷ []) l h = omega arith
  stages-few n (linear_effect t w ts ∷ []) l (h, hs) = omega (arith, results-few n (linear_effect t w ts) (set_stages lo hi helper_a t []) h)
  stages-few n (quotient_effect t y c ∷ []) l h = omega arith
  stages-few n (residue_effect t y c ∷ []) l h = omega arith
  stages-few n (e ∷ f ∷ es) l h = omega (arith, l, holds-few n (e ∷ f ∷ es) 0 (unload_stages lo hi 0 (e ∷ f ∷ es)) h, unloads-few (e ∷ f ∷ es) 0)

  abs_diff : (a b : ℤ) → nat_abs (a -ℤ b) ≤ nat_abs a + nat_abs b
  abs_diff a b = omega (arith, abs-sum a (neg_ℤ b), abs_neg b)

  lift-ok : (n : ℕ) (cs : List (NumericCondition ℕ)) → All (ConditionOk source_limits n) cs → All NamedFits (on_source_variables cs)
  lift-ok n [] h = tt
  lift-ok n (c ∷ cs) (h, hs) = (one-fits c.measured c.constant h.measures, lift-ok n cs hs)
    where
      weights : (ts : List (ℕ × ℤ)) → All (AmountOk source_limits n) ts → All (λ (t : Name × ℤ). nat_abs t.1 ≤ 10_000) (on_source_terms ts)
      weights [] h = tt
      weights (t ∷ ts) (h, hs) = (h.1.1, weights ts hs)

      as_many : (ts : List (ℕ × ℤ)) → length (on_source_terms ts) ≡ length ts
      as_many [] = refl
      as_many (t ∷ ts) = ap suc (as_many ts)

      one-fits : (m : Measured ℕ) (k : ℤ) → MeasureOk source_limits n m k → MeasureFits (on_source m) k
      one-fits (variable i) k h = omega (arith, h.1)
      one-fits (weighted_sum ts) k h = (h.3, (omega (arith, as_many ts, h.1), weights ts h.2.0))

  length-lift : (cs : List (NumericCondition ℕ)) → length (on_source_variables cs) ≡ length cs
  length-lift [] = refl
  length-lift (c ∷ cs) = ap suc (length-lift cs)

  bound-few : (es : List Effect) → length (added_bound lo hi es) ≤ 1
  bound-few [] = omega arith
  bound-few (add_effect t c ∷ []) = omega arith
  bound-few (linear_effect t w ts ∷ []) = omega arith
  bound-few (quotient_effect t y c ∷ []) = omega arith
  bound-few (residue_effect t y c ∷ []) = omega arith
  bound-few (e ∷ f ∷ es) = omega arith

  bound-ok : (n : ℕ) (es : List Effect) → All (EffectOk source_limits n) es → All NamedFits (added_bound lo hi es)
  bound-ok n [] h = tt
  bound-ok n (add_effect t c ∷ []) (h, hs) = (go (lt_z (pos 0) c), tt)
    where
      go : (b : Bool) → NamedFits (cond b (when (source t) at_most (hi t -ℤ c)) (when (source t) at_least (lo t -ℤ c)))
      go true = omega (arith, abs_diff (hi t) c, hi_up t, h.1.1)
      go false = omega (arith, abs_diff (lo t) c, lo_up t, h.1.1)
  bound-ok n (linear_effect t w ts ∷ []) h = tt
  bound-ok n (quotient_effect t y c ∷ []) h = tt
  bound-ok n (residue_effect t y c ∷ []) h = tt
  bound-ok n (e ∷ f ∷ es) h = tt

  start-ok : (n : ℕ) (es : List Effect) → All (EffectOk source_limits n) es → FewAmounts (opening_additions es)
  start-ok n [] h = (omega arith, tt)
  start-ok n (add_effect t c ∷ []) (h, hs) = (omega arith, ((h.1.0, omega (arith, h.1.1)), tt))
  start-ok n (linear_effect t w ts ∷ []) (h, hs) = to-A-ok w h.1
  start-ok n (quotient_effect t y c ∷ []) h = (omega arith, tt)
  start-ok n (residue_effect t y c ∷ []) h = (omega arith, tt)
  start-ok n (e ∷ f ∷ es) (h, hs) = entering-ok n e h

  module _ (n : ℕ) (sizes : List ℕ) where
    first-ok : (z s : ℕ) (a : SourceAction) → 1 ≤ z → s + length (stages_of lo hi a.effects) ≤ z → SourceActionOk source_limits n sizes a
        → RowOk sizes z (opening_action lo hi s a)
    first-ok z s a o h k = record {
      mode_conditions_few = k.conditions_ok.mode_conditions_few;
      mode_conditions_in = k.conditions_ok.mode_conditions_in;
      conditions_few = omega (
        arith,
        k.conditions_ok.conditions_few,
        length-append (on_source_variables a.conditions) (added_bound lo hi a.effects),
        length-lift a.conditions,
        bound-few a.effects,
      );
      cs_up = all_app NamedFits (on_source_variables a.conditions) (added_bound lo hi a.effects)
          (lift-ok n a.conditions k.conditions_ok.conditions_in) (bound-ok n a.effects k.effects_ok);
      mode_effects_in = k.mode_effects_in;
      es_apart = k.mode_effects_once;
      additions_few = (start-ok n a.effects k.effects_ok).0;
      adds_up = (start-ok n a.effects k.effects_ok).1;
      control = omega (arith, o);
      next_control = entry_lt s (stages_of lo hi a.effects) z o h;
    }

    pub lower-ok : (z : ℕ) → 1 ≤ z → (acts : List SourceAction) (s : ℕ) → s + stage_count lo hi acts ≤ z → All (SourceActionOk source_limits n sizes) acts
        → All (RowOk sizes z) (lower_actions lo hi s acts)
    lower-ok z o [] s h k = tt
    lower-ok z o (a ∷ acts) s h (k, ks) = (
      first-ok z s a o (omega (arith, h)) k,
      all_app (RowOk sizes z) (stages_actions s (stages_of lo hi a.effects)) (lower_actions lo hi (s + length (stages_of lo hi a.effects)) acts)
          (rows_ok sizes z o (stages_of lo hi a.effects) s (omega (arith, h)) (stages-ok n a.effects k.effects_ok))
          (lower-ok z o acts (s + length (stages_of lo hi a.effects)) (omega (arith, h)) ks),
    )

    pub stages-count : (acts : List SourceAction) → All (SourceActionOk source_limits n sizes) acts → stage_count lo hi acts ≤ 33 * length acts
    stages-count [] h = omega arith
    stages-count (a ∷ acts) (h, hs) = omega (arith, stages-few n a.effects h.effects_few h.effects_ok, stages-count acts hs)

    widths-few : (ds : List Stage) → count_actions ds ≡ 3 * length ds
    widths-few [] = refl
    widths-few (d ∷ ds) = omega (arith, body-length 0 d, widths-few ds)

    pub lower-length : (acts : List SourceAction) (s : ℕ) → All (SourceActionOk source_limits n sizes) acts
        → length (lower_actions lo hi s acts) ≤ 100 * length acts
    lower-length [] s h = omega arith
    lower-length (a ∷ acts) s (h, hs) = omega (
      arith,
      stages-few n a.effects h.effects_few h.effects_ok,
      stages-length s (stages_of lo hi a.effects),
      widths-few (stages_of lo hi a.effects),
      length-append (stages_actions s (stages_of lo hi a.effects)) (lower_actions lo hi (s + length (stages_of lo hi a.effects)) acts),
      lower-length acts (s + length (stages_of lo hi a.effects)) hs,
    )
