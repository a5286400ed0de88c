-- The walk to a dead end, of an action whose opening applies and of whose results one is out of bounds: it goes through the stages up to the
-- Move to the first such target in file order, and lacks the last step of that, the Move's turn. So it is a front of the whole walk.
-- Assumes nothing.
use mathlib.Core.Path.{◌≡◌, refl, sym, ap, ap₂, ◌∙◌, subst}
use Prim.Native.Nat.{ℕ, zero, suc, ◌+◌, ◌-◌, ◌*◌, ◌<◌}
use native.Mathlib.Omega.{arith}
use mathlib.Core.Bool.{◌&&◌, Bool, true, false, cond}
use mathlib.Core.Option.{Option, some}
use mathlib.Core.List.{List, [], ◌∷◌, ◌++◌, append_assoc, append-nil}
use lib.ListN.{length, length-append, get_elem?, take}
use lib.Seq.{take-append_seam}
use lib.Dec.{T}
use lib.IntN.{ℤ, pos}
use lib.Signed.{le_z}
use Rattle.integers.specs.All.{All}
use Rattle.model.specs.Systems.{or_empty}
use Rattle.model.specs.Tasks.{NumericCondition, Effect, add_effect, linear_effect, quotient_effect, residue_effect, SourceAction, SourceTask, State}
use Rattle.model.specs.Steps.{conditions_hold, integer_at, within_bounds, result, results, target, lower_bounds, upper_bounds}
use Rattle.model.specs.Stages.{Name, helper_a, helper_b, Stage, turn_place, drain, refill, clear, move, drain_terms, move_to_hold, result_stages}
use Rattle.model.specs.Stages.{result_in, next_additions, hold_stages, set_stages, unload_stages, stages_of, entering_additions, single_additions}
use Rattle.model.specs.Stages.{opening_additions, opening}
use Rattle.model.specs.Expansion.{strokes, units_in, plus, after_strokes, after_stage, stage_walk, walk_to_dead_end, opened_values, all_zero, resting_values}
use Rattle.model.specs.NamedSystems.{updated, passes, after_stages, stages_price}
use Rattle.model.specs.InTask.{Distinct, targets}
use Rattle.model.specs.Following.{makes_macro, macro_numbers, dead_end_numbers}
use Rattle.model.proofs.StageWalk.{all_app}
use Rattle.model.proofs.MacroPlace.{walk-length}
use Rattle.model.proofs.StageValues.{cleared, holding, entered-with}
use Rattle.model.proofs.EffectValues.{effects, move_test, result_values, results-held, move_out, moved_out}
use Rattle.model.proofs.EffectValues.{tested-out}

-- ---- the stage whose turn is the first to fail
-- how many stages stand before it
abbrev pub stages_passed : List Stage → (Name → ℤ) → ℕ
stages_passed [] v = zero
stages_passed (d ∷ ds) v = cond (conditions_hold d.turn_conditions (after_strokes d v)) (suc (stages_passed ds (after_stage d v))) zero

-- the walk that hangs is the walk through the stages up to that one but its turn
up-to-the-turn : (b : ℕ) (ds : List Stage) (v : Name → ℤ) → passes ds v ≡ false
    → (last : ℕ) × (stage_walk b (take (suc (stages_passed ds v)) ds) v ≡ walk_to_dead_end b ds v ++ (last ∷ []))
up-to-the-turn b [] v n = absurd (subst T n tt)
up-to-the-turn b (d ∷ ds) v n = go (conditions_hold d.turn_conditions (after_strokes d v)) n (up-to-the-turn next ds (after_stage d v))
  where
    at : ℕ
    at = b + turn_place d.kind

    next : ℕ
    next = suc (b + turn_place d.kind)

    ks : List ℕ
    ks = strokes b (units_in d.kind (v d.counter))

    dead : List ℕ
    dead = walk_to_dead_end next ds (after_stage d v)

    go : (c : Bool) → (c && passes ds (after_stage d v)) ≡ false
        → (passes ds (after_stage d v) ≡ false
        → (last : ℕ) × (stage_walk next (take (suc (stages_passed ds (after_stage d v))) ds) (after_stage d v) ≡ dead ++ (last ∷ [])))
        → (last : ℕ) × (stage_walk b (take (suc (cond c (suc (stages_passed ds (after_stage d v))) zero)) (d ∷ ds)) v
        ≡ (ks ++ cond c (at ∷ dead) []) ++ (last ∷ []))
    go true n ih = let (last, w) = ih n in (last, ap (λ (l : List ℕ). ks ++ (at ∷ l)) w ∙ sym (append_assoc ks (at ∷ dead) (last ∷ [])))
    go false n ih = (at, ap (λ (l : List ℕ). l ++ (at ∷ [])) (sym (append-nil ks)))

-- a walk through the first stages is a front of the walk through all
first-stages : (b : ℕ) (ds : List Stage) (n : ℕ) (v : Name → ℤ) → (rest : List ℕ) × (stage_walk b ds v ≡ stage_walk b (take n ds) v ++ rest)
first-stages b [] zero v = ([], refl)
first-stages b [] (suc n) v = ([], refl)
first-stages b (d ∷ ds) zero v = (stage_walk b (d ∷ ds) v, refl)
first-stages b (d ∷ ds) (suc n) v =
    let (rest, w) = first-stages next ds n (after_stage d v) in
    (rest, ap (λ (l : List ℕ). ks ++ (at ∷ l)) w ∙ sym (append_assoc ks (at ∷ stage_walk next (take n ds) (after_stage d v)) rest))
  where
    at : ℕ
    at = b + turn_place d.kind

    next : ℕ
    next = suc (b + turn_place d.kind)

    ks : List ℕ
    ks = strokes b (units_in d.kind (v d.counter))

-- ---- stages whose turn asks for nothing besides are passed
abbrev Untested : Stage → Type 0
Untested d = d.turn_conditions ≡ []

untested-holds : (d : Stage) → Untested d → (v : Name → ℤ) → conditions_hold d.turn_conditions v ≡ true
untested-holds d u v = ap (λ (cs : List (NumericCondition Name)). conditions_hold cs v) u

all-passed : (front back : List Stage) (v : Name → ℤ) → All Untested front
    → stages_passed (front ++ back) v ≡ length front + stages_passed back (after_stages front v)
all-passed [] back v u = omega arith
all-passed (d ∷ front) back v (u, us) =
    ap (λ (c : Bool). cond c (suc (stages_passed (front ++ back) (after_stage d v))) zero) (untested-holds d u (after_strokes d v))
    ∙ omega (arith, all-passed front back (after_stage d v) us)

passes_on : (front back : List Stage) (v : Name → ℤ) → All Untested front → passes (front ++ back) v ≡ passes back (after_stages front v)
passes_on [] back v u = refl
passes_on (d ∷ front) back v (u, us) =
    ap (λ (c : Bool). c && passes (front ++ back) (after_stage d v)) (untested-holds d u (after_strokes d v)) ∙ passes_on front back (after_stage d v) us

-- of an effect's stages before Clear, and of the Moves into holds, none is tested; what follows them stands behind them
terms-in-front : (ts : List (ℕ × ℤ)) (rest : List Stage) → drain_terms ts rest ≡ drain_terms ts [] ++ rest
terms-in-front [] rest = refl
terms-in-front (t ∷ ts) rest = ap (λ (ds : List Stage). drain t.0 t.1 ∷ refill t.0 ∷ ds) (terms-in-front ts rest)

terms-untested : (ts : List (ℕ × ℤ)) → All Untested (drain_terms ts [])
terms-untested [] = tt
terms-untested (t ∷ ts) = (refl, (refl, terms-untested ts))

results-in-front : (e : Effect) (rest : List Stage) → result_stages e rest ≡ result_stages e [] ++ rest
results-in-front (add_effect t c) rest = refl
results-in-front (linear_effect t w ts) rest = terms-in-front ts rest
results-in-front (quotient_effect t y c) rest = refl
results-in-front (residue_effect t y c) rest = refl

results-untested : (e : Effect) → All Untested (result_stages e [])
results-untested (add_effect t c) = (refl, (refl, tt))
results-untested (linear_effect t w ts) = terms-untested ts
results-untested (quotient_effect t y c) = (refl, (refl, (refl, (refl, tt))))
results-untested (residue_effect t y c) = (refl, (refl, (refl, (refl, tt))))

holds-in-front : (j : ℕ) (es : List Effect) (rest : List Stage) → hold_stages j es rest ≡ hold_stages j es [] ++ rest
holds-in-front j [] rest = refl
holds-in-front j (e ∷ es) rest =
    ap (λ (ds : List Stage). result_stages e (into ∷ ds)) (holds-in-front (suc j) es rest)
    ∙ results-in-front e (into ∷ (hold_stages (suc j) es [] ++ rest))
    ∙ sym (append_assoc (result_stages e []) (into ∷ hold_stages (suc j) es []) rest)
    ∙ ap (λ (ds : List Stage). ds ++ rest) (sym (results-in-front e (into ∷ hold_stages (suc j) es [])))
  where
    into : Stage
    into = move_to_hold j (result_in e) (next_additions es)

holds-untested : (j : ℕ) (es : List Effect) → All Untested (hold_stages j es [])
holds-untested j [] = tt
holds-untested j (e ∷ es) = subst (All Untested) (sym (results-in-front e (into ∷ hold_stages (suc j) es [])))
    (all_app Untested (result_stages e []) (into ∷ hold_stages (suc j) es []) (results-untested e) (refl, holds-untested (suc j) es))
  where
    into : Stage
    into = move_to_hold j (result_in e) (next_additions es)

results-counted : (es : List Effect) (v : ℕ → ℤ) → length (results es v) ≡ length es
results-counted [] v = refl
results-counted (e ∷ es) v = ap suc (results-counted es v)

module _ (lo hi : ℕ → ℤ) where
  -- ---- "the first target in file order whose result is out of bounds": its place among the results
  abbrev pub first_outside : List (ℕ × ℤ) → ℕ
  first_outside [] = zero
  first_outside (p ∷ ps) = cond (le_z (lo p.0) p.1 && le_z p.1 (hi p.0)) (suc (first_outside ps)) zero

  pub one-is-outside : (ps : List (ℕ × ℤ)) → within_bounds lo hi ps ≡ false → first_outside ps < length ps
  one-is-outside [] n = absurd (subst T n tt)
  one-is-outside (p ∷ ps) n = go (le_z (lo p.0) p.1 && le_z p.1 (hi p.0)) n (one-is-outside ps)
    where
      go : (c : Bool) → (c && within_bounds lo hi ps) ≡ false → (within_bounds lo hi ps ≡ false → first_outside ps < length ps)
          → cond c (suc (first_outside ps)) zero < suc (length ps)
      go true n ih = omega (arith, ih n)
      go false n ih = omega arith

  -- the turns of a macro make the test of the source step
  macro-is-tested : (es : List Effect) (v : ℕ → ℤ) → makes_macro es ≡ true → move_test lo hi es v ≡ within_bounds lo hi (results es v)
  macro-is-tested [] v m = absurd (subst T (sym m) tt)
  macro-is-tested (add_effect t c ∷ []) v m = absurd (subst T (sym m) tt)
  macro-is-tested (linear_effect t w ts ∷ []) v m = refl
  macro-is-tested (quotient_effect t y c ∷ []) v m = refl
  macro-is-tested (residue_effect t y c ∷ []) v m = refl
  macro-is-tested (e ∷ f ∷ es) v m = refl

  unloads-length : (j : ℕ) (es : List Effect) → length (unload_stages lo hi j es) ≡ 2 * length es
  unloads-length j [] = refl
  unloads-length j (e ∷ es) = omega (arith, unloads-length (suc j) es)

  -- Clear and Move of the targets before it are passed, and its own Clear
  unloads-passed : (v : ℕ → ℤ) (es : List Effect) (j : ℕ) (u : ℕ → ℤ) (zs : List ℤ) → length zs ≡ j → within_bounds lo hi (results es v) ≡ false
      → stages_passed (unload_stages lo hi j es) (holding u (integer_at (zs ++ result_values es v))) ≡ suc (2 * first_outside (results es v))
  unloads-passed v [] j u zs l n = absurd (subst T n tt)
  unloads-passed v (e ∷ es) j u zs l n =
      subst (λ (i : ℕ). stages_passed (unload_stages lo hi i (e ∷ es)) (holding u H) ≡ suc (2 * first_outside (results (e ∷ es) v))) l
      (ap (λ (f : Name → ℤ). suc (stages_passed (move_out v lo hi e zs ∷ rest) f)) (cleared H (target e) u (pos 0) (pos 0))
      ∙ ap₂ (λ (c : Bool) (f : Name → ℤ). suc (cond c (suc (stages_passed rest f)) zero))
      (tested-out v lo hi e u zs (result_values es v)) (moved_out v lo hi e u zs (result_values es v))
      ∙ go (le_z (lo (target e)) (result e v) && le_z (result e v) (hi (target e))) n
      (λ m. ap (λ (l : List ℤ). stages_passed rest (holding w (integer_at l))) (sym (append_assoc zs (pos 0 ∷ []) (result_values es v)))
      ∙ unloads-passed v es (suc (length zs)) w (zs ++ (pos 0 ∷ [])) (length-append zs (pos 0 ∷ []) ∙ omega arith) m))
    where
      H : ℕ → ℤ
      H = integer_at (zs ++ (result e v ∷ result_values es v))

      w : ℕ → ℤ
      w = updated (target e) (result e v) u

      rest : List Stage
      rest = unload_stages lo hi (suc (length zs)) es

      after : Name → ℤ
      after = holding w (integer_at (zs ++ (pos 0 ∷ result_values es v)))

      go : (c : Bool) → (c && within_bounds lo hi (results es v)) ≡ false
          → (within_bounds lo hi (results es v) ≡ false → stages_passed rest after ≡ suc (2 * first_outside (results es v)))
          → suc (cond c (suc (stages_passed rest after)) zero) ≡ suc (2 * cond c (suc (first_outside (results es v))) zero)
      go true n ih = omega (arith, ih n)
      go false n ih = refl

  -- behind the stages of a single effect come its Clear and its Move, which is turned back
  set-passed : (t : ℕ) (from : Name) (v : Name → ℤ) → passes (set_stages lo hi from t []) v ≡ false → stages_passed (set_stages lo hi from t []) v ≡ 1
  set-passed t from v n = go (conditions_hold last.turn_conditions (after_strokes last (after_stage (clear t) v))) n
    where
      last : Stage
      last = move t from (lo t) (hi t)

      go : (c : Bool) → (c && true) ≡ false → suc (cond c (suc zero) zero) ≡ 1
      go true n = absurd (subst T n tt)
      go false n = refl

  none_before : (p : ℕ × ℤ) → within_bounds lo hi (p ∷ []) ≡ false → first_outside (p ∷ []) ≡ 0
  none_before p n = go (le_z (lo p.0) p.1 && le_z p.1 (hi p.0)) n
    where
      go : (c : Bool) → (c && true) ≡ false → cond c (suc zero) zero ≡ 0
      go true n = absurd (subst T n tt)
      go false n = refl

  -- THE STAGE THAT HANGS, counted from the last: two stages for each target behind the first whose result is out of bounds
  abbrev HangsAt : List Effect → (ℕ → ℤ) → Type 0
  HangsAt es v = suc (stages_passed (stages_of lo hi es) (plus (opening_additions es) (resting_values v))) + 2 * length es
      ≡ length (stages_of lo hi es) + 2 * suc (first_outside (results es v))

  -- of a single effect it is the last
  single-hangs : (e : Effect) (from : Name) (v : ℕ → ℤ)
      → passes (result_stages e (set_stages lo hi from (target e) [])) (plus (single_additions e) (resting_values v)) ≡ false
      → within_bounds lo hi (results (e ∷ []) v) ≡ false
      → suc (stages_passed (result_stages e (set_stages lo hi from (target e) [])) (plus (single_additions e) (resting_values v))) + 2
      ≡ length (result_stages e (set_stages lo hi from (target e) [])) + 2 * suc (first_outside (results (e ∷ []) v))
  single-hangs e from v n out =
      let back : passes set (after_stages front v₀) ≡ false
      = sym (ap (λ (ds : List Stage). passes ds v₀) (results-in-front e set) ∙ passes_on front set v₀ (results-untested e)) ∙ n in
      let passed : stages_passed (result_stages e set) v₀ ≡ length front + stages_passed set (after_stages front v₀)
      = ap (λ (ds : List Stage). stages_passed ds v₀) (results-in-front e set) ∙ all-passed front set v₀ (results-untested e) in
      omega (
        arith,
        passed,
        set-passed (target e) from (after_stages front v₀) back,
        none_before (target e, result e v) out,
        ap length (results-in-front e set),
        length-append front set,
      )
    where
      v₀ : Name → ℤ
      v₀ = plus (single_additions e) (resting_values v)

      front : List Stage
      front = result_stages e []

      set : List Stage
      set = set_stages lo hi from (target e) []

  hangs-at : (es : List Effect) (v : ℕ → ℤ) → makes_macro es ≡ true → within_bounds lo hi (results es v) ≡ false → HangsAt es v
  hangs-at [] v m out = absurd (subst T (sym m) tt)
  hangs-at (add_effect t c ∷ []) v m out = absurd (subst T (sym m) tt)
  hangs-at (linear_effect t w ts ∷ []) v m out =
      single-hangs (linear_effect t w ts) helper_a v ((effects lo hi (linear_effect t w ts ∷ []) v (tt, tt)).runs.passing ∙ out) out
  hangs-at (quotient_effect t y c ∷ []) v m out =
      single-hangs (quotient_effect t y c) helper_b v ((effects lo hi (quotient_effect t y c ∷ []) v (tt, tt)).runs.passing ∙ out) out
  hangs-at (residue_effect t y c ∷ []) v m out =
      single-hangs (residue_effect t y c) helper_a v ((effects lo hi (residue_effect t y c ∷ []) v (tt, tt)).runs.passing ∙ out) out
  hangs-at (e ∷ f ∷ es) v m out =
      let held : after_stages front v₀ ≡ holding v (integer_at (result_values all v)) = ap (after_stages front) (entered-with e v all_zero) ∙ results-held v all in
      let passed : stages_passed (stages_of lo hi all) v₀ ≡ length front + stages_passed out-of-holds (holding v (integer_at (result_values all v)))
      = ap (λ (ds : List Stage). stages_passed ds v₀) (holds-in-front 0 all out-of-holds) ∙ all-passed front out-of-holds v₀ (holds-untested 0 all)
      ∙ ap (λ (u : Name → ℤ). length front + stages_passed out-of-holds u) held in
      omega (
        arith,
        passed,
        unloads-passed v all 0 v [] refl out,
        ap length (holds-in-front 0 all out-of-holds),
        length-append front out-of-holds,
        unloads-length 0 all,
      )
    where
      all : List Effect
      all = e ∷ f ∷ es

      v₀ : Name → ℤ
      v₀ = plus (entering_additions e) (resting_values v)

      front : List Stage
      front = hold_stages 0 all []

      out-of-holds : List Stage
      out-of-holds = unload_stages lo hi 0 all

-- ---- of a task: action k, a macro, in a state in which one of its results is out of bounds
module _ (t : SourceTask) (x : State) (k : ℕ) (a : SourceAction) (e : get_elem? t.actions k ≡ some a) (several : makes_macro a.effects ≡ true)
    (once : Distinct (targets a.effects))
    (out : within_bounds (lower_bounds t) (upper_bounds t) (results a.effects (integer_at x.values)) ≡ false) where
  abbrev v : ℕ → ℤ
  v = integer_at x.values

  abbrev number : ℕ
  number = opening (lower_bounds t) (upper_bounds t) t.actions k

  abbrev stages : SourceAction → List Stage
  stages b = stages_of (lower_bounds t) (upper_bounds t) b.effects

  -- the stages that its walk goes into: all but Clear and Move of each target behind the first whose result is out of bounds
  abbrev pub entered : ℕ
  entered = length (stages a) - 2 * (length a.effects - suc (first_outside (lower_bounds t) (upper_bounds t) (results a.effects v)))

  abbrev pub stages_entered : List Stage
  stages_entered = take entered (stages a)

  as-far-as-they-pass : entered ≡ suc (stages_passed (stages a) (opened_values a v))
  as-far-as-they-pass = omega (
    arith,
    hangs-at (lower_bounds t) (upper_bounds t) a.effects v several out,
    one-is-outside (lower_bounds t) (upper_bounds t) (results a.effects v) out,
    results-counted a.effects v,
  )

  pub dead-end-lacks-the-turn : (last : ℕ) × (number ∷ stage_walk (suc number) stages_entered (opened_values a v) ≡ dead_end_numbers t x k ++ (last ∷ []))
  dead-end-lacks-the-turn =
      let back : passes (stages a) (opened_values a v) ≡ false
      = (effects (lower_bounds t) (upper_bounds t) a.effects v once).runs.passing ∙ macro-is-tested (lower_bounds t) (upper_bounds t) a.effects v several
      ∙ out in
      let (last, w) = up-to-the-turn (suc number) (stages a) (opened_values a v) back in (
        last,
        ap (λ (l : List ℕ). number ∷ l)
            (ap (λ (n : ℕ). stage_walk (suc number) (take n (stages a)) (opened_values a v)) as-far-as-they-pass ∙ w
            ∙ ap (λ (o : Option SourceAction). or_empty o (λ b. walk_to_dead_end (suc number) (stages b) (opened_values b v)) ++ (last ∷ [])) (sym e)),
      )

  -- how many numbers it has
  pub dead-end-length : length (dead_end_numbers t x k) ≡ stages_price stages_entered (opened_values a v)
  dead-end-length =
      let (last, w) = dead-end-lacks-the-turn in
      omega (arith, ap length w, length-append (dead_end_numbers t x k) (last ∷ []), walk-length (suc number) stages_entered (opened_values a v))

  -- so it is a front of all numbers that the action becomes
  pub dead-end-is-a-front : dead_end_numbers t x k ≡ take (stages_price stages_entered (opened_values a v)) (macro_numbers t x k)
  dead-end-is-a-front =
      let (last, w) = dead-end-lacks-the-turn in
      let (rest, f) = first-stages (suc number) (stages a) entered (opened_values a v) in
      let all : macro_numbers t x k ≡ dead_end_numbers t x k ++ (last ∷ rest)
      = ap (λ (l : List ℕ). number ∷ l) (ap (λ (o : Option SourceAction). or_empty o (λ b. stage_walk (suc number) (stages b) (opened_values b v))) e ∙ f)
      ∙ ap (λ (l : List ℕ). l ++ rest) w ∙ append_assoc (dead_end_numbers t x k) (last ∷ []) rest in
      sym (ap₂ take (sym dead-end-length) all ∙ take-append_seam (dead_end_numbers t x k) (last ∷ rest))
