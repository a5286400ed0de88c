-- A step by its tests, in the order in which the code makes them; and that it is the model's step of an accepted task.
-- Assumes nothing.
use mathlib.Core.Path.{◌≡◌, refl, sym, ap, ◌∙◌}
use Prim.Native.Nat.{ℕ, zero, suc, ◌≤◌}
use native.Mathlib.Omega.{arith}
use mathlib.Core.Bool.{Bool, true, false, cond, not, false≢true, ◌&&◌}
use mathlib.Core.Option.{Option, none, some}
use mathlib.Core.List.{List, [], ◌∷◌, map}
use lib.ListN.{length, get_or, get_elem?}
use Rattle.integers.specs.All.{All}
use lib.IntN.{ℤ, nat_abs}
use lib.Signed.{le_z}
use borrow.Author.Tests.{le-leb, lt-leb}
use Rattle.integers.specs.Relation.{within_limit}
use Rattle.integers.proofs.Parts.{ints, abs}
use Rattle.lists.proofs.Loops.{and_left, and_right}
use Rattle.model.specs.Limits.{source_limits}
use Rattle.model.specs.TaskOk.{AmountOk, EffectOk, SourceActionOk, SourceVariableOk, SourceTaskOk}
use Rattle.model.proofs.StageWalk.{all-get, all_map}
use Rattle.lists.specs.Loops.{every}
use Rattle.model.specs.Tasks.{Effect, add_effect, linear_effect, quotient_effect, residue_effect, SourceAction, SourceVariable, SourceTask, State}
use Rattle.model.specs.Systems.{bind, provided}
use Rattle.model.specs.Steps.{integer_at, natural_at, modes_hold, conditions_hold, within_bounds, results, set_all, try_source, values_within_bounds, modes_below_sizes, sound_source, lower_bounds, upper_bounds, sizes_of, step_source}
use Rattle.source_step.specs.Parts.{small, term_fits, effect_fits, effects_fit}
use Rattle.source_step.specs.Step.{step_of}
use Rattle.source_step.proofs.Sound.{put-stays}

-- the state that an action makes
abbrev pub after : State → SourceAction → State
after x a = record { values = set_all (results a.effects (integer_at x.values)) x.values; modes = set_all a.mode_effects x.modes }

-- tests, one after the other
abbrev pub asked : {A : Type 0} → List Bool → A → Option A
asked [] y = some y
asked (b ∷ bs) y = cond b (asked bs y) none

none-either : {A : Type 0} (n : Bool) → ◌≡◌ {A = Option A} none (cond n none none)
none-either true = refl
none-either false = refl

pub one-fails : {A : Type 0} (bs : List Bool) (i : ℕ) (y : A) → get_or bs i true ≡ false → asked bs y ≡ none
one-fails [] i y e = absurd (false≢true (sym e))
one-fails (b ∷ bs) zero y e = ap (λ (x : Bool). cond x (asked bs y) none) e
one-fails (b ∷ bs) (suc i) y e = ap (λ (o : Option _). cond b o none) (one-fails bs i y e) ∙ sym (none-either b)

pub all_pass : {A : Type 0} (bs : List Bool) (y : A) → All (λ (b : Bool). b ≡ true) bs → asked bs y ≡ some y
all_pass [] y h = refl
all_pass (b ∷ bs) y (e, h) = ap (λ (x : Bool). cond x (asked bs y) none) e ∙ all_pass bs y h

none_after : {A : Type 0} (n : Bool) (y : A) → ◌≡◌ {A = Option A} (bind (provided n y) (λ (z : A). none)) none
none_after true y = refl
none_after false y = refl

reordered : {A : Type 0} (okv okm : A → Bool) (y : A) (v m p c f w : Bool) → (v ≡ true → w ≡ true → okv y ≡ true)
    → cond f (bind (provided (p && c && w) y) (λ z. cond (v && m) (cond (okv z && okm z) (some z) none) none)) none ≡ asked (v ∷ m ∷ p ∷ c ∷ f ∷ okm y ∷ w ∷ []) y
reordered okv okm y true true true true true true h = rw (h refl refl)
reordered okv okm y true true true true true false h = none-either (okm y)
reordered okv okm y true true true true false w h = refl
reordered okv okm y true true true false true w h = refl
reordered okv okm y true true true false false w h = refl
reordered okv okm y true true false c true w h = refl
reordered okv okm y true true false c false w h = refl
reordered okv okm y true false p c true w h = none_after (p && c && w) y
reordered okv okm y true false p c false w h = refl
reordered okv okm y false m p c true w h = none_after (p && c && w) y
reordered okv okm y false m p c false w h = refl

module _ (lower upper : List ℤ) (sizes : List ℕ) (x : State) (a : SourceAction) where
  abbrev pub tests : List Bool
  tests =
      values_within_bounds (integer_at lower) (integer_at upper) x.values
      ∷ modes_below_sizes sizes x.modes
      ∷ modes_hold a.mode_conditions (natural_at x.modes)
      ∷ conditions_hold a.conditions (integer_at x.values)
      ∷ effects_fit a.effects (integer_at x.values)
      ∷ modes_below_sizes sizes (set_all a.mode_effects x.modes)
      ∷ within_bounds (integer_at lower) (integer_at upper) (results a.effects (integer_at x.values))
      ∷ []

  pub step-asks : step_of lower upper sizes x a ≡ asked tests (after x a)
  unfolding step_of
  step-asks =
      reordered (λ (z : State). values_within_bounds (integer_at lower) (integer_at upper) z.values) (λ (z : State). modes_below_sizes sizes z.modes) (after x a)
      (values_within_bounds (integer_at lower) (integer_at upper) x.values) (modes_below_sizes sizes x.modes) (modes_hold a.mode_conditions (natural_at x.modes)) (conditions_hold a.conditions (integer_at x.values))
      (effects_fit a.effects (integer_at x.values)) (within_bounds (integer_at lower) (integer_at upper) (results a.effects (integer_at x.values)))
      (put-stays (integer_at lower) (integer_at upper) (results a.effects (integer_at x.values)) x.values)

-- ---- a task that keeps to the rules on source files: a step by its action is the model's step by number
pub within_all : (f : SourceVariable → ℤ) (vs : List SourceVariable) → All (λ (b : SourceVariable). nat_abs (f b) ≤ 10_000) vs → (j : ℕ) → nat_abs (integer_at (map f vs) j) ≤ 10_000
within_all f [] h j = omega arith
within_all f (b ∷ vs) (h, hs) zero = h
within_all f (b ∷ vs) (h, hs) (suc j) = within_all f vs hs j

bounded : (lower upper : ℕ → ℤ) → ((j : ℕ) → nat_abs (lower j) ≤ 10_000) → ((j : ℕ) → nat_abs (upper j) ≤ 10_000) → (l : List ℤ) → values_within_bounds lower upper l ≡ true → (j : ℕ) → nat_abs (integer_at l j) ≤ 10_000
bounded lower upper lo hi [] h j = omega arith
bounded lower upper lo hi (z ∷ l) h zero =
    let b = and_left (le_z (lower 0) z && le_z z (upper 0)) _ h in
    let p = and_left (le_z (lower 0) z) (le_z z (upper 0)) b in
    let q = and_right (le_z (lower 0) z) (le_z z (upper 0)) b in
    omega (ints, p, q, abs z, abs (lower 0), abs (upper 0), lo 0, hi 0)
bounded lower upper lo hi (z ∷ l) h (suc j) = bounded (λ i. lower (suc i)) (λ i. upper (suc i)) (λ i. lo (suc i)) (λ i. hi (suc i)) l (and_right (le_z (lower 0) z && le_z z (upper 0)) _ h) j

both : (a b : Bool) → a ≡ true → b ≡ true → (a && b) ≡ true
both true b e f = f
both false b e f = e

near : (z : ℤ) → nat_abs z ≤ 10_000 → small z ≡ true
near z h = le-leb (nat_abs z) 10_000 h

not-zero : (z : ℤ) → 1 ≤ nat_abs z → not (within_limit 0 z) ≡ true
not-zero z h = ap not (lt-leb (nat_abs z) 0 h)

terms-near : (n : ℕ) (v : ℕ → ℤ) → ((j : ℕ) → nat_abs (v j) ≤ 10_000) → (ts : List (ℕ × ℤ)) → All (AmountOk source_limits n) ts → every (term_fits v) ts ≡ true
terms-near n v h [] o = refl
terms-near n v h (t ∷ ts) (o, os) = both _ _ (both _ _ (near (v t.0) (h t.0)) (near t.1 o.1.1)) (terms-near n v h ts os)

effect-near : (n : ℕ) (v : ℕ → ℤ) → ((j : ℕ) → nat_abs (v j) ≤ 10_000) → (e : Effect) → EffectOk source_limits n e → effect_fits e v ≡ true
effect-near n v h (add_effect t c) o = both _ _ (near (v t) (h t)) (near c o.1.1)
effect-near n v h (linear_effect t w ts) o = both _ _ (both _ _ (near (v t) (h t)) (near w o.1)) (terms-near n v h ts o.3.0)
effect-near n v h (quotient_effect t y c) o = both _ _ (both _ _ (near (v t) (h t)) (near (v y) (h y))) (both _ _ (near c o.2.1) (not-zero c o.2.0))
effect-near n v h (residue_effect t y c) o = both _ _ (both _ _ (near (v t) (h t)) (near (v y) (h y))) (both _ _ (near c o.2.1) (not-zero c o.2.0))

pub effects-near : (n : ℕ) (v : ℕ → ℤ) → ((j : ℕ) → nat_abs (v j) ≤ 10_000) → (es : List Effect) → All (EffectOk source_limits n) es → effects_fit es v ≡ true
effects-near n v h [] o = refl
effects-near n v h (e ∷ es) (o, os) = both _ _ (effect-near n v h e o) (effects-near n v h es os)

chosen : {A : Type 0} (f s : Bool) (o p : Option A) → (s ≡ true → f ≡ true) → (s ≡ false → p ≡ none) → o ≡ p → cond f o none ≡ p
chosen true s o p h k e = e
chosen false true o p h k e = absurd (false≢true (h refl))
chosen false false o p h k e = sym (k refl)

unsound : {A : Type 0} (o : Option A) (ok : A → Bool) → ◌≡◌ {A = Option A} (bind o (λ (y : A). cond false (cond (ok y) (some y) none) none)) none
unsound none ok = refl
unsound (some y) ok = refl

module _ (t : SourceTask) (ok : SourceTaskOk t) where
  pub values-near : (x : State) → sound_source (lower_bounds t) (upper_bounds t) (sizes_of t.modes) x ≡ true → (j : ℕ) → nat_abs (integer_at x.values j) ≤ 10_000
  values-near x s =
      bounded (lower_bounds t) (upper_bounds t)
      (within_all (λ (b : SourceVariable). b.lower) t.variables (all_map (SourceVariableOk source_limits) (λ (b : SourceVariable). nat_abs b.lower ≤ 10_000) (λ b h. h.0) t.variables ok.variables_in))
      (within_all (λ (b : SourceVariable). b.upper) t.variables (all_map (SourceVariableOk source_limits) (λ (b : SourceVariable). nat_abs b.upper ≤ 10_000) (λ b h. h.1) t.variables ok.variables_in))
      x.values (and_left (values_within_bounds (lower_bounds t) (upper_bounds t) x.values) (modes_below_sizes (sizes_of t.modes) x.modes) s)

  -- in a state within its bounds the effects of each action fit, whether the action applies or not
  pub effects-of-task-fit : (x : State) → sound_source (lower_bounds t) (upper_bounds t) (sizes_of t.modes) x ≡ true
      → (k : ℕ) (a : SourceAction) → get_elem? t.actions k ≡ some a → effects_fit a.effects (integer_at x.values) ≡ true
  effects-of-task-fit x s k a e =
      effects-near (length t.variables) (integer_at x.values) (values-near x s) a.effects (all-get (SourceActionOk source_limits (length t.variables) (sizes_of t.modes)) t.actions k a ok.actions_ok e).effects_ok

  -- THE LAW
  pub step-of-task : (x : State) (k : ℕ) (a : SourceAction) → get_elem? t.actions k ≡ some a
      → step_of (map (λ (b : SourceVariable). b.lower) t.variables) (map (λ (b : SourceVariable). b.upper) t.variables) (sizes_of t.modes) x a ≡ step_source t x k
  unfolding step_of
  step-of-task x k a e =
      let sound = sound_source (lower_bounds t) (upper_bounds t) (sizes_of t.modes) in
      let after_try : Option State → Option State = λ (o : Option State). bind o (λ (y : State). cond (sound x) (cond (sound y) (some y) none) none) in
      let same : after_try (try_source (lower_bounds t) (upper_bounds t) x a) ≡ step_source t x k = ap (λ (o : Option SourceAction). after_try (bind o (try_source (lower_bounds t) (upper_bounds t) x))) (sym e) in
      chosen (effects_fit a.effects (integer_at x.values)) (sound x) (after_try (try_source (lower_bounds t) (upper_bounds t) x a)) (step_source t x k)
      (λ s. effects-of-task-fit x s k a e)
      (λ s. sym same ∙ ap (λ (b : Bool). bind (try_source (lower_bounds t) (upper_bounds t) x a) (λ (y : State). cond b (cond (sound y) (some y) none) none)) s ∙ unsound (try_source (lower_bounds t) (upper_bounds t) x a) sound)
      same
