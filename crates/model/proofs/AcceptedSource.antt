-- The pairing of plans asks no more of a source task than its acceptance.
-- Assumes nothing.
use mathlib.Core.Path.{◌≡◌, refl, ap, ◌∙◌, subst}
use Prim.Native.Nat.{ℕ, zero, suc, ◌+◌, ◌≤◌, ◌<◌}
use native.Mathlib.Omega.{arith}
use mathlib.Core.Bool.{Bool, true, false, cond}
use mathlib.Core.Option.{none, some}
use mathlib.Core.List.{List, [], ◌∷◌, map}
use lib.ListN.{length, length-map}
use lib.Dec.{T, eqb}
use lib.Signed.{le_z}
use lib.IntN.{ℤ, pos, negsuc, nat_abs}
use Rattle.integers.specs.All.{All}
use Rattle.integers.specs.Division.{unit_less}
use Rattle.integers.specs.Parts.{up, down}
use Rattle.integers.proofs.Parts.{ints}
use Rattle.model.specs.Tasks.{Measured, variable, weighted_sum, NumericCondition, SourceAction, Effect, add_effect, linear_effect, quotient_effect}
use Rattle.model.specs.Tasks.{residue_effect, SourceTask, SourceVariable}
use Rattle.model.specs.NamedSystems.{mode_effect_on}
use Rattle.model.specs.Steps.{integer_at, natural_at, sizes_of, lower_bounds, upper_bounds, source_start}
use Rattle.model.specs.InTask.{MeasureIn, Once, EffectIn, ActionIn, HoldsFor}
use Rattle.model.specs.Stages.{several, hold_count}
use Rattle.model.specs.Limits.{Limits, source_limits}
use Rattle.model.specs.TaskOk.{Distinct, keys, ValuesIn, Factor, AmountOk, ModeOk, MeasureOk, ConditionIn, ConditionOk, EffectOk, SourceActionOk}
use Rattle.model.specs.TaskOk.{SourceVariableOk, SourceTaskOk}
use Rattle.model.proofs.StageWalk.{all_map}
use Rattle.model.proofs.AcceptedPairing.{Accepted}
use Rattle.model.proofs.ReadingLaws.{length-keys}

-- ---- numbers that stand apart are named once
apart_none : (k : ℕ) (es : List (ℕ × ℕ)) → All (λ (j : ℕ). eqb j k ≡ false) (keys es) → mode_effect_on es k ≡ none
apart_none k [] h = refl
apart_none k (e ∷ es) (h, hs) = ap (λ (b : Bool). cond b (some e.1) (mode_effect_on es k)) h ∙ apart_none k es hs

pub apart-once : (es : List (ℕ × ℕ)) → Distinct (keys es) → Once es
apart-once [] h = tt
apart-once (e ∷ es) (h, hs) = (apart_none e.0 es h, apart-once es hs)

all_both : {A : Type 0} (P Q : A → Type 0) (l : List A) → All P l → All Q l → All (λ (x : A). P x × Q x) l
all_both P Q [] h k = tt
all_both P Q (x ∷ l) (h, hs) (k, ks) = ((h, k), all_both P Q l hs ks)

-- ---- what the pairing asks of a source action
abbrev Dec : List ℕ → List (ℕ × ℕ) → Type 0
Dec sizes ps = All (λ (p : ℕ × ℕ). p.0 < length sizes) ps

firsts : (sizes : List ℕ) (ps : List (ℕ × ℕ)) → ValuesIn sizes ps → Dec sizes ps
firsts sizes [] h = tt
firsts sizes (p ∷ ps) (h, hs) = (h.0, firsts sizes ps hs)

-- the variables of T's are declared
terms-in : (n : ℕ) (ts : List (ℕ × ℤ)) → All (AmountOk source_limits n) ts → All (λ (t : ℕ × ℤ). t.0 < n) ts
terms-in n = all_map (AmountOk source_limits n) (λ (t : ℕ × ℤ). t.0 < n) (λ t h. h.0)

measure-in : (n : ℕ) (m : Measured ℕ) (k : ℤ) → MeasureOk source_limits n m k → MeasureIn (λ (i : ℕ). i < n) m
measure-in n (variable i) k h = h.0
measure-in n (weighted_sum ts) k h = terms-in n ts h.2.0

pub conditions-in : (n : ℕ) (cs : List (NumericCondition ℕ)) → All (ConditionOk source_limits n) cs → All (ConditionIn n) cs
conditions-in n [] h = tt
conditions-in n (c ∷ cs) (h, hs) = (measure-in n c.measured c.constant h.measures, conditions-in n cs hs)

pub factor-less : (c : ℤ) → Factor source_limits c → suc (unit_less c) ≡ nat_abs c
factor-less (pos zero) h = absurd (omega (arith, h.0))
factor-less (pos (suc n)) h = refl
factor-less (negsuc n) h = refl

eff-in : (n : ℕ) (e : Effect) → EffectOk source_limits n e → EffectIn n e
eff-in n (add_effect t c) h = h.0
eff-in n (linear_effect t w ts) (h, k, f, (i, a)) = (h, terms-in n ts i)
eff-in n (quotient_effect t y c) (h, k, f) = (h, k)
eff-in n (residue_effect t y c) (h, k, f) = (h, k)

-- R has a hold for each effect of an action that has several
abbrev Held : ℕ → SourceAction → Type 0
Held holds a = several a.effects ≡ true → holds ≡ 3

holds-for : (holds : ℕ) (es : List Effect) → length es ≤ 3 → (several es ≡ true → holds ≡ 3) → HoldsFor holds es
holds-for holds [] l h = tt
holds-for holds (e ∷ []) l h = tt
holds-for holds (e ∷ f ∷ es) l h = omega (arith, l, h refl)

all_held : (acts : List SourceAction) → All (Held (hold_count acts)) acts
all_held [] = tt
all_held (a ∷ acts) = (
  (λ e. ap (λ (b : Bool). cond b 3 (hold_count acts)) e),
  all_map (Held (hold_count acts)) (Held (hold_count (a ∷ acts))) (λ x f e. go (several a.effects) (f e)) acts (all_held acts),
)
  where
    go : (b : Bool) → hold_count acts ≡ 3 → cond b 3 (hold_count acts) ≡ 3
    go true e = refl
    go false e = e

act-in : (n holds : ℕ) (sizes : List ℕ) (a : SourceAction) → SourceActionOk source_limits n sizes a × Held holds a → ActionIn n holds (length sizes) a
act-in n holds sizes a (k, f) = record {
  mode_conditions_in = firsts sizes a.mode_conditions k.conditions_ok.mode_conditions_in;
  conditions_in = conditions-in n a.conditions k.conditions_ok.conditions_in;
  mode_effects_in = firsts sizes a.mode_effects k.mode_effects_in;
  mode_effects_once = apart-once a.mode_effects k.mode_effects_once;
  effects_in = all_map (EffectOk source_limits n) (EffectIn n) (eff-in n) a.effects k.effects_ok;
  targets_once = k.targets_once;
  holds_for = holds-for holds a.effects k.effects_few f;
}

-- ---- bounds and starts
between : (C : ℕ) (a z b : ℤ) → T (le_z a z) → T (le_z z b) → nat_abs a ≤ C → nat_abs b ≤ C → nat_abs z ≤ C
between C a z b h k p q = go z (abs-pn a) (abs-pn b) h k
  where
    abs-pn : (z : ℤ) → nat_abs z ≡ up z + down z
    abs-pn (pos n) = omega arith
    abs-pn (negsuc n) = omega arith

    go : (z : ℤ) → nat_abs a ≡ up a + down a → nat_abs b ≡ up b + down b → T (le_z a z) → T (le_z z b) → nat_abs z ≤ C
    go (pos n) e f h k = omega (ints, e, f, h, k, p, q)
    go (negsuc n) e f h k = omega (ints, e, f, h, k, p, q)

pub lower-up : (vs : List SourceVariable) → All (SourceVariableOk source_limits) vs → (j : ℕ) → nat_abs (integer_at (map (λ (b : SourceVariable). b.lower) vs) j) ≤ 10_000
lower-up [] h j = omega arith
lower-up (b ∷ vs) (h, hs) zero = h.0
lower-up (b ∷ vs) (h, hs) (suc j) = lower-up vs hs j

pub upper-up : (vs : List SourceVariable) → All (SourceVariableOk source_limits) vs → (j : ℕ) → nat_abs (integer_at (map (λ (b : SourceVariable). b.upper) vs) j) ≤ 10_000
upper-up [] h j = omega arith
upper-up (b ∷ vs) (h, hs) zero = h.1
upper-up (b ∷ vs) (h, hs) (suc j) = upper-up vs hs j

pub start-in : (b : SourceVariable) → SourceVariableOk source_limits b → nat_abs b.start ≤ 1_000_000_000
start-in b h = omega (arith, between 10_000 b.lower b.start b.upper h.2 h.3 h.0 h.1)

start-good : (vs : List SourceVariable) → All (SourceVariableOk source_limits) vs → (j : ℕ)
    → T (le_z (integer_at (map (λ (b : SourceVariable). b.lower) vs) j) (integer_at (map (λ (b : SourceVariable). b.start) vs) j)) × T (le_z (integer_at (map (λ (b : SourceVariable). b.start) vs) j) (integer_at (map (λ (b : SourceVariable). b.upper) vs) j))
start-good [] h j = (tt, tt)
start-good (b ∷ vs) (h, hs) zero = (h.2, h.3)
start-good (b ∷ vs) (h, hs) (suc j) = start-good vs hs j

pub modes-below : (l : Limits) (ms : List (ℕ × ℕ)) → All (ModeOk l) ms → (j : ℕ) → j < length (map (λ (m : ℕ × ℕ). m.1) ms)
    → natural_at (map (λ (m : ℕ × ℕ). m.1) ms) j < natural_at (sizes_of ms) j
modes-below l [] h j q = absurd (omega (arith, q))
modes-below l (m ∷ ms) (h, hs) zero q = h.0
modes-below l (m ∷ ms) (h, hs) (suc j) q = modes-below l ms hs j (omega (arith, q))

-- THE SOURCE: acceptance is all that the pairing asks
module _ (t : SourceTask) (S : SourceTaskOk t) where
  abbrev n : ℕ
  n = length t.variables

  abbrev holds : ℕ
  holds = hold_count t.actions

  abbrev sizes : List ℕ
  sizes = sizes_of t.modes

  long : length sizes ≡ length t.modes
  long = length-keys t.modes

  pub accepted : Accepted n holds (length t.modes) (lower_bounds t) (upper_bounds t) t.actions sizes t.goal_modes t.goal_conditions (source_start t)
  accepted = record {
    actions_in = subst (λ (m : ℕ). All (ActionIn n holds m) t.actions) long
        (all_map (λ (a : SourceAction). SourceActionOk source_limits n sizes a × Held holds a) (ActionIn n holds (length sizes)) (act-in n holds sizes)
        t.actions (all_both (SourceActionOk source_limits n sizes) (Held holds) t.actions S.actions_ok (all_held t.actions)));
    sets = all_map (SourceActionOk source_limits n sizes) (λ (a : SourceAction). ValuesIn sizes a.mode_effects) (λ a k. k.mode_effects_in)
        t.actions S.actions_ok;
    sizes_length = long;
    goal_modes_in = subst (λ (m : ℕ). All (λ (p : ℕ × ℕ). p.0 < m) t.goal_modes) long (firsts sizes t.goal_modes S.goal.mode_conditions_in);
    goal_conditions_in = conditions-in n t.goal_conditions S.goal.conditions_in;
    values_length = length-map t.variables (λ (b : SourceVariable). b.start);
    modes_length = length-map t.modes (λ (m : ℕ × ℕ). m.1);
    good = start-good t.variables S.variables_in;
    below = modes-below source_limits t.modes S.modes_in;
  }
