-- A task that measures sums, and keeps to somewhat less than a restricted task may have, keeps to the rules on restricted tasks once its sums are
-- kept: there is room for the kept variables, for equal as two conditions, and for weight × d.
-- Assumes nothing.
use mathlib.Core.Path.{◌≡◌, refl, sym, ap, ap₂, ◌∙◌, subst}
use Prim.Native.Nat.{ℕ, zero, suc, ◌+◌, ◌*◌, ◌<◌, ◌≤◌}
use native.Mathlib.Omega.{arith}
use native.Mathlib.Nat.{mul-le-mul_right}
use mathlib.Core.Bool.{Bool, true, false, cond}
use mathlib.Core.List.{List, [], ◌∷◌, ◌++◌}
use lib.ListN.{length, length-append, length-map}
use lib.Dec.{T, eqb, eqb→eq}
use lib.IntN.{ℤ, pos, negsuc, nat_abs, ◌+ℤ◌, ◌*ℤ◌}
use borrow.Author.Tests.{ne_eqb}
use Rattle.integers.specs.All.{All}
use Rattle.integers.proofs.Products.{mul-abs}
use Rattle.model.specs.Tasks.{Measured, variable, weighted_sum, NumericCondition, RestrictedAction, RestrictedTask}
use Rattle.model.specs.Steps.{integer_at, weigh, sizes_of}
use Rattle.model.specs.FourRelations.{all_in_four_relations, in_four}
use Rattle.model.specs.Sums.{sum_in, sums_in, sums_of_actions, sums_of, kept_variable, on_kept, added_to, addition, kept_additions, kept, keeping_all, sum_values}
use Rattle.model.specs.Sums.{keep_sums}
use Rattle.model.specs.Limits.{source_limits, restricted_limits}
use Rattle.model.specs.InTask.{MeasureIn}
use Rattle.model.specs.TaskOk.{Distinct, keys, ValuesIn, InRange, AmountOk, ModeOk, MeasureOk, ConditionIn, ConditionOk, ConditionsOk}
use Rattle.model.specs.TaskOk.{RestrictedActionOk, RestrictedTaskOk}
use Rattle.model.proofs.StageWalk.{all_app, all_map}
use Rattle.model.proofs.StepBounds.{abs-sum}
use Rattle.model.proofs.FourRelations.{four-length, four-ok}
use Rattle.model.proofs.Sums.{Measures, AddsBelow}

-- ---- what is asked of a task that measures sums
abbrev pub SumFits : {I : Type 0} → List (I × ℤ) → Type 0
SumFits {I} ts = (length ts ≤ 4) × All (λ (t : I × ℤ). nat_abs t.1 ≤ 10_000) ts

abbrev pub MeasureFits : {I : Type 0} → Measured I → ℤ → Type 0
MeasureFits (variable i) k = nat_abs k ≤ 1_000_000_000
MeasureFits (weighted_sum ts) k = (nat_abs k ≤ 1_000_000_000) × SumFits ts

abbrev pub ConditionFits : ℕ → NumericCondition ℕ → Type 0
ConditionFits n c = ConditionIn n c × MeasureFits c.measured c.constant

pub record MeasuringOk (n : ℕ) (sizes : List ℕ) (a : RestrictedAction) : Type 0 where
  pub mode_conditions_few : length a.mode_conditions ≤ 16
  pub mode_conditions_in : ValuesIn sizes a.mode_conditions
  pub conditions_few : length a.conditions ≤ 9
  pub conditions_in : All (ConditionFits n) a.conditions
  pub mode_effects_in : ValuesIn sizes a.mode_effects
  pub mode_effects_once : Distinct (keys a.mode_effects)
  pub additions_few : length a.additions ≤ 3
  pub additions_in : All (AmountOk source_limits n) a.additions
  pub additions_once : Distinct (keys a.additions)

pub record MeasuringTaskOk (r : RestrictedTask) : Type 0 where
  pub starts_few : length r.starts ≤ 60
  pub starts_in : All (λ (z : ℤ). nat_abs z ≤ 10_000) r.starts
  pub modes_few : length r.modes ≤ restricted_limits.modes
  pub modes_in : All (ModeOk restricted_limits) r.modes
  pub actions_few : length r.actions ≤ restricted_limits.actions
  pub actions_ok : All (MeasuringOk (length r.starts) (sizes_of r.modes)) r.actions
  pub goal_modes_few : length r.goal_modes ≤ 16
  pub goal_modes_in : ValuesIn (sizes_of r.modes) r.goal_modes
  pub goal_few : length r.goal_conditions ≤ 9
  pub goal_in : All (ConditionFits (length r.starts)) r.goal_conditions
  pub sums_few : length (sums_of r) ≤ 4

-- ---- conditions
kept-measures : (N M : ℕ) → N ≤ M → (cs : List (NumericCondition ℕ)) (j : ℕ) → j + length (sums_in cs) ≤ M → All (ConditionFits N) cs
    → All (λ (c : NumericCondition ℕ). MeasureOk restricted_limits M c.measured c.constant) (on_kept j cs)
kept-measures N M l [] j h q = tt
kept-measures N M l (c ∷ cs) j h (q, qs) = (
  one c.measured c.constant q (omega (arith, h, length-append (sum_in c.measured) (sums_in cs))),
  kept-measures N M l cs (j + length (sum_in c.measured)) (omega (arith, h, length-append (sum_in c.measured) (sums_in cs))) qs,
)
  where
    one : (m : Measured ℕ) (k : ℤ) → MeasureIn (λ (i : ℕ). i < N) m × MeasureFits m k → j + length (sum_in m) ≤ M
        → (kept_variable j m < M) × InRange restricted_limits k
    one (variable i) k (a, b) h = (omega (arith, a, l), b)
    one (weighted_sum ts) k (a, b) h = (omega (arith, h), b.0)

kept-length : (j : ℕ) (cs : List (NumericCondition ℕ)) → length (on_kept j cs) ≡ length cs
kept-length j [] = refl
kept-length j (c ∷ cs) = ap suc (kept-length (j + length (sum_in c.measured)) cs)

-- in four relations
kept-ok : (N M : ℕ) → N ≤ M → (cs : List (NumericCondition ℕ)) (j : ℕ) → j + length (sums_in cs) ≤ M → All (ConditionFits N) cs
    → All (ConditionOk restricted_limits M) (all_in_four_relations (on_kept j cs)) × (length (all_in_four_relations (on_kept j cs)) ≤ 2 * length cs)
kept-ok N M l cs j h q = (four-ok M (on_kept j cs) (kept-measures N M l cs j h q), omega (arith, four-length (on_kept j cs), kept-length j cs))

-- the sums of conditions that fit
sums-fit : (N : ℕ) (cs : List (NumericCondition ℕ)) → All (ConditionFits N) cs → All SumFits (sums_in cs)
sums-fit N [] h = tt
sums-fit N (c ∷ cs) (h, hs) = all_app SumFits (sum_in c.measured) (sums_in cs) (one c.measured c.constant h.1) (sums-fit N cs hs)
  where
    one : (m : Measured ℕ) (k : ℤ) → MeasureFits m k → All SumFits (sum_in m)
    one (variable i) k h = tt
    one (weighted_sum ts) k h = (h.1, tt)

sums-of-actions-fit : (N : ℕ) (sizes : List ℕ) (acts : List RestrictedAction) → All (MeasuringOk N sizes) acts → All SumFits (sums_of_actions acts)
sums-of-actions-fit N sizes [] h = tt
sums-of-actions-fit N sizes (a ∷ acts) (h, hs) = all_app SumFits (sums_in a.conditions) (sums_of_actions acts)
    (sums-fit N a.conditions h.conditions_in) (sums-of-actions-fit N sizes acts hs)

-- ---- additions
product_small : (a b : ℤ) → nat_abs a ≤ 10_000 → nat_abs b ≤ 10_000 → nat_abs (a *ℤ b) ≤ 100_000_000
product_small a b h k = omega (arith, mul-abs a b, mul-le-mul_right (nat_abs b) h, k)

weigh-small : (ts : List (ℕ × ℤ)) (v : ℕ → ℤ) → ((i : ℕ) → nat_abs (v i) ≤ 10_000) → All (λ (t : ℕ × ℤ). nat_abs t.1 ≤ 10_000) ts
    → nat_abs (weigh ts v) ≤ 100_000_000 * length ts
weigh-small [] v h q = omega arith
weigh-small (t ∷ ts) v h (q, qs) = omega (arith, abs-sum (v t.0 *ℤ t.1) (weigh ts v), product_small (v t.0) t.1 (h t.0) q, weigh-small ts v h qs)

sum-small : (ts : List (ℕ × ℤ)) (v : ℕ → ℤ) → ((i : ℕ) → nat_abs (v i) ≤ 10_000) → SumFits ts → nat_abs (weigh ts v) ≤ 1_000_000_000
sum-small ts v h (few, q) = omega (arith, few, weigh-small ts v h q)

added_none : (es : List (ℕ × ℤ)) (i : ℕ) → All (λ (k : ℕ). eqb k i ≡ false) (keys es) → added_to es i ≡ pos 0
added_none [] i h = refl
added_none (e ∷ es) i (h, hs) = ap₂ (λ (b : Bool) (z : ℤ). cond b e.1 (pos 0) +ℤ z) h (added_none es i hs)

added-small : (N : ℕ) (es : List (ℕ × ℤ)) → All (AmountOk source_limits N) es → Distinct (keys es) → (i : ℕ) → nat_abs (added_to es i) ≤ 10_000
added-small N [] h d i = omega arith
added-small N (e ∷ es) (h, hs) (d, ds) i = go (eqb e.0 i) refl (added-small N es hs ds i)
  where
    go : (b : Bool) → eqb e.0 i ≡ b → nat_abs (added_to es i) ≤ 10_000 → nat_abs (cond b e.1 (pos 0) +ℤ added_to es i) ≤ 10_000
    go true q k =
        let same : e.0 ≡ i = eqb→eq e.0 i (subst T (sym q) tt) in
        let none : added_to es i ≡ pos 0 = added_none es i (subst (λ (j : ℕ). All (λ (k : ℕ). eqb k j ≡ false) (keys es)) same d) in
        omega (arith, abs-sum e.1 (added_to es i), h.1.1, ap nat_abs none)
    go false q k = omega (arith, abs-sum (pos 0) (added_to es i), k)

addition-ok : (M j : ℕ) (d : ℤ) → j < M → nat_abs d ≤ 1_000_000_000 → All (AmountOk restricted_limits M) (addition j d) × (length (addition j d) ≤ 1)
addition-ok M j (pos zero) h k = (tt, omega arith)
addition-ok M j (pos (suc n)) h k = (((h, (omega arith, k)), tt), omega arith)
addition-ok M j (negsuc n) h k = (((h, (omega arith, k)), tt), omega arith)

-- the numbers of kept variables rise from j
abbrev From : ℕ → List ℕ → Type 0
From j ks = All (λ (k : ℕ). j ≤ k) ks

from-later : (j : ℕ) (ks : List ℕ) → From (suc j) ks → From j ks
from-later j ks h = all_map (λ (k : ℕ). suc j ≤ k) (λ (k : ℕ). j ≤ k) (λ k q. omega (arith, q)) ks h

from-apart : (j : ℕ) (ks : List ℕ) → From (suc j) ks → All (λ (k : ℕ). eqb k j ≡ false) ks
from-apart j ks h = all_map (λ (k : ℕ). suc j ≤ k) (λ (k : ℕ). eqb k j ≡ false) (λ k q. ne_eqb k j (λ z. omega (arith, q, z))) ks h

addition-distinct : (j : ℕ) (d : ℤ) (rest : List (ℕ × ℤ)) → From (suc j) (keys rest) → Distinct (keys rest)
    → From j (keys (addition j d ++ rest)) × Distinct (keys (addition j d ++ rest))
addition-distinct j (pos zero) rest h q = (from-later j (keys rest) h, q)
addition-distinct j (pos (suc n)) rest h q = ((omega arith, from-later j (keys rest) h), (from-apart j (keys rest) h, q))
addition-distinct j (negsuc n) rest h q = ((omega arith, from-later j (keys rest) h), (from-apart j (keys rest) h, q))

record KeptAdditionsOk (M j count : ℕ) (es : List (ℕ × ℤ)) : Type 0 where
  few : length es ≤ count
  inside : All (AmountOk restricted_limits M) es
  rising : From j (keys es)
  once : Distinct (keys es)

kept-additions-ok : (M j : ℕ) (sums : List (List (ℕ × ℤ))) (es : List (ℕ × ℤ)) → ((i : ℕ) → nat_abs (added_to es i) ≤ 10_000) → All SumFits sums
    → j + length sums ≤ M → KeptAdditionsOk M j (length sums) (kept_additions j sums es)
kept-additions-ok M j [] es h f l = record { few = omega arith; inside = tt; rising = tt; once = tt }
kept-additions-ok M j (ts ∷ sums) es h (f, fs) l =
    let K : KeptAdditionsOk M (suc j) (length sums) (kept_additions (suc j) sums es) = kept-additions-ok M (suc j) sums es h fs (omega (arith, l)) in
    let (a, one) = addition-ok M j (weigh ts (added_to es)) (omega (arith, l)) (sum-small ts (added_to es) h f) in
    let (b, c) = addition-distinct j (weigh ts (added_to es)) (kept_additions (suc j) sums es) K.rising K.once in
    record {
      few = omega (arith, one, K.few, length-append (addition j (weigh ts (added_to es))) (kept_additions (suc j) sums es));
      inside = all_app (AmountOk restricted_limits M) (addition j (weigh ts (added_to es))) (kept_additions (suc j) sums es) a K.inside;
      rising = b;
      once = c;
    }

-- below N, then from N on
distinct-both : (N : ℕ) (xs ys : List (ℕ × ℤ)) → AddsBelow N xs → From N (keys ys) → Distinct (keys xs) → Distinct (keys ys) → Distinct (keys (xs ++ ys))
distinct-both N [] ys h f d e = e
distinct-both N (x ∷ xs) ys (h, hs) f (d, ds) e = (apart xs d, distinct-both N xs ys hs f ds e)
  where
    apart : (xs : List (ℕ × ℤ)) → All (λ (k : ℕ). eqb k x.0 ≡ false) (keys xs) → All (λ (k : ℕ). eqb k x.0 ≡ false) (keys (xs ++ ys))
    apart [] d = all_map (λ (k : ℕ). N ≤ k) (λ (k : ℕ). eqb k x.0 ≡ false) (λ k q. ne_eqb k x.0 (λ z. omega (arith, q, z, h))) (keys ys) f
    apart (y ∷ xs) (d, ds) = (d, apart xs ds)

-- ---- actions
module _ (N : ℕ) (sizes : List ℕ) (sums : List (List (ℕ × ℤ))) (fit : All SumFits sums) (few : length sums ≤ 4) where
  abbrev M : ℕ
  M = N + length sums

  below-N : (es : List (ℕ × ℤ)) → All (AmountOk source_limits N) es → AddsBelow N es
  below-N es h = all_map (AmountOk source_limits N) (λ (e : ℕ × ℤ). e.0 < N) (λ e q. q.0) es h

  wider : (es : List (ℕ × ℤ)) → All (AmountOk source_limits N) es → All (AmountOk restricted_limits M) es
  wider = all_map (AmountOk source_limits N) (AmountOk restricted_limits M) (λ e q. (omega (arith, q.0), (q.1.0, omega (arith, q.1.1))))

  keeping-ok : (j : ℕ) (a : RestrictedAction) → j + length (sums_in a.conditions) ≤ M → MeasuringOk N sizes a
      → RestrictedActionOk restricted_limits M sizes (in_four (kept N sums j a))
  keeping-ok j a l h =
      let (cs, some) = kept-ok N M (omega arith) a.conditions j l h.conditions_in in
      let small : (i : ℕ) → nat_abs (added_to es i) ≤ 10_000 = added-small N es h.additions_in h.additions_once in
      let K : KeptAdditionsOk M N (length sums) (kept_additions N sums es) = kept-additions-ok M N sums es small fit (omega arith) in
      record {
        conditions_ok = record {
          mode_conditions_few = h.mode_conditions_few;
          mode_conditions_in = h.mode_conditions_in;
          conditions_few = omega (arith, some, h.conditions_few);
          conditions_in = cs;
        };
        mode_effects_in = h.mode_effects_in;
        mode_effects_once = h.mode_effects_once;
        additions_few = omega (arith, few, K.few, h.additions_few, length-append es (kept_additions N sums es));
        additions_in = all_app (AmountOk restricted_limits M) es (kept_additions N sums es) (wider es h.additions_in) K.inside;
        additions_once = distinct-both N es (kept_additions N sums es) (below-N es h.additions_in) K.rising h.additions_once K.once;
      }
    where
      es : List (ℕ × ℤ)
      es = a.additions

  all-keeping-ok : (acts : List RestrictedAction) (j : ℕ) → j + length (sums_of_actions acts) ≤ M → All (MeasuringOk N sizes) acts
      → All (RestrictedActionOk restricted_limits M sizes) (keeping_all N sums j acts)
  all-keeping-ok [] j l h = tt
  all-keeping-ok (a ∷ acts) j l (h, hs) = (
    keeping-ok j a (omega (arith, l, length-append (sums_in a.conditions) (sums_of_actions acts))) h,
    all-keeping-ok acts (j + length (sums_in a.conditions)) (omega (arith, l, length-append (sums_in a.conditions) (sums_of_actions acts))) hs,
  )

pub keeping-length : (N : ℕ) (sums : List (List (ℕ × ℤ))) (j : ℕ) (acts : List RestrictedAction) → length (keeping_all N sums j acts) ≡ length acts
keeping-length N sums j [] = refl
keeping-length N sums j (a ∷ acts) = ap suc (keeping-length N sums (j + length (sums_in a.conditions)) acts)

-- ---- the task
values-small : (zs : List ℤ) → All (λ (z : ℤ). nat_abs z ≤ 10_000) zs → (i : ℕ) → nat_abs (integer_at zs i) ≤ 10_000
values-small [] h i = omega arith
values-small (z ∷ zs) (h, hs) zero = h
values-small (z ∷ zs) (h, hs) (suc i) = values-small zs hs i

module _ (r : RestrictedTask) (R : MeasuringTaskOk r) where
  abbrev N : ℕ
  N = length r.starts

  fits : All SumFits (sums_of r)
  fits = all_app SumFits (sums_of_actions r.actions) (sums_in r.goal_conditions)
      (sums-of-actions-fit N (sizes_of r.modes) r.actions R.actions_ok) (sums-fit N r.goal_conditions R.goal_in)

  pub kept-starts : length (keep_sums r).starts ≡ N + length (sums_of r)
  kept-starts = length-append r.starts (sum_values (sums_of r) r.starts)
      ∙ ap (λ (k : ℕ). N + k) (length-map (sums_of r) (λ ts. weigh ts (integer_at r.starts)))

  start-sums : (sums : List (List (ℕ × ℤ))) → All SumFits sums → All (InRange restricted_limits) (sum_values sums r.starts)
  start-sums [] h = tt
  start-sums (ts ∷ sums) (h, hs) = (sum-small ts (integer_at r.starts) (values-small r.starts R.starts_in) h, start-sums sums hs)

  both_sums : length (sums_of r) ≡ length (sums_of_actions r.actions) + length (sums_in r.goal_conditions)
  both_sums = length-append (sums_of_actions r.actions) (sums_in r.goal_conditions)

  goal-ok : ConditionsOk restricted_limits (N + length (sums_of r)) (sizes_of r.modes) r.goal_modes (keep_sums r).goal_conditions
  goal-ok =
      let (cs, some) = kept-ok N (N + length (sums_of r)) (omega arith) r.goal_conditions (N + length (sums_of_actions r.actions))
      (omega (arith, both_sums)) R.goal_in in
      record { mode_conditions_few = R.goal_modes_few; mode_conditions_in = R.goal_modes_in; conditions_few = omega (arith, some, R.goal_few); conditions_in = cs }

  -- THE KEPT TASK keeps to the rules on restricted tasks
  pub kept-task-ok : RestrictedTaskOk (keep_sums r)
  kept-task-ok = record {
    starts_few = omega (arith, kept-starts, R.starts_few, R.sums_few);
    starts_in = all_app (InRange restricted_limits) r.starts (sum_values (sums_of r) r.starts)
        (all_map (λ (z : ℤ). nat_abs z ≤ 10_000) (InRange restricted_limits) (λ z h. omega (arith, h)) r.starts R.starts_in)
        (start-sums (sums_of r) fits);
    modes_few = R.modes_few;
    modes_in = R.modes_in;
    actions_few = omega (arith, R.actions_few, keeping-length N (sums_of r) N r.actions);
    actions_ok = subst (λ (k : ℕ). All (RestrictedActionOk restricted_limits k (sizes_of r.modes)) (keep_sums r).actions) (sym kept-starts)
        (all-keeping-ok N (sizes_of r.modes) (sums_of r) fits R.sums_few r.actions N (omega (arith, both_sums)) R.actions_ok);
    goal = subst (λ (k : ℕ). ConditionsOk restricted_limits k (sizes_of r.modes) r.goal_modes (keep_sums r).goal_conditions) (sym kept-starts) goal-ok;
  }

  -- what the layer asks
  pub actions-measure : All (Measures N) r.actions
  actions-measure = all_map (MeasuringOk N (sizes_of r.modes)) (Measures N) (λ a h. record {
    conditions_in = all_map (ConditionFits N) (ConditionIn N) (λ c q. q.0) a.conditions h.conditions_in;
    additions_in = all_map (AmountOk source_limits N) (λ (e : ℕ × ℤ). e.0 < N) (λ e q. q.0) a.additions h.additions_in;
  }) r.actions R.actions_ok

  pub goal-measures : All (ConditionIn N) r.goal_conditions
  goal-measures = all_map (ConditionFits N) (ConditionIn N) (λ c q. q.0) r.goal_conditions R.goal_in
