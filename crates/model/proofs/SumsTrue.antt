-- "At every state that R reaches from its start the kept value equals its sum, mid-macro included": by a plan of any length.
-- Assumes nothing.
use mathlib.Core.Path.{◌≡◌, refl, sym, ap, ap₂, ◌∙◌, subst}
use Prim.Native.Nat.{ℕ, zero, suc, ◌+◌, ◌<◌}
use native.Mathlib.Omega.{arith}
use native.Mathlib.Nat.{add-zero}
use mathlib.Core.Bool.{Bool, true, false, cond}
use mathlib.Core.Option.{Option, none, some, none-ne-some}
use mathlib.Core.List.{List, [], ◌∷◌}
use lib.ListN.{length, get_elem?}
use lib.IntN.{ℤ, ◌+ℤ◌, ◌*ℤ◌}
use Rattle.integers.specs.All.{All}
use Rattle.model.specs.Systems.{run_plan, guarded}
use Rattle.model.specs.Tasks.{Measured, variable, weighted_sum, NumericCondition, RestrictedAction, SourceTask, RestrictedTask, State}
use Rattle.model.specs.Steps.{integer_at, weigh, restricted_step_of, sound_restricted, sizes_of, source_start, restricted_start, step_restricted}
use Rattle.model.specs.Stages.{hold_count}
use Rattle.model.specs.Sums.{sum_in, sums_in, sums_of_actions, sums_of, with_sums}
use Rattle.model.specs.Lowering.{helpers_at_rest, lower_measuring, lower_task, SumsTrue}
use Rattle.model.specs.InTask.{MeasureIn}
use Rattle.model.specs.TaskOk.{ConditionIn, SourceTaskOk}
use Rattle.model.proofs.Pairing.{bind-gives, some-injective}
use Rattle.model.proofs.StageWalk.{all_app, all-get}
use Rattle.model.proofs.Follow.{run-keeps}
use Rattle.model.proofs.NumberedPairing.{agree_left}
use Rattle.model.proofs.Sums.{Slots, slots-of, before-sums, AddsBelow, Measures}
use Rattle.model.proofs.KeptOk.{actions-measure, goal-measures}
use Rattle.model.proofs.LoweredSums.{sums-in-file-order}
use Rattle.model.proofs.LoweredOk.{measuring-starts, measuring-task-ok}
use Rattle.model.proofs.LoweredPairing.{Kept, kept-steps, rest-of-start}

-- what a guarded step gives, the step gives
guarded-gives : {X : Type 0} (ok : X → Bool) (step : X → ℕ → Option X) (x y : X) (k : ℕ) → guarded ok step x k ≡ some y → step x k ≡ some y
guarded-gives {X} ok step x y k e =
    let (z, e₁, e₂) = bind-gives (step x k) (λ y. cond (ok x) (cond (ok y) (some y) none) none) y e in e₁ ∙ tested (ok x) (ok z) z e₂
  where
    tested : (a b : Bool) (z : X) → cond a (cond b (some z) none) none ≡ some y → some z ≡ some y
    tested true true z e = e
    tested true false z e = absurd (none-ne-some y e)
    tested false b z e = absurd (none-ne-some y e)

slot_at : (W v : ℕ → ℤ) (j : ℕ) (sums : List (List (ℕ × ℤ))) (k : ℕ) (ts : List (ℕ × ℤ)) → Slots W v j sums → get_elem? sums k ≡ some ts
    → W (j + k) ≡ weigh ts v
slot_at W v j [] k ts s e = absurd (none-ne-some ts e)
slot_at W v j (x ∷ sums) zero ts (s, ss) e = ap W (add-zero j) ∙ s ∙ ap (λ (y : List (ℕ × ℤ)). weigh y v) (some-injective e)
slot_at W v j (x ∷ sums) (suc k) ts (s, ss) e = ap W (tidy j k) ∙ slot_at W v (suc j) sums k ts ss e
  where
    tidy : (a b : ℕ) → a + suc b ≡ suc a + b
    tidy a b = omega arith

weigh-same : (N : ℕ) (ts : List (ℕ × ℤ)) (v w : ℕ → ℤ) → ((i : ℕ) → i < N → v i ≡ w i) → AddsBelow N ts → weigh ts v ≡ weigh ts w
weigh-same N [] v w h q = refl
weigh-same N (t ∷ ts) v w h (q, qs) = ap₂ (λ (x y : ℤ). x *ℤ t.1 +ℤ y) (h t.0 q) (weigh-same N ts v w h qs)

-- the terms of every sum are declared
sums-declared : (N : ℕ) (cs : List (NumericCondition ℕ)) → All (ConditionIn N) cs → All (AddsBelow N) (sums_in cs)
sums-declared N [] h = tt
sums-declared N (c ∷ cs) (h, hs) = all_app (AddsBelow N) (sum_in c.measured) (sums_in cs) (one c.measured h) (sums-declared N cs hs)
  where
    one : (m : Measured ℕ) → MeasureIn (λ (i : ℕ). i < N) m → All (AddsBelow N) (sum_in m)
    one (variable i) h = tt
    one (weighted_sum ts) h = (h, tt)

all-sums-declared : (N : ℕ) (acts : List RestrictedAction) → All (Measures N) acts → All (AddsBelow N) (sums_of_actions acts)
all-sums-declared N [] h = tt
all-sums-declared N (a ∷ acts) (h, hs) =
    all_app (AddsBelow N) (sums_in a.conditions) (sums_of_actions acts) (sums-declared N a.conditions h.conditions_in) (all-sums-declared N acts hs)

module _ (t : SourceTask) (S : SourceTaskOk t) where
  abbrev r : RestrictedTask
  r = lower_measuring t

  abbrev N : ℕ
  N = length r.starts

  declared : All (AddsBelow N) (sums_of r)
  declared =
      let M = measuring-task-ok t S in
      all_app (AddsBelow N) (sums_of_actions r.actions) (sums_in r.goal_conditions)
      (all-sums-declared N r.actions (actions-measure r M)) (sums-declared N r.goal_conditions (goal-measures r M))

  sums-true : (y : State) → length y.values ≡ N → SumsTrue t (with_sums (sums_of r) y)
  sums-true y e j ts k =
      ap (λ (i : ℕ). W (i + j)) (sym (e ∙ measuring-starts t S))
      ∙ slot_at W (integer_at y.values) (length y.values) (sums_of r) j ts (slots-of (sums_of r) y) there
      ∙ sym (weigh-same N ts W (integer_at y.values) (before-sums N (sums_of r) y e) (all-get (AddsBelow N) (sums_of r) j ts declared there))
    where
      W : ℕ → ℤ
      W = integer_at (with_sums (sums_of r) y).values

      there : get_elem? (sums_of r) j ≡ some ts
      there = ap (λ (l : List (List (ℕ × ℤ))). get_elem? l j) (sums-in-file-order t) ∙ k

  -- a state of R that has its sums behind the values of some state
  abbrev HasSums : State → Type 0
  HasSums X = (x : State) × Kept t X x

  steps-keep : (X Y : State) (k : ℕ) → HasSums X → step_restricted (lower_task t) X k ≡ some Y → HasSums Y
  steps-keep X Y k (x, h) e =
      let e' = guarded-gives (sound_restricted (sizes_of (lower_task t).modes)) (restricted_step_of (lower_task t).actions) X Y k e in
      let (y, _, h') = agree_left (Kept t) (restricted_step_of (lower_task t).actions X k) (restricted_step_of r.actions x k) Y (kept-steps t S X x k h) e' in
      (y, h')

  pub sums-true-where-R-comes : (q : List ℕ) (x : State)
      → run_plan (step_restricted (lower_task t)) q (restricted_start (lower_task t)) ≡ some x → SumsTrue t x
  sums-true-where-R-comes q x w =
      let (y, (e, k)) = run-keeps (step_restricted (lower_task t)) (λ i. HasSums) (λ i. steps-keep) q 0 (restricted_start (lower_task t)) x
      (helpers_at_rest (hold_count t.actions) (source_start t), (refl, sym (rest-of-start t S))) w in
      subst (SumsTrue t) (sym k) (sums-true y e)
