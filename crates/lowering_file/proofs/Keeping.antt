-- R against the task that measures its sums: the actions one behind another, each with its own sums; the starts; that the sums of the row keep
-- what those of the file do, since they weigh alike; and that where there is no sum any number stands for the first kept variable.
-- Assumes nothing.
use mathlib.Core.Path.{◌≡◌, refl, sym, ap, ap₂, ◌∙◌}
use mathlib.Core.List.{List, [], ◌∷◌, ◌++◌, append-nil}
use Prim.Native.Nat.{ℕ, zero, suc, ◌+◌}
use native.Mathlib.Nat.{add-zero}
use native.Mathlib.Omega.{arith}
use lib.IntN.{ℤ, pos, ◌+ℤ◌, ◌*ℤ◌}
use lib.ListN.{length, replicate, length-append}
use Rattle.model.specs.Tasks.{Measured, variable, weighted_sum, NumericCondition, SourceAction, RestrictedAction, SourceTask}
use Rattle.model.specs.Steps.{integer_at, weigh, lower_bounds, upper_bounds, source_start}
use Rattle.model.specs.Stages.{Stage, stages_actions, on_source_variables, stages_of, added_bound, macro, hold_count}
use Rattle.model.specs.FourRelations.{in_four}
use Rattle.model.specs.Sums.{sum_in, sums_in, sums_of_actions, sums_of, sums_of_source, kept_variable, on_kept, kept, keeping_all, sum_values}
use Rattle.model.specs.Lowering.{numbered_conditions, numbered_all, resting_helpers, lower_measuring, lower_task}
use Rattle.model.proofs.Arrays.{replicated}
use Rattle.model.proofs.LoweredSums.{sums-in-file-order}
use Rattle.source_sums.specs.Found.{task_of}
use Rattle.lowering_sums.proofs.Measuring.{kept_same, values_same}
use Rattle.lowering_file.specs.Held.{measuring, Kept, sums_is, KeptOf, goal_sum, GoalFrom}
use Rattle.source_sums.proofs.Own.{none_of}

-- ---- actions one behind another
pub sums-behind : (xs ys : List RestrictedAction) → length (sums_of_actions (xs ++ ys)) ≡ length (sums_of_actions xs) + length (sums_of_actions ys)
sums-behind [] ys = omega arith
sums-behind (x ∷ xs) ys =
    let s = sums_in x.conditions in
    omega (arith, sums-behind xs ys, length-append s (sums_of_actions (xs ++ ys)), length-append s (sums_of_actions xs))

module _ (first : ℕ) (sums : List (List (ℕ × ℤ))) where
  pub keeping-append : (xs ys : List RestrictedAction) (j : ℕ)
      → keeping_all first sums j (xs ++ ys) ≡ keeping_all first sums j xs ++ keeping_all first sums (j + length (sums_of_actions xs)) ys
  keeping-append [] ys j = ap (λ (k : ℕ). keeping_all first sums k ys) (sym (add-zero j))
  keeping-append (x ∷ xs) ys j =
      let s = sums_in x.conditions in
      let e : j + length s + length (sums_of_actions xs) ≡ j + length (s ++ sums_of_actions xs) = omega (arith, length-append s (sums_of_actions xs)) in
      ap (λ (z : List RestrictedAction). in_four (kept first sums j x) ∷ z) (keeping-append xs ys (j + length s)
      ∙ ap (λ (k : ℕ). keeping_all first sums (j + length s) xs ++ keeping_all first sums k ys) e)

-- ---- what a source action becomes measures its sums: as a task of that action alone does, whatever its stages are numbered from
stages-measure : (n m : ℕ) (ds : List Stage) (s t : ℕ)
    → sums_of_actions (numbered_all n m (stages_actions s ds)) ≡ sums_of_actions (numbered_all n m (stages_actions t ds))
stages-measure n m [] s t = refl
stages-measure n m (d ∷ ds) s t =
    ap (λ (z : List (List (ℕ × ℤ))). sums_in (numbered_conditions n d.turn_conditions) ++ z) (stages-measure n m ds (suc s) (suc t))

pub macro-measures : (u : SourceTask) (a : SourceAction) (from : ℕ)
    → length (sums_of_actions (numbered_all (length u.variables) (length u.modes) (macro (lower_bounds u) (upper_bounds u) from a)))
    ≡ length (sums_in a.conditions)
macro-measures u a from =
    let n = length u.variables in
    let m = length u.modes in
    let lo = lower_bounds u in
    let hi = upper_bounds u in
    let alone : SourceTask = record { variables = u.variables; modes = u.modes; actions = a ∷ []; goal_modes = []; goal_conditions = [] } in
    let own = sums_in a.conditions in
    let actions = (lower_measuring alone).actions in
    let same : actions ≡ numbered_all n m (macro lo hi 1 a) = ap (numbered_all n m) (append-nil (macro lo hi 1 a)) in
    let all : sums_of_actions actions ++ [] ≡ (own ++ []) ++ [] = sums-in-file-order alone in
    let whole : sums_of_actions (numbered_all n m (macro lo hi 1 a)) ≡ own =
    sym (ap sums_of_actions same) ∙ sym (append-nil (sums_of_actions actions)) ∙ all ∙ append-nil (own ++ []) ∙ append-nil own in
    ap length (ap (λ (z : List (List (ℕ × ℤ))). sums_in (numbered_conditions n (on_source_variables a.conditions ++ added_bound lo hi a.effects)) ++ z)
    (stages-measure n m (stages_of lo hi a.effects) from 1) ∙ whole)

-- ---- where there is no sum any number stands for the first
front-none : {A : Type 0} (xs ys : List A) → length (xs ++ ys) ≡ 0 → xs ≡ []
front-none xs ys e = none_of xs (omega (arith, length-append xs ys))

rest-none : {A : Type 0} (xs ys : List A) → length (xs ++ ys) ≡ 0 → ys ≡ []
rest-none xs ys e = none_of ys (omega (arith, length-append xs ys))

no-sum-moves : (cs : List (NumericCondition ℕ)) (i j : ℕ) → sums_in cs ≡ [] → on_kept i cs ≡ on_kept j cs
no-sum-moves [] i j e = refl
no-sum-moves (c ∷ cs) i j e = λ q. record {
  measured = variable (own c.measured (front-none (sum_in c.measured) (sums_in cs) (ap length e)) q);
  relation = c.relation;
  constant = c.constant;
} ∷ no-sum-moves cs (i + length (sum_in c.measured)) (j + length (sum_in c.measured)) (rest-none (sum_in c.measured) (sums_in cs) (ap length e)) q
  where
    own : (m : Measured ℕ) → sum_in m ≡ [] → kept_variable i m ≡ kept_variable j m
    own (variable v) e = refl
    own (weighted_sum ts) e = absurd (omega (arith, ap length e))

no-sum-kept : (f g : ℕ) (acts : List RestrictedAction) (i j : ℕ) → sums_of_actions acts ≡ [] → keeping_all f [] i acts ≡ keeping_all g [] j acts
no-sum-kept f g [] i j e = refl
no-sum-kept f g (a ∷ acts) i j e =
    let s = sums_in a.conditions in
    ap₂ (λ (cs : List (NumericCondition ℕ)) (z : List RestrictedAction). in_four (record {
      mode_conditions = a.mode_conditions;
      conditions = cs;
      mode_effects = a.mode_effects;
      additions = a.additions ++ [];
    }) ∷ z)
    (no-sum-moves a.conditions i j (front-none s (sums_of_actions acts) (ap length e)))
    (no-sum-kept f g acts (i + length s) (j + length s) (rest-none s (sums_of_actions acts) (ap length e)))

-- ---- so the actions are R's, and the conditions of its goal are
module _ {file : List ℕ} {p : Kept} (h : KeptOf file p) where
  none : p.count ≡ 0 → length (sums_of (measuring file)) ≡ 0
  none e = omega (arith, h.sums.counted, ap length (sums-in-file-order (task_of file)))

  -- the sums of the row are kept as those of the file are
  row_keeps : (acts : List RestrictedAction) (j : ℕ) → keeping_all p.first (sums_is p) j acts ≡ keeping_all p.first (sums_of_source (task_of file)) j acts
  row_keeps [] j = refl
  row_keeps (a ∷ acts) j = ap₂ (λ (es : List (ℕ × ℤ)) (z : List RestrictedAction). in_four (record {
    mode_conditions = a.mode_conditions;
    conditions = on_kept j a.conditions;
    mode_effects = a.mode_effects;
    additions = a.additions ++ es;
  }) ∷ z)
      (kept_same p.first p.count (sums_of_source (task_of file)) p.weights a.additions h.sums.counted h.sums.weighs)
      (row_keeps acts (j + length (sums_in a.conditions)))

  pub actions-kept : keeping_all p.first (sums_is p) p.first (measuring file).actions ≡ (lower_task (task_of file)).actions
  actions-kept =
      row_keeps (measuring file).actions p.first
      ∙ ap (λ (s : List (List (ℕ × ℤ))). keeping_all p.first s p.first (measuring file).actions) (sym (sums-in-file-order (task_of file)))
      ∙ by p.count refl
    where
      at : ℕ → List RestrictedAction
      at first = keeping_all first (sums_of (measuring file)) first (measuring file).actions

      by : (n : ℕ) → p.count ≡ n → at p.first ≡ at (length (measuring file).starts)
      by zero e =
          let no = none_of (sums_of (measuring file)) (none e) in
          let own = front-none (sums_of_actions (measuring file).actions) (sums_in (measuring file).goal_conditions) (none e) in
          let f = p.first in
          let g = length (measuring file).starts in
          ap (λ (s : List (List (ℕ × ℤ))). keeping_all f s f (measuring file).actions) no
          ∙ no-sum-kept f g (measuring file).actions f g own
          ∙ ap (λ (s : List (List (ℕ × ℤ))). keeping_all g s g (measuring file).actions) (sym no)
      by (suc n) e = ap at (h.first_is (omega arith))

-- ---- the sums at the start: what starts at 0 behind the declared variables weighs nothing
zeros-behind : (xs : List ℤ) (n i : ℕ) → integer_at xs i ≡ integer_at (xs ++ replicate n (pos 0)) i
zeros-behind [] n i = sym (replicated n i)
zeros-behind (x ∷ xs) n zero = refl
zeros-behind (x ∷ xs) n (suc i) = zeros-behind xs n i

weigh-front : (ts : List (ℕ × ℤ)) (xs : List ℤ) (n : ℕ) → weigh ts (integer_at xs) ≡ weigh ts (integer_at (xs ++ replicate n (pos 0)))
weigh-front [] xs n = refl
weigh-front (t ∷ ts) xs n = ap₂ (λ (x y : ℤ). x *ℤ t.1 +ℤ y) (zeros-behind xs n t.0) (weigh-front ts xs n)

values-front : (sums : List (List (ℕ × ℤ))) (xs : List ℤ) (n : ℕ) → sum_values sums xs ≡ sum_values sums (xs ++ replicate n (pos 0))
values-front [] xs n = refl
values-front (ts ∷ sums) xs n = ap₂ ◌∷◌ (weigh-front ts xs n) (values-front sums xs n)

module _ {file : List ℕ} {p : Kept} (h : KeptOf file p) where
  pub starts-kept : (values : List ℤ) (holds : ℕ) → values ≡ (source_start (task_of file)).values → holds ≡ hold_count (task_of file).actions
      → (values ++ resting_helpers holds) ++ sum_values (sums_is p) values ≡ (lower_task (task_of file)).starts
  starts-kept values holds e f =
      let own = (source_start (task_of file)).values in
      let count = hold_count (task_of file).actions in
      let rest = resting_helpers count in
      ap₂ (λ (v : List ℤ) (k : ℕ). (v ++ resting_helpers k) ++ sum_values (sums_is p) v) e f
      ∙ ap (λ (z : List ℤ). (own ++ rest) ++ z)
      (values_same p.count (sums_of_source (task_of file)) p.weights own h.sums.counted h.sums.weighs
      ∙ values-front (sums_of_source (task_of file)) own (suc (suc count))
      ∙ ap (λ (s : List (List (ℕ × ℤ))). sum_values s (own ++ rest)) (sym (sums-in-file-order (task_of file))))

-- ---- the number of the goal's first sum, where it is counted on from the first of all
module _ {file : List ℕ} {p : Kept} (h : KeptOf file p) where
  pub goal-from : {number : ℕ} → number ≡ goal_sum file p.first → GoalFrom file p.count number
  goal-from {number} e = record {
    is = λ some-sum. e ∙ ap (goal_sum file) (h.first_is some-sum);
    low = omega (
      arith,
      e,
      h.first_low,
      h.sums.counted,
      h.sums.few,
      ap length (sums-in-file-order (task_of file)),
      length-append (sums_of_actions (measuring file).actions) (sums_in (task_of file).goal_conditions),
    );
  }
