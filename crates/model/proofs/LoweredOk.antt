-- The lowering of a task out of an accepted source file is a well-formed restricted task.
-- Assumes nothing.
use mathlib.Core.Path.{◌≡◌, refl, sym, ap, ◌∙◌, subst}
use Prim.Native.Nat.{ℕ, zero, suc, ◌+◌, ◌≤◌, ◌<◌}
use native.Mathlib.Omega.{arith}
use mathlib.Core.Bool.{Bool, true, false, cond}
use mathlib.Core.Option.{none, some, none-ne-some}
use mathlib.Core.List.{List, [], ◌∷◌, ◌++◌, map}
use lib.ListN.{length, length-append, length-map, length-replicate, replicate}
use lib.Dec.{eqb}
use lib.IntN.{ℤ, pos, nat_abs}
use borrow.Author.Tests.{ne_eqb}
use Rattle.integers.specs.All.{All}
use Rattle.integers.proofs.Parts.{ints, abs}
use Rattle.model.specs.Tasks.{NumericCondition, SourceAction, SourceTask, SourceVariable, Measured, variable, weighted_sum}
use Rattle.model.specs.Stages.{Name, NamedAction, lower_actions, stage_count, several, hold_count}
use Rattle.model.specs.Steps.{natural_at, sizes_of, lower_bounds, upper_bounds, source_start}
use Rattle.model.specs.Sums.{sums_of}
use Rattle.model.specs.Lowering.{resting_helpers, numbered_conditions, numbered_additions, numbered, numbered_all, lower_measuring, lower_task, numbered_measure}
use Rattle.model.specs.InTask.{NameIn, MeasureIn}
use Rattle.model.specs.Limits.{source_limits, restricted_limits}
use Rattle.model.specs.TaskOk.{Distinct, keys, ValuesIn, AmountOk, ModeOk, MeasureOk, ConditionOk, SourceVariableOk, SourceTaskOk, RestrictedTaskOk}
use Rattle.model.proofs.StageWalk.{all_app, all_map}
use Rattle.model.proofs.NumberedPairing.{NamedActionIn, lower_in_lem}
use Rattle.model.proofs.StepBounds.{addition_at, AdditionsOnce}
use Rattle.model.proofs.AcceptedPairing.{sets_more, at-end, num-room, num-once}
use Rattle.model.proofs.ReadingLaws.{length-keys}
use Rattle.model.proofs.AcceptedSource.{accepted, lower-up, upper-up}
use Rattle.model.proofs.KeptOk.{MeasureFits, ConditionFits, MeasuringOk, MeasuringTaskOk, keeping-length, kept-task-ok}
use Rattle.model.proofs.LoweredSums.{sums-in-file-order}
use Rattle.model.proofs.StagesOk.{NamedFits, AmountsIn, RowOk, lower-ok, stages-count, lower-length}

-- ---- lists that name each number once
none_apart : (k : ℕ) (es : List (ℕ × ℤ)) → addition_at es k ≡ none → All (λ (j : ℕ). eqb j k ≡ false) (keys es)
none_apart k [] h = tt
none_apart k (e ∷ es) h = go (eqb e.0 k) h (none_apart k es)
  where
    go : (b : Bool) → cond b (some e.1) (addition_at es k) ≡ none → (addition_at es k ≡ none → All (λ (j : ℕ). eqb j k ≡ false) (keys es)) → (b ≡ false) × All (λ (j : ℕ). eqb j k ≡ false) (keys es)
    go true h f = absurd (none-ne-some e.1 (sym h))
    go false h f = (refl, f h)

once-apart : (es : List (ℕ × ℤ)) → AdditionsOnce es → Distinct (keys es)
once-apart [] h = tt
once-apart (e ∷ es) (h, hs) = (none_apart e.0 es h, once-apart es hs)

-- one mode more, beyond those named
apart_more : (m x : ℕ) (es : List (ℕ × ℕ)) → All (λ (e : ℕ × ℕ). e.0 < m) es → Distinct (keys es) → Distinct (keys (es ++ ((m, x) ∷ [])))
apart_more m x [] h a = (tt, tt)
apart_more m x (e ∷ es) (h, hs) (a, as₁) = (beyond es a, apart_more m x es hs as₁)
  where
    beyond : (fs : List (ℕ × ℕ)) → All (λ (j : ℕ). eqb j e.0 ≡ false) (keys fs) → All (λ (j : ℕ). eqb j e.0 ≡ false) (keys (fs ++ ((m, x) ∷ [])))
    beyond [] q = (ne_eqb m e.0 (λ z. omega (arith, z, h)), tt)
    beyond (f ∷ fs) (q, qs) = (q, beyond fs qs)

-- ---- rows, their variables numbered
length-num_c : (n : ℕ) (cs : List (NumericCondition Name)) → length (numbered_conditions n cs) ≡ length cs
length-num_c n [] = refl
length-num_c n (c ∷ cs) = ap suc (length-num_c n cs)

length-num_a : (n : ℕ) (es : List (Name × ℤ)) → length (numbered_additions n es) ≡ length es
length-num_a n [] = refl
length-num_a n (e ∷ es) = ap suc (length-num_a n es)

all-cond : (n holds : ℕ) (cs : List (NumericCondition Name))
    → All (λ (c : NumericCondition Name). MeasureIn (NameIn n holds) c.measured) cs → All NamedFits cs
    → All (ConditionFits (n + (2 + holds))) (numbered_conditions n cs)
all-cond n holds [] i h = tt
all-cond n holds (c ∷ cs) (i, is) (h, hs) = ((lhs c.measured i, fits c.measured c.constant h), all-cond n holds cs is hs)
  where
    terms : (ts : List (Name × ℤ)) → All (λ (t : Name × ℤ). NameIn n holds t.0) ts
        → All (λ (t : ℕ × ℤ). t.0 < n + (2 + holds)) (numbered_additions n ts)
    terms [] i = tt
    terms (t ∷ ts) (i, is) = (num-room n holds t.0 i, terms ts is)

    lhs : (l : Measured Name) → MeasureIn (NameIn n holds) l → MeasureIn (λ (i : ℕ). i < n + (2 + holds)) (numbered_measure n l)
    lhs (variable w) i = num-room n holds w i
    lhs (weighted_sum ts) i = terms ts i

    weights : (ts : List (Name × ℤ)) → All (λ (t : Name × ℤ). nat_abs t.1 ≤ 10_000) ts
        → All (λ (t : ℕ × ℤ). nat_abs t.1 ≤ 10_000) (numbered_additions n ts)
    weights [] h = tt
    weights (t ∷ ts) (h, hs) = (h, weights ts hs)

    fits : (l : Measured Name) (k : ℤ) → MeasureFits l k → MeasureFits (numbered_measure n l) k
    fits (variable w) k h = h
    fits (weighted_sum ts) k h = (h.0, (omega (arith, length-num_a n ts, h.1.0), weights ts h.1.1))

all-add : (n holds : ℕ) (es : List (Name × ℤ)) → All (λ (e : Name × ℤ). NameIn n holds e.0) es → AmountsIn es
    → All (AmountOk source_limits (n + (2 + holds))) (numbered_additions n es)
all-add n holds [] i h = tt
all-add n holds (e ∷ es) (i, is) (h, hs) = ((num-room n holds e.0 i, h), all-add n holds es is hs)

-- a value of control, which stands behind the others
ctl-in : (sizes : List ℕ) (z m x : ℕ) → length sizes ≡ m → x < z → (m < length (sizes ++ (z ∷ []))) × (x < natural_at (sizes ++ (z ∷ [])) m)
ctl-in sizes z m x e h = (omega (arith, e, length-append sizes (z ∷ [])), subst (λ (k : ℕ). x < k) (sym (at-end sizes z m e)) h)

values-more : (sizes : List ℕ) (z m x : ℕ) → length sizes ≡ m → x < z → (ps : List (ℕ × ℕ)) → ValuesIn sizes ps → ValuesIn (sizes ++ (z ∷ [])) (ps ++ ((m, x) ∷ []))
values-more sizes z m x e h ps v =
    all_app (λ (p : ℕ × ℕ). (p.0 < length (sizes ++ (z ∷ []))) × (p.1 < natural_at (sizes ++ (z ∷ [])) p.0)) ps ((m, x) ∷ []) (sets_more sizes z ps v) (ctl-in sizes z m x e h, tt)

module _ (n holds m : ℕ) (sizes : List ℕ) (z : ℕ) (sm : length sizes ≡ m) where
  write-ok : (r : NamedAction) → NamedActionIn n holds m r → RowOk sizes z r
      → MeasuringOk (n + (2 + holds)) (sizes ++ (z ∷ [])) (numbered n m r)
  write-ok r i o = record {
    mode_conditions_few = omega (arith, o.mode_conditions_few, length-append r.mode_conditions ((m, r.control) ∷ []));
    mode_conditions_in = values-more sizes z m r.control sm o.control r.mode_conditions o.mode_conditions_in;
    conditions_few = omega (arith, o.conditions_few, length-num_c n r.conditions);
    conditions_in = all-cond n holds r.conditions i.conditions_in o.cs_up;
    mode_effects_in = go₁ (eqb r.control r.next_control);
    mode_effects_once = go₂ (eqb r.control r.next_control);
    additions_few = omega (arith, o.additions_few, length-num_a n r.additions);
    additions_in = all-add n holds r.additions i.additions_in o.adds_up;
    additions_once = once-apart (numbered_additions n r.additions) (num-once n holds r.additions i.additions_in i.additions_once);
  }
    where
      nil : {A : Type 0} (xs : List A) → xs ++ [] ≡ xs
      nil [] = refl
      nil {A} (x ∷ xs) = ap (λ (y : List A). x ∷ y) (nil xs)

      go₁ : (b : Bool) → ValuesIn (sizes ++ (z ∷ [])) (r.mode_effects ++ cond b [] ((m, r.next_control) ∷ []))
      go₁ true = subst (ValuesIn (sizes ++ (z ∷ []))) (sym (nil r.mode_effects)) (sets_more sizes z r.mode_effects o.mode_effects_in)
      go₁ false = values-more sizes z m r.next_control sm o.next_control r.mode_effects o.mode_effects_in

      go₂ : (b : Bool) → Distinct (keys (r.mode_effects ++ cond b [] ((m, r.next_control) ∷ [])))
      go₂ true = subst (λ (e : List (ℕ × ℕ)). Distinct (keys e)) (sym (nil r.mode_effects)) o.es_apart
      go₂ false = apart_more m r.next_control r.mode_effects i.mode_effects_in o.es_apart

  write-all : (R : List NamedAction) → All (NamedActionIn n holds m) R → All (RowOk sizes z) R
      → All (MeasuringOk (n + (2 + holds)) (sizes ++ (z ∷ []))) (numbered_all n m R)
  write-all [] i o = tt
  write-all (r ∷ R) (i, is) (o, os) = (write-ok r i o, write-all R is os)

pub write-length : (n m : ℕ) (R : List NamedAction) → length (numbered_all n m R) ≡ length R
write-length n m [] = refl
write-length n m (r ∷ R) = ap suc (write-length n m R)

-- R has as many actions as there are rows
pub lowered-length : (t : SourceTask) → length (lower_task t).actions ≡ length (lower_actions (lower_bounds t) (upper_bounds t) 1 t.actions)
lowered-length t =
    let r = lower_measuring t in
    keeping-length (length r.starts) (sums_of r) (length r.starts) r.actions
    ∙ write-length (length t.variables) (length t.modes) (lower_actions (lower_bounds t) (upper_bounds t) 1 t.actions)

-- with the helpers behind them, a task's variables are declared as before
with-helpers : (n holds : ℕ) (c : NumericCondition ℕ) → ConditionOk source_limits n c → ConditionFits (n + (2 + holds)) c
with-helpers n holds c h = one c.measured c.constant h.measures
  where
    one : (m : Measured ℕ) (k : ℤ) → MeasureOk source_limits n m k → MeasureIn (λ (i : ℕ). i < n + (2 + holds)) m × MeasureFits m k
    one (variable i) k h = (omega (arith, h.0), omega (arith, h.1))
    one (weighted_sum ts) k h = (
      all_map (AmountOk source_limits n) (λ (t : ℕ × ℤ). t.0 < n + (2 + holds)) (λ t q. omega (arith, q.0)) ts h.2.0,
      (h.3, (h.1, all_map (AmountOk source_limits n) (λ (t : ℕ × ℤ). nat_abs t.1 ≤ 10_000) (λ t q. q.1.1) ts h.2.0)),
    )

keys-app : (xs ys : List (ℕ × ℕ)) → keys (xs ++ ys) ≡ keys xs ++ keys ys
keys-app [] ys = refl
keys-app (x ∷ xs) ys = ap (λ (z : List ℕ). x.0 ∷ z) (keys-app xs ys)

-- values up to 10,000, as the starts of a source file are
abbrev Small : ℤ → Type 0
Small z = nat_abs z ≤ 10_000

start_small : (b : SourceVariable) → SourceVariableOk source_limits b → Small b.start
start_small b (l, u, h, k) = omega (ints, abs b.lower, abs b.start, abs b.upper, l, u, h, k)

zeros-in : (k : ℕ) → All Small (replicate k (pos 0))
zeros-in zero = tt
zeros-in (suc k) = (omega arith, zeros-in k)

starts-in : (holds : ℕ) (vs : List SourceVariable) → All (SourceVariableOk source_limits) vs
    → All Small (map (λ (b : SourceVariable). b.start) vs ++ resting_helpers holds)
starts-in holds [] h = zeros-in (suc (suc holds))
starts-in holds (b ∷ vs) (h, hs) = (start_small b h, starts-in holds vs hs)

holds-few : (acts : List SourceAction) → hold_count acts ≤ 3
holds-few [] = omega arith
holds-few (a ∷ acts) = go (several a.effects) (holds-few acts)
  where
    go : (b : Bool) → hold_count acts ≤ 3 → cond b 3 (hold_count acts) ≤ 3
    go true h = omega arith
    go false h = h

-- THE LOWERED TASK is well-formed
module _ (t : SourceTask) (S : SourceTaskOk t) where
  abbrev n : ℕ
  n = length t.variables

  abbrev holds : ℕ
  holds = hold_count t.actions

  abbrev sizes : List ℕ
  sizes = sizes_of t.modes

  -- the size of control
  abbrev controls : ℕ
  controls = suc (stage_count (lower_bounds t) (upper_bounds t) t.actions)

  lower-in-range : (j : ℕ) → nat_abs (lower_bounds t j) ≤ 10_000
  lower-in-range = lower-up t.variables S.variables_in

  upper-in-range : (j : ℕ) → nat_abs (upper_bounds t j) ≤ 10_000
  upper-in-range = upper-up t.variables S.variables_in

  stage-few : stage_count (lower_bounds t) (upper_bounds t) t.actions ≤ 1056
  stage-few = omega (arith, stages-count (lower_bounds t) (upper_bounds t) lower-in-range upper-in-range n sizes t.actions S.actions_ok, S.actions_few)

  pub measuring-starts : length (lower_measuring t).starts ≡ n + (2 + holds)
  measuring-starts = length-append (source_start t).values (resting_helpers holds)
      ∙ omega (arith, length-map t.variables (λ (b : SourceVariable). b.start), length-replicate holds (pos 0))

  pub lowered-sizes : sizes_of (lower_task t).modes ≡ sizes ++ (controls ∷ [])
  lowered-sizes = keys-app t.modes ((controls, 0) ∷ [])

  acts-ok : All (MeasuringOk (n + (2 + holds)) (sizes ++ (controls ∷ []))) (lower_measuring t).actions
  acts-ok = write-all n holds (length t.modes) sizes controls (length-keys t.modes) (lower_actions (lower_bounds t) (upper_bounds t) 1 t.actions)
      (lower_in_lem n holds (length t.modes) (lower_bounds t) (upper_bounds t) t.actions 1 (accepted t S).actions_in)
      (lower-ok (lower_bounds t) (upper_bounds t) lower-in-range upper-in-range n sizes controls (omega arith) t.actions 1 (omega arith) S.actions_ok)

  goal-modes-in : ValuesIn (sizes ++ (controls ∷ [])) (lower_measuring t).goal_modes
  goal-modes-in = values-more sizes controls (length t.modes) 0 (length-keys t.modes) (omega arith) t.goal_modes S.goal.mode_conditions_in

  goal-in : All (ConditionFits (n + (2 + holds))) t.goal_conditions
  goal-in = all_map (ConditionOk source_limits n) (ConditionFits (n + (2 + holds))) (with-helpers n holds) t.goal_conditions S.goal.conditions_in

  -- with its sums measured, the lowered task leaves room to keep them
  pub measuring-task-ok : MeasuringTaskOk (lower_measuring t)
  measuring-task-ok = record {
    starts_few = omega (arith, measuring-starts, S.variables_few, holds-few t.actions);
    starts_in = starts-in holds t.variables S.variables_in;
    modes_few = omega (arith, length-append t.modes ((controls, 0) ∷ []), S.modes_few);
    modes_in = all_app (ModeOk restricted_limits) t.modes ((controls, 0) ∷ [])
        (all_map (ModeOk source_limits) (ModeOk restricted_limits) (λ m h. (h.0, omega (arith, h.1))) t.modes S.modes_in)
        ((omega arith, omega (arith, stage-few)), tt);
    actions_few = omega (
      arith,
      write-length n (length t.modes) (lower_actions (lower_bounds t) (upper_bounds t) 1 t.actions),
      lower-length (lower_bounds t) (upper_bounds t) lower-in-range upper-in-range n sizes t.actions 1 S.actions_ok,
      S.actions_few,
    );
    actions_ok = rw (measuring-starts, lowered-sizes) acts-ok;
    goal_modes_few = omega (arith, S.goal.mode_conditions_few, length-append t.goal_modes ((length t.modes, 0) ∷ []));
    goal_modes_in = rw lowered-sizes goal-modes-in;
    goal_few = omega (arith, S.goal.conditions_few);
    goal_in = rw measuring-starts goal-in;
    sums_few = omega (arith, S.sums_few, ap length (sums-in-file-order t));
  }

  pub lowered-task-ok : RestrictedTaskOk (lower_task t)
  lowered-task-ok = kept-task-ok (lower_measuring t) measuring-task-ok
