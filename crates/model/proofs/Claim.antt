-- DEMAND 3, the claim of specs/Claim, for every file that the source reader accepts: the pairing of plans as lists of numbers, carried to bytes
-- on both sides. R is the task that the restricted reader finds in the lowered file.
-- Assumes nothing.
use mathlib.Core.Path.{◌≡◌, sym, ap, ◌∙◌, subst}
use Prim.Native.Nat.{ℕ, suc, ◌+◌, ◌≤◌, ◌<◌}
use native.Mathlib.Omega.{arith}
use mathlib.Core.Bool.{Bool}
use mathlib.Core.Option.{Option, some}
use mathlib.Core.List.{List, [], ◌∷◌}
use lib.ListN.{length, length-append}
use lib.Dec.{T}
use borrow.Author.Tests.{eq-eqb}
use Rattle.integers.specs.All.{All}
use Rattle.integers.specs.Numbers.{Bytes}
use Rattle.answers.specs.Answer.{Answer, given, then, lent}
use Rattle.lists.proofs.Numbers.{halves-numbers}
use Rattle.model.specs.Systems.{run_plan, total_price}
use Rattle.model.specs.Steps.{conditions_hold, modes_hold, integer_at, natural_at, sound_source, sound_restricted, sizes_of, lower_bounds, upper_bounds}
use Rattle.model.specs.Steps.{source_start, restricted_start, step_source, step_restricted, source_goal_holds, restricted_goal_holds}
use Rattle.model.specs.Tasks.{State, SourceTask, RestrictedTask}
use Rattle.model.specs.Stages.{stage_count}
use Rattle.model.specs.Lowering.{lower_measuring, lower_task, lower_file, rest_state}
use Rattle.model.specs.Expansion.{source_number_of, price_from, expand_task, project_task}
use Rattle.model.specs.InTask.{SourceGoal, LoweredGoal}
use Rattle.model.specs.Decoding.{read_source, read_restricted}
use Rattle.model.specs.TaskOk.{SourceTaskOk}
use Rattle.model.specs.Plans.{plan_bytes_of, plan_numbers, read_plan}
use Rattle.model.specs.Judging.{judge, judge_source_task, judge_restricted_task, judge_source, judge_restricted}
use Rattle.model.specs.Judging.{price_plan, lower_bytes, expand_bytes, project_bytes}
use Rattle.model.specs.Claim.{Pair, PlansPair, RoundTrip}
use Rattle.model.proofs.StageWalk.{and_intro, and_parts}
use Rattle.model.proofs.LoweredPairing.{Kept, kept-goals, PlansPairOff, rest-of-start, plans-pair-off}
use Rattle.model.proofs.SumsTrue.{sums-true-where-R-comes}
use Rattle.model.proofs.ReadsBack.{reads-back}
use Rattle.model.proofs.AcceptedSource.{accepted}
use Rattle.model.proofs.KeptOk.{kept-starts}
use Rattle.model.proofs.LoweredSums.{sums-in-file-order}
use Rattle.model.proofs.LoweredOk.{lowered-task-ok, measuring-starts, measuring-task-ok}
use Rattle.model.proofs.Answers.{given-injective, then-gives, written-at-the-front}
use Rattle.model.proofs.JudgedPlans.{judged, judges, run-count, priced, capped, plan-reads-back, plan-is-bytes, read-numbers, plan-read}
use Rattle.model.proofs.JudgedPlans.{source-step-counts, restricted-step-counts, keep-few, few-all}
use Rattle.model.proofs.AcceptedOk.{accepted-source-ok}
use Rattle.model.proofs.Figure.{source-run-in-bounds}
use Rattle.model.proofs.Forced.{at-most-one-action-applies}
use Rattle.model.proofs.Followed.{expansion-follows}

-- a call's result, written into any output, is handed to the second call, which gives the first plan
round_trip : (first : Answer (List ℕ)) (second : List ℕ → Answer (List ℕ)) (plan bytes : List ℕ)
    → first ≡ given bytes → second bytes ≡ given plan → RoundTrip first second plan
round_trip first second plan bytes e f old n after w out =
    ap (lent out) (ap second (written-at-the-front old after n bytes (sym (ap (lent old) e) ∙ w)) ∙ f)

zero-plus : (n : ℕ) → 0 + n ≡ n
zero-plus n = omega arith

-- ---- a valid plan by its bytes, of T and of R alike: they are read, the plan runs to y, and the goal holds there
module _ {X : Type 0} (count : ℕ) (step : X → ℕ → Option X) (goal : X → Bool) (start : X) where
  record Valid (plan : List ℕ) (y : X) : Type 0 where
    reads : read_plan plan ≡ given (plan_numbers plan)
    runs : run_plan step (plan_numbers plan) start ≡ some y
    ends : T (goal y)

  judged-is-valid : (plan : List ℕ) (n : ℕ) (y : X) → then (read_plan plan) (λ p. judge count step goal 0 p start) ≡ given (n, y) → Valid plan y
  judged-is-valid plan n y j =
      let (p, r, j') = then-gives (read_plan plan) (λ p. judge count step goal 0 p start) (n, y) j in
      let (run, end, _, _) = judged count step goal p 0 start n y j' in
      let q : p ≡ plan_numbers plan = read-numbers plan p r in
      record { reads = r ∙ ap given q; runs = ap (λ (l : List ℕ). run_plan step l start) (sym q) ∙ run; ends = end }

  module _ (few : count ≤ 65_536) (counts : (x : X) (k : ℕ) (y : X) → step x k ≡ some y → k < count) where
    valid-is-judged : (plan : List ℕ) (y : X) → Valid plan y → judge count step goal 0 (plan_numbers plan) start ≡ given (length (plan_numbers plan), y)
    valid-is-judged plan y v =
        judges count step goal (plan_numbers plan) 0 start y v.runs v.ends (run-count count step goal counts (plan_numbers plan) start y v.runs)
        ∙ ap (λ (n : ℕ). given (n, y)) (zero-plus (length (plan_numbers plan)))

    -- the bytes of a plan that runs
    written-is-valid : (p : List ℕ) (y : X) → length p ≤ 1_000_000 → run_plan step p start ≡ some y → T (goal y)
        → (plan_numbers (plan_bytes_of p) ≡ p) × Valid (plan_bytes_of p) y
    written-is-valid p y short run end =
        let numbers : All (λ (k : ℕ). k < 65_536) p = few-all count 65_536 few p (run-count count step goal counts p start y run) in
        let q : plan_numbers (plan_bytes_of p) ≡ p = halves-numbers p numbers in (
          q,
          record { reads = plan-reads-back p numbers short ∙ ap given (sym q); runs = ap (λ (l : List ℕ). run_plan step l start) q ∙ run; ends = end },
        )

-- ---- the calls on an accepted source file, and on the file that it is lowered to
module _ (t : SourceTask) (S : SourceTaskOk t) (file : List ℕ) (e : read_source file ≡ given t) where
  abbrev R : RestrictedTask
  R = lower_task t

  R-reads : read_restricted (lower_file t) ≡ given R
  R-reads = reads-back R (lowered-task-ok t S)

  -- ---- what the pairing of lists of numbers asks and gives of the goals
  goal-in : (x : State) → T (source_goal_holds t x) → SourceGoal t.goal_modes t.goal_conditions x
  goal-in x = and_parts (modes_hold t.goal_modes (natural_at x.modes)) (conditions_hold t.goal_conditions (integer_at x.values))

  goal-out : (x : State) → SourceGoal t.goal_modes t.goal_conditions x → T (source_goal_holds t x)
  goal-out x (a, b) = and_intro (modes_hold t.goal_modes (natural_at x.modes)) (conditions_hold t.goal_conditions (integer_at x.values)) a b

  abbrev GoalR : State → Type 0
  GoalR x = T (restricted_goal_holds R x)

  goal_r-in : (X x : State) → Kept t X x → GoalR X → LoweredGoal (length t.modes) t.goal_modes t.goal_conditions x
  goal_r-in X x k h = and_parts (modes_hold R.goal_modes (natural_at x.modes)) (conditions_hold t.goal_conditions (integer_at x.values))
      (subst T (kept-goals t S X x k) h)

  goal_r-out : (X x : State) → Kept t X x → LoweredGoal (length t.modes) t.goal_modes t.goal_conditions x → GoalR X
  goal_r-out X x k (a, b) = subst T (sym (kept-goals t S X x k))
      (and_intro (modes_hold R.goal_modes (natural_at x.modes)) (conditions_hold t.goal_conditions (integer_at x.values)) a b)

  pairing : PlansPairOff t t.goal_modes t.goal_conditions GoalR
  pairing = plans-pair-off t S t.goal_modes t.goal_conditions (accepted t S).goal_modes_in (accepted t S).goal_conditions_in GoalR goal_r-in goal_r-out

  abbrev ValidT : List ℕ → State → Type 0
  ValidT = Valid (length t.actions) (step_source t) (source_goal_holds t) (source_start t)

  abbrev ValidR : List ℕ → State → Type 0
  ValidR = Valid (length R.actions) (step_restricted R) (restricted_goal_holds R) (restricted_start R)

  few-T : length t.actions ≤ 65_536
  few-T = omega (arith, S.actions_few)

  few-R : length R.actions ≤ 65_536
  few-R = omega (arith, (lowered-task-ok t S).actions_few)

  counts-T : (x : State) (k : ℕ) (y : State) → step_source t x k ≡ some y → k < length t.actions
  counts-T = source-step-counts (sound_source (lower_bounds t) (upper_bounds t) (sizes_of t.modes)) (lower_bounds t) (upper_bounds t) t.actions

  counts-R : (x : State) (k : ℕ) (y : State) → step_restricted R x k ≡ some y → k < length R.actions
  counts-R = restricted-step-counts (sound_restricted (sizes_of R.modes)) R.actions

  judged-T : (plan : List ℕ) (s : State) → ValidT plan s → judge_source_task t (plan_numbers plan) ≡ given (length (plan_numbers plan), s)
  judged-T = valid-is-judged (length t.actions) (step_source t) (source_goal_holds t) (source_start t) few-T counts-T

  judged-R : (restricted : List ℕ) (x : State) → ValidR restricted x
      → judge_restricted_task R (plan_numbers restricted) ≡ given (length (plan_numbers restricted), x)
  judged-R = valid-is-judged (length R.actions) (step_restricted R) (restricted_goal_holds R) (restricted_start R) few-R counts-R

  valid-T : (plan : List ℕ) (n : ℕ) (s : State) → judge_source file plan ≡ given (n, s) → ValidT plan s
  valid-T plan n s j = judged-is-valid (length t.actions) (step_source t) (source_goal_holds t) (source_start t) plan n s (rw e at j)

  valid-R : (restricted : List ℕ) (n : ℕ) (x : State) → judge_restricted (lower_file t) restricted ≡ given (n, x) → ValidR restricted x
  valid-R restricted n x j =
      judged-is-valid (length R.actions) (step_restricted R) (restricted_goal_holds R) (restricted_start R) restricted n x (rw R-reads at j)

  -- every valid source plan has a price
  price-is : (plan : List ℕ) (s : State) → ValidT plan s → price_plan file plan ≡ given (length (expand_task t (plan_numbers plan)))
  price-is plan s v = rw (e, v.reads, judged-T plan s v)
      (priced (step_source t) (price_from t.actions) (plan_numbers plan) 0 0 (source_start t) s v.runs
      ∙ ap given (zero-plus (total_price (step_source t) (price_from t.actions) (plan_numbers plan) (source_start t))
      ∙ sym (pairing.lengths (plan_numbers plan) s v.runs)))

  -- ---- two valid plans, one the expansion of the other and the other its projection, are a pair
  module _ (plan restricted : List ℕ) (b : Bytes plan) (c : Bytes restricted) (s : State) (v : ValidT plan s) (w : ValidR restricted (rest_state t s))
      (expanded : expand_task t (plan_numbers plan) ≡ plan_numbers restricted) (projected : project_task t (plan_numbers restricted) ≡ plan_numbers plan) where
    few : length (plan_numbers restricted) ≤ 1_000_000
    few = (plan-read restricted (plan_numbers restricted) c w.reads).1

    expands : expand_bytes file plan ≡ given restricted
    expands = rw (
      e,
      v.reads,
      judged-T plan s v,
      capped (step_source t) (price_from t.actions) (plan_numbers plan) 0 0 (source_start t) s v.runs
          (omega (arith, few, ap length expanded, pairing.lengths (plan_numbers plan) s v.runs)),
    )
        (ap given (ap plan_bytes_of expanded ∙ (plan-read restricted (plan_numbers restricted) c w.reads).0))

    projects : project_bytes file restricted ≡ given plan
    projects = rw (e, R-reads, w.reads, judged-R restricted (rest_state t s) w)
        (ap given (ap plan_bytes_of projected ∙ (plan-read plan (plan_numbers plan) b v.reads).0))

    pair : Pair t R file (lower_file t) plan restricted
    pair = let (values, modes, _, _) = source-run-in-bounds t S (plan_numbers plan) s v.runs in record {
      plan_is_bytes = b;
      restricted_is_bytes = c;
      steps = length (plan_numbers plan);
      end = s;
      valid = rw (e, v.reads) (judged-T plan s v);
      end_values = values;
      end_modes = modes;
      valid_in_r = rw (R-reads, w.reads) (judged-R restricted (rest_state t s) w);
      price = price-is plan s v ∙ ap (λ (l : List ℕ). given (length l)) expanded;
      few = few;
      expands = expands;
      projects = projects;
      expanded_and_projected = round_trip (expand_bytes file plan) (project_bytes file) plan restricted expands projects;
      projected_and_expanded = round_trip (project_bytes file restricted) (expand_bytes file) restricted plan projects expands;
      forced = sym (expansion-follows t S (plan_numbers plan) s v.runs (omega (arith, few, ap length expanded)) ∙ expanded);
    }

  -- a run of R from its start is one from T's start, helpers at rest and sums true
  from_start : (q : List ℕ) → run_plan (step_restricted R) q (rest_state t (source_start t)) ≡ run_plan (step_restricted R) q (restricted_start R)
  from_start q = ap (run_plan (step_restricted R) q) (rest-of-start t S)

  forth : (plan : List ℕ) → Bytes plan → (n : ℕ) (s : State) → judge_source file plan ≡ given (n, s)
      → length (expand_task t (plan_numbers plan)) ≤ 1_000_000 → (restricted : List ℕ) × Pair t R file (lower_file t) plan restricted
  forth plan b n s j short =
      let v : ValidT plan s = valid-T plan n s j in
      let p : List ℕ = plan_numbers plan in
      let q : List ℕ = expand_task t p in
      let (run, end, kept, _) = pairing.forth p s v.runs (goal-in s v.ends) short in
      let (same, w) = written-is-valid (length R.actions) (step_restricted R) (restricted_goal_holds R) (restricted_start R) few-R counts-R q (rest_state t s)
      short (sym (from_start q) ∙ run) end in
      (plan_bytes_of q, pair plan (plan_bytes_of q) b (plan-is-bytes q) s v w (sym same) (ap (project_task t) same ∙ kept))

  back : (restricted : List ℕ) → Bytes restricted → (n : ℕ) (x : State) → judge_restricted (lower_file t) restricted ≡ given (n, x)
      → (plan : List ℕ) × Pair t R file (lower_file t) plan restricted
  back restricted c n x j =
      let w : ValidR restricted x = valid-R restricted n x j in
      let q : List ℕ = plan_numbers restricted in
      let p : List ℕ = project_task t q in
      let short : length q ≤ 1_000_000 = (plan-read restricted q c w.reads).1 in
      let (s, run, end, is, made, _) = pairing.back q x (from_start q ∙ w.runs) w.ends short in
      let (same, v) = written-is-valid (length t.actions) (step_source t) (source_goal_holds t) (source_start t) few-T counts-T p s
      (omega (arith, short, keep-few (source_number_of t) q)) run (goal-out s end) in
      (plan_bytes_of p, pair (plan_bytes_of p) restricted (plan-is-bytes p) c s v (subst (ValidR restricted) is w) (ap (expand_task t) same ∙ made) (sym same))

  claim : PlansPair file (lower_file t)
  claim = record {
    task = t;
    reads = e;
    lowering = R;
    reads_lowered = R-reads;
    variables = omega (arith, kept-starts (lower_measuring t) (measuring-task-ok t S), measuring-starts t S, ap length (sums-in-file-order t));
    modes = length-append t.modes ((suc (stage_count (lower_bounds t) (upper_bounds t) t.actions), 0) ∷ []);
    one_applies = λ x busy. at-most-one-action-applies t x (λ z. subst T (sym (eq-eqb (natural_at x.modes (length t.modes)) 0 z) ∙ busy) tt);
    sums_kept = sums-true-where-R-comes t S;
    priced = λ plan n s j. price-is plan s (valid-T plan n s j);
    forth = forth;
    back = back;
  }

pub plans-pair : (file lowered : List ℕ) → lower_bytes file ≡ given lowered → PlansPair file lowered
plans-pair file lowered l =
    let (t, e, w) = then-gives (read_source file) (λ t. given (lower_file t)) lowered l in
    subst (PlansPair file) (given-injective w) (claim t (accepted-source-ok file t e) file e)
