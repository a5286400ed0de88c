-- THE LAW: projecting by the rows of a task, from a state within its bounds, is projecting by the task's own steps. From its start, what a plan
-- projects to is what the table tells of the plan's numbers.
-- Assumes nothing.
use mathlib.Core.Path.{◌≡◌, refl, sym, ap, ap₂, ◌∙◌, fun_ext}
use Prim.Native.Nat.{ℕ, zero, suc, ◌<◌, ◌≤◌}
use native.Mathlib.Omega.{arith}
use mathlib.Core.Bool.{Bool, true, false, cond, ◌&&◌, false≢true}
use mathlib.Core.Option.{Option, none, none-ne-some}
use mathlib.Core.List.{List, [], ◌∷◌}
use lib.Dec.{ltb}
use lib.ListN.{length, get_or, get_elem?}
use lib.IntN.{ℤ}
use borrow.Author.Tests.{ltb-true, ltb-false}
use Rattle.integers.specs.Relation.{between}
use Rattle.answers.specs.Answer.{given}
use Rattle.lists.specs.Each.{tabulate}
use Rattle.lists.proofs.Each.{length-tabulate}
use Rattle.lists.proofs.Loops.{and_left, and_right}
use Rattle.std.specs.Prelude.{Result}
use Rattle.answers.specs.declared.Refusal.{Refusal}
use Rattle.answers.specs.Lent.{Lent}
use Rattle.model.specs.Tasks.{Effect, SourceTask, State}
use Rattle.model.specs.Systems.{provided}
use Rattle.model.specs.Steps.{integer_at, target, result, results, lower_bounds, upper_bounds, step_source, source_goal_holds, source_start}
use Rattle.model.specs.Stages.{opening, source_number}
use Rattle.model.specs.Lowering.{lower_task}
use Rattle.model.specs.Expansion.{project_task}
use Rattle.model.specs.Judging.{judge_restricted_task}
use Rattle.model.specs.Following.{makes_macro, project_over, macro_numbers, dead_end_numbers, opens, project_from}
use Rattle.model.proofs.Answers.{given-injective, then-gives}
use Rattle.model.proofs.NumberedPairing.{Agree}
use Rattle.model.proofs.FollowingAgrees.{projections-agree}
use Rattle.model.proofs.Following.{task-follows}
use Rattle.model.proofs.DeadEnd.{first_outside as first_of}
use Rattle.source_step.specs.Row.{effect_count_at, target_at, effect_at, result_at, stays_at, leading, first_outside}
use Rattle.source_step.specs.Ready.{marks_of, numbers_of, RowAt}
use Rattle.source_step.specs.Table.{Table, declared_by, held_by, takes_by, after_by, step_by, goal_by, effects_by, values_by, RowsOf, Inside}
use Rattle.source_step.proofs.Numbers.{target_is}
use Rattle.source_step.proofs.Tables.{goal-agrees, step-agrees, inside-after, turned-back, held-agrees}
use Rattle.plan_strokes.specs.Strokes.{strokes_of, step_numbers}
use Rattle.plan_strokes.specs.Opening.{Marked, Opened}
use Rattle.plan_strokes.proofs.Walks.{targets-once}
use Rattle.plan_project.specs.Sources.{source_in, Below, OpenedBy, Openable, Sourced}
use Rattle.plan_project.specs.Following.{dead_end_walk, step_in, opens_in, numbers_in, dead_end_in, project_by}
use Rattle.plan_project.specs.Projecting.{as_bytes, Kept, Projected}
use Rattle.plan_project.proofs.Numbers.{macro-numbers, dead_end_lem, opens-is, all-actions}
use Rattle.plan_project.proofs.Advancing.{one_number}
use Rattle.plan_project.proofs.Filling.{number-opens}
use Rattle.plan_project.proofs.Putting.{keep-alike}

past-the-last : {A : Type 0} (xs : List A) (k : ℕ) → length xs ≤ k → get_elem? xs k ≡ none
past-the-last [] k h = refl
past-the-last (a ∷ xs) zero h = absurd (omega arith)
past-the-last (a ∷ xs) (suc k) h = past-the-last xs k (omega arith)

-- how many results lie within their bounds before the first that does not, by number
leading-first : (lower upper v : ℕ → ℤ) (k : ℕ) (f : ℕ → Effect) (test : ℕ → Bool)
    → ((e : ℕ) → e < k → test e ≡ between (lower (target (f e))) (upper (target (f e))) (result (f e) v))
    → leading test k ≡ first_of lower upper (results (tabulate k f) v)
unfolding tabulate
leading-first lower upper v zero f test h = refl
leading-first lower upper v (suc k) f test h =
    ap₂ (λ (b : Bool) (i : ℕ). cond b (suc i) zero) (h 0 (omega arith))
    (leading-first lower upper v k (λ e. f (suc e)) (λ e. test (suc e)) (λ e l. h (suc e) (omega arith)))

module _ {t : SourceTask} {T : Table} (R : RowsOf t T) where
  abbrev opening_of : ℕ → ℕ
  opening_of = opening (lower_bounds t) (upper_bounds t) t.actions

  abbrev Same : State → State → Type 0
  Same x y = Inside R x × (y ≡ declared_by T x)

  abbrev row : (k : ℕ) → k < T.count → RowAt t.actions T.variables T.modes R.lower R.upper R.sizes T.marks T.numbers k
  row = R.ready.rows_are

  none-there : (k : ℕ) → T.count ≤ k → get_elem? t.actions k ≡ none
  none-there k h = past-the-last t.actions k (omega (arith, R.ready.counted))

  -- ---- steps, numbers and openings
  steps-agree : (x y : State) (k : ℕ) → Same x y → Agree Same (step_in T x k) (step_source t y k)
  steps-agree x y k (I, e) = rw e (go (ltb k T.count) refl)
    where
      on : k < T.count → (b : Bool) → takes_by T x k ≡ b → Agree Same (provided b (after_by T x k)) (provided b (declared_by T (after_by T x k)))
      on l true f = (inside-after R x I k l f, refl)
      on l false f = tt

      go : (b : Bool) → ltb k T.count ≡ b → Agree Same (cond b (step_by T x k) none) (step_source t (declared_by T x) k)
      go true f = let l = ltb-true k T.count f in rw (step-agrees R x I k l) (on l (takes_by T x k) refl)
      go false f = rw (none-there k (ltb-false k T.count f)) tt

  numbers-agree : (x y : State) (k : ℕ) → Same x y → numbers_in T opening_of x k ≡ macro_numbers t y k
  numbers-agree x y k (I, e) = rw e (go (ltb k T.count) refl)
    where
      go : (b : Bool) → ltb k T.count ≡ b → step_numbers (opening_of k) (cond b (strokes_of (effects_by T k) (values_by T x)) [])
          ≡ macro_numbers t (declared_by T x) k
      go true f =
          let r = row k (ltb-true k T.count f) in
          ap (λ (es : List Effect). step_numbers (opening_of k) (strokes_of es (values_by T x))) r.row.effects
          ∙ sym (macro-numbers t (declared_by T x) k r.action r.found (targets-once R.ready.ok k r.action r.found))
      go false f = rw (none-there k (ltb-false k T.count f)) (one_number (opening_of k))

  opens-agree : (x y : State) (k : ℕ) → Same x y → opens_in T x k ≡ opens t y k
  opens-agree x y k (I, e) = rw e (go (ltb k T.count) refl)
    where
      go : (b : Bool) → ltb k T.count ≡ b → cond b (makes_macro (effects_by T k) && held_by T x k) false ≡ opens t (declared_by T x) k
      go true f =
          let l = ltb-true k T.count f in
          let r = row k l in
          ap₂ (λ (es : List Effect) (b : Bool). makes_macro es && b) r.row.effects (held-agrees R x I k l)
          ∙ sym (opens-is t (declared_by T x) k r.action r.found)
      go false f = rw (none-there k (ltb-false k T.count f)) refl

  -- the first of its results that is out of bounds, by its row
  first-agrees : (x : State) (k : ℕ) (l : k < T.count) → first_outside T.variables (marks_of T.marks k) (numbers_of T.numbers k) x.values
      ≡ first_of (lower_bounds t) (upper_bounds t) (results (row k l).action.effects (values_by T x))
  first-agrees x k l =
      let r = row k l in
      leading-first (lower_bounds t) (upper_bounds t) (values_by T x) (effect_count_at marks) (effect_at marks numbers) (stays_at n marks numbers x.values) (λ e h.
      ap₂ (λ (u w : ℤ). between u w (result_at n marks numbers x.values e))
      (r.row.lower_at e h ∙ ap (λ (bs : List ℤ). integer_at bs (target_at marks e)) R.ready.lowers_are)
      (r.row.upper_at e h ∙ ap (λ (bs : List ℤ). integer_at bs (target_at marks e)) R.ready.uppers_are)
      ∙ ap (λ (j : ℕ). between (lower_bounds t j) (upper_bounds t j) (result_at n marks numbers x.values e)) (sym (target_is marks numbers e)))
      ∙ ap (λ (es : List Effect). first_of (lower_bounds t) (upper_bounds t) (results es (values_by T x))) r.row.effects
    where
      n : ℕ
      n = T.variables

      marks : List ℕ
      marks = marks_of T.marks k

      numbers : List ℤ
      numbers = numbers_of T.numbers k

  -- where it opens and does not apply, one of its results is out of bounds
  dead-ends-agree : (x y : State) (k : ℕ) → Same x y → step_source t y k ≡ none → opens t y k ≡ true → dead_end_in T opening_of x k ≡ dead_end_numbers t y k
  dead-ends-agree x y k (I, e) s o = rw e (go (ltb k T.count) refl (opens-agree x y k (I, e) ∙ o))
    where
      off : (b : Bool) → provided b (declared_by T (after_by T x k)) ≡ none → b ≡ false
      off true q = absurd (none-ne-some (declared_by T (after_by T x k)) (sym q))
      off false q = refl

      go : (b : Bool) → ltb k T.count ≡ b → cond b (makes_macro (effects_by T k) && held_by T x k) false ≡ true
          → dead_end_in T opening_of x k ≡ dead_end_numbers t (declared_by T x) k
      go true f h =
          let l = ltb-true k T.count f in
          let r = row k l in
          let several = and_left (makes_macro (effects_by T k)) (held_by T x k) h in
          let out = turned-back R x I k l (and_right (makes_macro (effects_by T k)) (held_by T x k) h)
          (off (takes_by T x k) (sym (step-agrees R x I k l) ∙ sym (ap (λ (z : State). step_source t z k) e) ∙ s)) in
          let many : effect_count_at (marks_of T.marks k) ≡ length r.action.effects
          = sym (length-tabulate (effect_count_at (marks_of T.marks k)) (effect_at (marks_of T.marks k) (numbers_of T.numbers k)))
          ∙ ap length r.row.effects in
          ap₂ (λ (i j : ℕ). dead_end_walk (opening_of k) i j (strokes_of (effects_by T k) (values_by T x))) many (first-agrees x k l)
          ∙ ap (λ (es : List Effect). dead_end_walk (opening_of k) (length r.action.effects)
          (first_of (lower_bounds t) (upper_bounds t) (results r.action.effects (values_by T x))) (strokes_of es (values_by T x)))
          r.row.effects
          ∙ sym (dead_end_lem t (declared_by T x) k r.action r.found (targets-once R.ready.ok k r.action r.found)
          (ap makes_macro (sym r.row.effects) ∙ several) out)
      go false f h = absurd (false≢true h)

  -- ---- the tables of the lowering
  module _ {openings sources : List ℕ} {total : ℕ} (O : Opened T.marks T.count openings) (S : Sourced openings T.count sources)
      (c : total ≡ get_or openings T.count 0) where
    marked : (k : ℕ) → k < T.count → Marked t.actions T.marks k
    marked k l = let r = row k l in record { action = r.action; numbers = numbers_of T.numbers k; found = r.found; effects = r.row.effects }

    opens_at : (k : ℕ) → k ≤ T.count → get_or openings k 0 ≡ opening_of k
    opens_at = O.is t.actions marked (lower_bounds t) (upper_bounds t)

    counted : total ≡ length (lower_task t).actions
    counted = c ∙ opens_at T.count (omega arith) ∙ ap opening_of R.ready.counted ∙ all-actions t

    numbered : (k : ℕ) → source_in sources k ≡ source_number (lower_bounds t) (upper_bounds t) t.actions k
    numbered = S.is (lower_bounds t) (upper_bounds t) t.actions (sym R.ready.counted) (λ k l. opens_at k (omega arith))

    pub below : Below T.count sources
    below k a e = omega (arith, (number-opens (lower_bounds t) (upper_bounds t) t.actions k a (sym (numbered k) ∙ e)).1, R.ready.counted)

    opened-by : OpenedBy opening_of sources
    opened-by k a e = (number-opens (lower_bounds t) (upper_bounds t) t.actions k a (sym (numbered k) ∙ e)).0

    projects-alike : (most i : ℕ) (q : List ℕ) (x : State) → Inside R x
        → project_by T total sources opening_of most i q x ≡ project_from t most i q (declared_by T x)
    projects-alike most i q x I =
        projections-agree Same (step_in T) (step_source t) steps-agree (goal_by T) (source_goal_holds t)
        (λ u v s. goal-agrees R u s.0 ∙ ap (source_goal_holds t) (sym s.1))
        total (source_in sources) (numbers_in T opening_of) (macro_numbers t) numbers-agree (opens_in T) (opens t) opens-agree
        (dead_end_in T opening_of) (dead_end_numbers t) dead-ends-agree most i q x (declared_by T x) (I, refl)
        ∙ ap₂ (λ (n : ℕ) (f : ℕ → Option ℕ). project_over n (step_source t) (source_goal_holds t) f (macro_numbers t) (dead_end_numbers t) (opens t) most i q
        (declared_by T x)) counted (fun_ext numbered)

    -- ---- from the task's start
    module _ {x : State} (I : Inside R x) (start : declared_by T x ≡ source_start t) (q : List ℕ) where
      from_start : project_by T total sources opening_of (length q) 0 q x ≡ project_from t (length q) 0 q (source_start t)
      from_start = projects-alike (length q) 0 q x I ∙ ap (project_from t (length q) 0 q) start

      pub kept : length q ≤ 1_000_000 → Kept T total sources q x
      kept h = record {
        opening = opening_of;
        opens = opened-by;
        keeps = λ p e.
            let (v, j, f) = then-gives (judge_restricted_task (lower_task t) q) (λ v. given (project_task t q)) p
            (task-follows t R.ready.ok q h ∙ sym from_start ∙ e) in
            sym (given-injective f) ∙ sym (keep-alike (source_in sources) (source_number (lower_bounds t) (upper_bounds t) t.actions) numbered q);
      }

      pub projected-so : {old after : List ℕ} {r : Result ℕ Refusal} → Projected T total sources q x old after r
          → Lent old (as_bytes (project_from t (length q) 0 q (source_start t))) after r
      projected-so {old} {after} {r} P = rw (← from_start) (P.meets opening_of opened-by)

-- the openings of at most 32 actions fit the table
pub openable : {marks : List (List ℕ)} {count : ℕ} {openings : List ℕ} → Opened marks count openings → count ≤ 32 → Openable openings count
openable O h = record { few = h; small = λ k l. omega (arith, O.few k (omega arith)) }
