-- The expansion of a plan by rows is the task's; it is as long as the price says; where it is as long as the plan, it is the openings alone.
-- Assumes nothing.
use mathlib.Core.Path.{◌≡◌, refl, sym, ap, ap₂, ◌∙◌}
use Prim.Native.Nat.{ℕ, zero, suc, ◌+◌, ◌≤◌, ◌<◌}
use native.Mathlib.Omega.{arith}
use native.Mathlib.Numerals.{add-one}
use mathlib.Core.Bool.{Bool, true, false, cond, ◌&&◌}
use mathlib.Core.Option.{Option, some}
use mathlib.Core.List.{List, [], ◌∷◌, ◌++◌, map}
use lib.Dec.{ltb}
use lib.ListN.{length, length-append}
use lib.IntN.{ℤ}
use borrow.Author.Tests.{ltb-true}
use Rattle.lists.proofs.Loops.{and_left, and_right}
use Rattle.model.specs.Tasks.{Effect, SourceAction, SourceTask, State}
use Rattle.model.specs.Systems.{or_empty, expand_from, provided}
use Rattle.model.specs.Steps.{lower_bounds, upper_bounds, step_source}
use Rattle.model.specs.Stages.{stages_of, opening}
use Rattle.model.specs.Expansion.{opened_values, stage_walk, stage_steps_from}
use Rattle.std.specs.Prelude.{Result, Ok, Err, ⊤}
use Rattle.answers.specs.declared.Reason.TheVariants.{NoAction, DoesNotApply}
use Rattle.answers.specs.declared.Reason.{Reason}
use Rattle.answers.specs.declared.Refusal.{Refusal}
use Rattle.source_step.specs.Ready.{numbers_of}
use Rattle.source_step.specs.Table.{Table, declared_by, takes_by, after_by, effects_by, values_by, price_by, RowsOf, Inside}
use Rattle.source_step.proofs.Tables.{step-agrees, inside-after}
use Rattle.plan_strokes.specs.Strokes.{strokes_of, macro_steps}
use Rattle.plan_strokes.specs.Opening.{Marked, Opened}
use Rattle.plan_strokes.proofs.Prices.{price-is}
use Rattle.plan_strokes.proofs.Walks.{walk_is_lem, steps-length, targets-once}
use Rattle.source_walk.specs.Walk.{Walk, first_passing, walk_from}
use Rattle.plan_expand.specs.Expanding.{opening_in, Named, goes_by, numbers_by, expansion_by}

not_through : (reason : Reason) (place : ℕ) → ◌≡◌ {A = Result ⊤ Refusal} (Err (record { reason = reason; place = place })) (Ok tt) → ⊥
not_through reason place e = let z : ◌≡◌ {A = ℕ} 0 1 = cc in absurd (omega arith)

-- ---- what a step that goes on is known of
module _ (T : Table) (k : ℕ) (ks : List ℕ) (x : State) (h : goes_by T (k ∷ ks) x ≡ true) where
  parts : (ltb k T.count && (takes_by T x k && goes_by T ks (after_by T x k))) ≡ true
  unfolding goes_by
  parts = h

  pub below : k < T.count
  below = ltb-true k T.count (and_left (ltb k T.count) (takes_by T x k && goes_by T ks (after_by T x k)) parts)

  pub applies : takes_by T x k ≡ true
  applies = and_left (takes_by T x k) (goes_by T ks (after_by T x k)) (and_right (ltb k T.count) (takes_by T x k && goes_by T ks (after_by T x k)) parts)

  pub goes_on_lem : goes_by T ks (after_by T x k) ≡ true
  goes_on_lem = and_right (takes_by T x k) (goes_by T ks (after_by T x k)) (and_right (ltb k T.count) (takes_by T x k && goes_by T ks (after_by T x k)) parts)

module _ (T : Table) where
  abbrev stops : Reason → ℕ → ℕ → ℕ → State → Walk
  stops reason i price passing x = record { progress = Err (record { reason = reason; place = i }); price = price; passing = passing; state = x }

  -- ---- a walk that goes through
  pub walk-goes : (p : List ℕ) (i price passing : ℕ) (x : State) → (walk_from T true i price passing p x).progress ≡ Ok tt → goes_by T p x ≡ true
  unfolding walk_from goes_by
  walk-goes [] i price passing x h = refl
  walk-goes (k ∷ ks) i price passing x h = go (ltb k T.count) (takes_by T x k) _ (walk-goes ks (suc i) (price + price_by T x k) (first_passing passing price (price + price_by T x k) i) (after_by T x k)) h
    where
      go : (a b : Bool) (w : Walk) → (w.progress ≡ Ok tt → goes_by T ks (after_by T x k) ≡ true) → (cond a (cond b w (stops DoesNotApply i price passing x)) (stops NoAction i price passing x)).progress ≡ Ok tt
          → (a && (b && goes_by T ks (after_by T x k))) ≡ true
      go true true w ih h = ih h
      go true false w ih h = absurd (not_through DoesNotApply i h)
      go false b w ih h = absurd (not_through NoAction i h)

  numbers-long : (openings : List ℕ) (x : State) (k : ℕ) → length (numbers_by T openings x k) ≡ price_by T x k
  numbers-long openings x k = omega (arith, steps-length (opening_in openings k + 1) (strokes_of (effects_by T k) (values_by T x)), price-is (effects_by T k) (values_by T x))

  -- its price is the length of the expansion
  pub walk-long : (openings p : List ℕ) (i price passing : ℕ) (x : State) → goes_by T p x ≡ true → (walk_from T true i price passing p x).price ≡ price + length (expansion_by T openings p x)
  unfolding walk_from goes_by expansion_by
  walk-long openings [] i price passing x h = omega arith
  walk-long openings (k ∷ ks) i price passing x h =
      let rest = expansion_by T openings ks (after_by T x k) in
      let l = length-append (numbers_by T openings x k) rest in
      go (ltb k T.count) (takes_by T x k) h (λ c d g. walk-long openings ks (suc i) c d (after_by T x k) g) ∙ omega (arith, l, numbers-long openings x k)
    where
      go : (a b : Bool) → (a && (b && goes_by T ks (after_by T x k))) ≡ true
          → ((c d : ℕ) → goes_by T ks (after_by T x k) ≡ true → (walk_from T true (suc i) c d ks (after_by T x k)).price ≡ c + length (expansion_by T openings ks (after_by T x k)))
          → (cond a (cond b (walk_from T true (suc i) (price + price_by T x k) (first_passing passing price (price + price_by T x k) i) ks (after_by T x k)) (stops DoesNotApply i price passing x)) (stops NoAction i price passing x)).price
          ≡ price + price_by T x k + length (expansion_by T openings ks (after_by T x k))
      go true true h ih = ih _ _ h
      go true false h ih = let z : ◌≡◌ {A = ℕ} 0 1 = cc in absurd (omega arith)
      go false b h ih = let z : ◌≡◌ {A = ℕ} 0 1 = cc in absurd (omega arith)

  -- each step is an action's
  pub named-all : (p : List ℕ) (x : State) → goes_by T p x ≡ true → Named p T.count
  named-all [] x h i l = absurd (omega arith)
  named-all (k ∷ ks) x h zero l = below T k ks x h
  named-all (k ∷ ks) x h (suc i) l = named-all ks (after_by T x k) (goes_on_lem T k ks x h) i (omega arith)

  -- ---- each step becomes its opening alone
  nothing : (l : List ℕ) → length l ≤ 0 → l ≡ []
  nothing [] h = refl
  nothing (x ∷ l) h = absurd (omega arith)

  no-shorter : (openings p : List ℕ) (x : State) → length p ≤ length (expansion_by T openings p x)
  unfolding expansion_by
  no-shorter openings [] x = omega arith
  no-shorter openings (k ∷ ks) x = omega (arith, no-shorter openings ks (after_by T x k), length-append (numbers_by T openings x k) (expansion_by T openings ks (after_by T x k)))

  pub openings-alone : (openings p : List ℕ) (x : State) → length (expansion_by T openings p x) ≤ length p → expansion_by T openings p x ≡ map (opening_in openings) p
  unfolding expansion_by
  openings-alone openings [] x h = refl
  openings-alone openings (k ∷ ks) x h =
      let rest = expansion_by T openings ks (after_by T x k) in
      let behind = macro_steps (opening_in openings k + 1) (strokes_of (effects_by T k) (values_by T x)) in
      let l = length-append behind rest in
      let m = no-shorter openings ks (after_by T x k) in
      ap₂ (λ (b r : List ℕ). opening_in openings k ∷ (b ++ r)) (nothing behind (omega (arith, h, l, m))) (openings-alone openings ks (after_by T x k) (omega (arith, h, l, m)))

-- ---- the rows are those of a task
module _ {t : SourceTask} {T : Table} (R : RowsOf t T) (openings : List ℕ) (opens : Opened T.marks T.count openings) where
  abbrev expansion : List ℕ → State → List ℕ
  expansion = expand_from (step_source t) (opening (lower_bounds t) (upper_bounds t) t.actions) (stage_steps_from (lower_bounds t) (upper_bounds t) t.actions)

  marked : (k : ℕ) → k < T.count → Marked t.actions T.marks k
  marked k l = let r = R.ready.rows_are k l in record { action = r.action; numbers = numbers_of T.numbers k; found = r.found; effects = r.row.effects }

  opening-is : (k : ℕ) → k < T.count → opening (lower_bounds t) (upper_bounds t) t.actions k ≡ opening_in openings k
  opening-is k l = sym (opens.is t.actions marked (lower_bounds t) (upper_bounds t) k (omega (arith, l)))

  -- what stands behind an opening, by its strokes
  behind-is : (x : State) (k : ℕ) → k < T.count → stage_steps_from (lower_bounds t) (upper_bounds t) t.actions (declared_by T x) k ≡ macro_steps (opening_in openings k + 1) (strokes_of (effects_by T k) (values_by T x))
  behind-is x k l =
      let r = R.ready.rows_are k l in
      let o = opening (lower_bounds t) (upper_bounds t) t.actions k in
      let v : ℕ → ℤ = values_by T x in
      ap (λ (b : Option SourceAction). or_empty b (λ a. stage_walk (suc o) (stages_of (lower_bounds t) (upper_bounds t) a.effects) (opened_values a v))) r.found
      ∙ walk_is_lem (lower_bounds t) (upper_bounds t) r.action v (targets-once R.ready.ok k r.action r.found) (suc o)
      ∙ ap₂ (λ (j : ℕ) (es : List Effect). macro_steps j (strokes_of es v)) (sym (add-one o) ∙ ap (λ (j : ℕ). j + 1) (opening-is k l)) (sym r.row.effects)

  pub expansion-agrees : (p : List ℕ) (x : State) → Inside R x → goes_by T p x ≡ true
      → expand_from (step_source t) (opening (lower_bounds t) (upper_bounds t) t.actions) (stage_steps_from (lower_bounds t) (upper_bounds t) t.actions) p (declared_by T x) ≡ expansion_by T openings p x
  unfolding expansion_by
  expansion-agrees [] x I h = refl
  expansion-agrees (k ∷ ks) x I h =
      let l = below T k ks x h in
      let a = applies T k ks x h in
      let y = after_by T x k in
      let s : step_source t (declared_by T x) k ≡ some (declared_by T y) = step-agrees R x I k l ∙ ap (λ (b : Bool). provided b (declared_by T y)) a in
      ap₂ (λ (j : ℕ) (o : Option State). j ∷ (stage_steps_from (lower_bounds t) (upper_bounds t) t.actions (declared_by T x) k ++ or_empty o (expansion ks))) (opening-is k l) s
      ∙ ap₂ (λ (b r : List ℕ). opening_in openings k ∷ (b ++ r)) (behind-is x k l) (expansion-agrees ks y (inside-after R x I k l a) (goes_on_lem T k ks x h))
