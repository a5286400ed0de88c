-- A step by the rows of a task is the task's step, in every state within its bounds; the state after lies within them too.
-- Assumes nothing.
use mathlib.Core.Path.{◌≡◌, refl, sym, ap, ◌∙◌}
use Prim.Native.Nat.{ℕ, ◌<◌, ◌≤◌}
use native.Mathlib.Omega.{arith}
use native.Mathlib.Decide.{ℕ_discrete}
use mathlib.Core.Bool.{Bool, true, false, cond, ◌&&◌}
use mathlib.Core.Option.{Option}
use mathlib.Core.List.{List}
use lib.ListN.{take}
use lib.IntN.{ℤ}
use Rattle.model.specs.Tasks.{Effect, SourceAction, SourceTask, State}
use Rattle.model.specs.Systems.{provided, or_zero}
use Rattle.model.specs.Steps.{natural_at, integer_at, modes_hold, conditions_hold, results, within_bounds, lower_bounds, upper_bounds, step_source, source_goal_holds}
use Rattle.model.specs.Expansion.{price_of_effects, price_from}
use Rattle.source_step.specs.Step.{state, Kept}
use Rattle.source_step.specs.Row.{Usable, Stepped}
use Rattle.source_step.specs.Ready.{marks_of, numbers_of, sums_of, Standing, RowAt}
use Rattle.source_step.specs.Table.{Table, declared_by, held_by, takes_by, after_by, goal_by, price_by, Usables, RowsOf, Inside}
use Rattle.source_step.proofs.Standing as standing

module _ {t : SourceTask} {T : Table} (R : RowsOf t T) where
  abbrev row_at : (k : ℕ) → k < T.count → RowAt t.actions T.variables T.modes R.lower R.upper R.sizes T.marks T.numbers k
  row_at = R.ready.rows_are

  pub usables : Usables T
  usables = record {
    variables_few = R.variables_few;
    modes_few = R.modes_few;
    actions_few = omega (arith, R.ready.counted, R.ready.ok.actions_few);
    marks_long = R.ready.marks_long;
    numbers_long = R.ready.numbers_long;
    usable = λ k l. go k l (ℕ_discrete k T.count);
  }
    where
      go : (k : ℕ) → k ≤ T.count → Dec (k ≡ T.count) → Usable T.variables (marks_of T.marks k) (numbers_of T.numbers k) (sums_of T.numbers)
      go k l (yes e) = rw e R.ready.goal_row.usable
      go k l (no e) = (row_at k (omega arith)).row.usable

  -- the price of a step
  pub price-agrees : (x : State) (k : ℕ) → k < T.count → price_from t.actions (declared_by T x) k ≡ price_by T x k
  price-agrees x k l =
      let r = row_at k l in
      let v : ℕ → ℤ = integer_at (take T.variables x.values) in
      ap (λ (o : Option SourceAction). or_zero o (λ a. price_of_effects a.effects v)) r.found ∙ ap (λ (es : List Effect). price_of_effects es v) (sym r.row.effects)

  module _ (x : State) (I : Inside R x) where
    abbrev pub stands : Standing T.count T.marks T.numbers T.variables R.lower R.upper T.modes R.sizes x.values x.modes
    stands = record { task = t; ready = R.ready; shaped = I.shaped; sound = I.sound }

    pub goal-agrees : goal_by T x ≡ source_goal_holds t (declared_by T x)
    goal-agrees = standing.goal-met stands

    module _ (k : ℕ) (l : k < T.count) where
      abbrev after : State
      after = after_by T x k

      abbrev b : Bool
      b = takes_by T x k

      stepped : Stepped T.variables T.modes (marks_of T.marks k) (numbers_of T.numbers k) (sums_of T.numbers) x.values x.modes
          b (cond b after.values x.values) (cond b after.modes x.modes)
      stepped = record { is = refl; values_are = refl; modes_are = refl }

      pub step-agrees : step_source t (declared_by T x) k ≡ provided (takes_by T x k) (declared_by T (after_by T x k))
      step-agrees = standing.step l I.shaped stepped t R.ready ∙ there b
        where
          there : (c : Bool) → provided c (declared_by T (state (cond c after.values x.values) (cond c after.modes x.modes))) ≡ provided c (declared_by T after)
          there true = refl
          there false = refl

      module _ (h : takes_by T x k ≡ true) where
        taken : Stepped T.variables T.modes (marks_of T.marks k) (numbers_of T.numbers k) (sums_of T.numbers) x.values x.modes
            true after.values after.modes
        taken = record { is = sym h; values_are = rw h refl; modes_are = rw h refl }

        pub inside-after : Inside R (after_by T x k)
        inside-after = record { shaped = standing.shaped-after l I.shaped taken t R.ready; sound = standing.sound-then l I.shaped taken t R.ready I.sound }

        pub kept-after : Kept T.variables T.modes x.values x.modes (after_by T x k).values (after_by T x k).modes
        kept-after = standing.kept l I.shaped taken t R.ready

      -- an action whose conditions hold and that does not apply has a result out of bounds
      pub turned-back : held_by T x k ≡ true → takes_by T x k ≡ false
          → within_bounds (lower_bounds t) (upper_bounds t) (results (R.ready.rows_are k l).action.effects (integer_at (take T.variables x.values))) ≡ false
      turned-back h e = standing.turned-back l I.shaped stepped t R.ready h e

      -- the rows ask just the conditions
      pub held-agrees : let a = (row_at k l).action in held_by T x k ≡ (modes_hold a.mode_conditions (natural_at (declared_by T x).modes) && conditions_hold a.conditions (integer_at (declared_by T x).values))
      held-agrees = standing.opens stands l
