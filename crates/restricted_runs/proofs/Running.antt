-- A run of one action in a plan: its steps so far lead from one state to another, and it goes on by a step, by a leap, or by a further run.
-- Assumes nothing.
use mathlib.Core.Path.{◌≡◌, refl, sym, ap, ◌∙◌, subst}
use Prim.Native.Nat.{ℕ, ◌+◌, ◌-◌, ◌≤◌, ◌<◌}
use lib.Arith.{lt_of_le-ne}
use native.Mathlib.Omega.{arith}
use mathlib.Core.Bool.{Bool, true, false, cond, ◌&&◌}
use mathlib.Core.Option.{none, some, none-ne-some, some-injective}
use mathlib.Core.List.{List}
use lib.ListN.{get_or}
use lib.IntN.{ℤ}
use Rattle.std.specs.Prelude.{Result, Ok, Err}
use Rattle.model.specs.Tasks.{RestrictedAction, State}
use Rattle.model.specs.Systems.{provided}
use Rattle.model.specs.Plans.{plan_numbers}
use Rattle.model.specs.Steps.{add_all, values_within, figure, applies_restricted, apply_restricted}
use Rattle.restricted_step.specs.Steps.{state_of}
use Rattle.file_parts.specs.Row.{row_is}
use Rattle.restricted_step.specs.Steps.{step_by}
use Rattle.restricted_runs.specs.Repeats.{steps_by, Leapt}
use Rattle.restricted_runs.specs.Runs.{Alike, Counted, CanRun, Led, Passed, Stuck, Ran}
use Rattle.restricted_runs.proofs.Alike.{alike-none, alike-one, alike_then}
use Rattle.restricted_runs.proofs.Leaps.{steps_then}

-- ---- so many steps
-- a step leaves values within the figure
step-within : (a : RestrictedAction) (x y : State) → step_by a x ≡ some y → values_within figure y.values ≡ true
unfolding step_by
step-within a x y = go (applies_restricted a x) (values_within figure (add_all a.additions x.values)) refl
  where
    go : (met within : Bool) → values_within figure (add_all a.additions x.values) ≡ within → provided (met && within) (apply_restricted a x) ≡ some y
        → values_within figure y.values ≡ true
    go true true q e = ap (λ (z : State). values_within figure z.values) (sym (some-injective (apply_restricted a x) y e)) ∙ q
    go true false q e = absurd (none-ne-some y e)
    go false within q e = absurd (none-ne-some y e)

steps-one : (a : RestrictedAction) (x y : State) → step_by a x ≡ some y → steps_by a 1 x ≡ some y
unfolding steps_by
steps-one a x y e = rw e refl

-- ---- a run that has come to step i
pub record Running (a : RestrictedAction) (x : State) (k : ℕ) (plan : List ℕ) (from steps i : ℕ) (y : State) : Type 0 where
  pub led : Led a x k plan from i y
  pub bound : i ≤ steps
  pub within : values_within figure y.values ≡ true

module _ {a : RestrictedAction} {x : State} {k : ℕ} {plan : List ℕ} {from steps : ℕ} where
  pub run-start : from ≤ steps → values_within figure x.values ≡ true → Running a x k plan from steps from x
  unfolding steps_by
  run-start h w = record { led = record { taken = 0; there = omega arith; alike = alike-none k plan from; steps = refl }; bound = h; within = w }

  -- by leaps
  pub run-leaps : {count taken : ℕ} {y : State} → Counted k plan from steps count → Leapt a x (count - 1) taken y
      → Running a x k plan from steps (from + taken) y
  run-leaps {count} {taken} c l = record {
    led = record { taken = taken; there = refl; alike = λ j h. c.alike j (omega (arith, l.few)); steps = l.steps };
    bound = omega (arith, l.few, c.some, c.there);
    within = l.within;
  }

  module _ {i : ℕ} {y : State} (R : Running a x k plan from steps i y) where
    led-then : {j : ℕ} {z : State} → Led a y k plan i j z → Led a x k plan from j z
    led-then {j} {z} L = record {
      taken = R.led.taken + L.taken;
      there = omega (arith, R.led.there, L.there);
      alike = alike_then k plan from R.led.taken L.taken R.led.alike (subst (λ (l : ℕ). Alike k plan l L.taken) R.led.there L.alike);
      steps = steps_then a R.led.taken L.taken x y R.led.steps ∙ L.steps;
    }

    -- ---- it ends: another number follows, or none
    pub run-passes : from < i → Passed a x k plan from steps i y
    run-passes h = record { led = R.led; onward = h; bound = R.bound; within = R.within }

    pub run-ends : from < steps → steps ≤ i → Passed a x k plan from steps steps y
    run-ends h e = let all : i ≡ steps = omega (arith, R.bound) in subst (λ (j : ℕ). Passed a x k plan from steps j y) all (run-passes (omega arith))

    pub run-changes : get_or (plan_numbers plan) from 0 ≡ k → (get_or (plan_numbers plan) i 0 ≡ k → ⊥) → Passed a x k plan from steps i y
    run-changes first other =
        run-passes (lt_of_le-ne (omega (arith, R.led.there)) (λ e. other (ap (λ (j : ℕ). get_or (plan_numbers plan) j 0) (sym e) ∙ first)))

    -- ---- it goes on by a step
    module _ (more : i < steps) (takes : get_or (plan_numbers plan) i 0 ≡ k) where
      pub run-stops : step_by a y ≡ none → Stuck a x k plan from steps i
      run-stops e = record { here = y; led = R.led; more = more; takes = takes; refuses = e }

      pub run-next : {z : State} → step_by a y ≡ some z → Running a x k plan from steps (i + 1) z
      run-next {z} e = record {
        led = led-then (record { taken = 1; there = refl; alike = alike-one k plan i takes; steps = steps-one a y z e });
        bound = omega arith;
        within = step-within a y z e;
      }

    -- ---- it goes on by a run
    pub run_on : (r : Result ℕ ℕ) (z : State) → Ran a y k plan i steps r z → Ran a x k plan from steps r z
    run_on (Ok j) z N = record { led = led-then N.led; onward = omega (arith, R.led.there, N.onward); bound = N.bound; within = N.within }
    run_on (Err j) z N = record { here = N.here; led = led-then N.led; more = N.more; takes = N.takes; refuses = N.refuses }

-- ---- by rows
module _ {values : List ℤ} {marks : List ℕ} {numbers : List ℤ} {k : ℕ} {plan : List ℕ} {from steps : ℕ}
    (can : CanRun values marks numbers k plan from steps) where
  -- its first step
  pub run-first : {modes : List ℕ} {r : Bool} {y : State} → r ≡ true → cond r (some y) none ≡ step_by (row_is marks numbers) (state_of values modes)
      → Running (row_is marks numbers) (state_of values modes) k plan from steps (from + 1) y
  run-first e d = run-next (run-start (omega (arith, can.more)) can.can_take.within) can.more can.takes (sym (rw e at d))

  -- what a run from a later step on asks
  pub can-run-on : {values' : List ℤ} {i : ℕ} → values_within figure values' ≡ true → i < steps → get_or (plan_numbers plan) i 0 ≡ k
      → CanRun values' marks numbers k plan i steps
  can-run-on w h e = record
      { can_take = record { usable = can.can_take.usable; within = w }; steps_are = can.steps_are; long = can.long; few = can.few; more = h; takes = e }
