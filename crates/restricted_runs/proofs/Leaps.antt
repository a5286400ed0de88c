-- Leaps over many steps: what the tests before and behind them tell, and that one leap goes on after another.
-- Assumes nothing.
use mathlib.Core.Path.{◌≡◌, refl, sym, ap, ◌∙◌, subst}
use Prim.Native.Nat.{ℕ, zero, suc, ◌+◌, ◌≤◌, ◌<◌}
use native.Mathlib.Omega.{arith}
use mathlib.Core.Bool.{Bool, true, false}
use mathlib.Core.Option.{Option, none, some, none-ne-some, some-injective}
use mathlib.Core.List.{List}
use lib.IntN.{ℤ}
use Rattle.integers.specs.All.{All}
use Rattle.lists.specs.Each.{tabulate}
use Rattle.model.specs.Tasks.{RestrictedAction, State}
use Rattle.model.specs.Systems.{bind, provided}
use Rattle.model.specs.Steps.{natural_at, set_all, values_within, applies_restricted, figure}
use Rattle.restricted_step.specs.Steps.{state_of}
use Rattle.file_parts.specs.Layout.{condition_count}
use Rattle.file_parts.specs.Row.{condition_in, row_is}
use Rattle.restricted_step.specs.Steps.{step_by, sums_of, summed, behind}
use Rattle.restricted_runs.specs.Repeats.{steps_by, Leapt}
use Rattle.restricted_runs.proofs.Repeating.{Plain, PlainMeasure, Good, repeats}

-- ---- each condition that rows say measures one variable
all-tabulated : {A : Type 0} (P : A → Type 0) (count : ℕ) (f : ℕ → A) → ((i : ℕ) → P (f i)) → All P (tabulate count f)
unfolding tabulate
all-tabulated P zero f h = tt
all-tabulated P (suc count) f h = (h 0, all-tabulated P count (λ i. f (suc i)) (λ i. h (suc i)))

pub conditions-plain : (marks : List ℕ) (numbers : List ℤ) → All Plain (row_is marks numbers).conditions
unfolding Plain PlainMeasure
conditions-plain marks numbers = all-tabulated Plain (natural_at marks condition_count) (condition_in marks numbers) (λ i. tt)

-- ---- no step
pub leapt-none : {a : RestrictedAction} {x : State} {most : ℕ} → values_within figure x.values ≡ true → Leapt a x most 0 x
unfolding steps_by
leapt-none w = record { few = omega arith; steps = refl; within = w }

-- ---- all steps at once: no sum passes the figure, and the action applies before them and behind them
passed : {A : Type 0} (x y : A) (b : Bool) → some x ≡ provided b y → b ≡ true
passed x y true e = refl
passed x y false e = absurd (none-ne-some x (sym e))

the_same : {A : Type 0} (x y : A) (b : Bool) → some x ≡ provided b y → x ≡ y
the_same x y true e = some-injective x y e
the_same x y false e = absurd (none-ne-some x (sym e))

at_once : (a : RestrictedAction) → All Plain a.conditions → (k : ℕ) (x : State) → 0 < k → Good a x → Good a (behind a k x)
    → steps_by a k x ≡ some (behind a k x)
at_once a plain zero x h g b = absurd (omega arith)
at_once a plain (suc k) x h g b = repeats a plain k x g b

module _ (a : RestrictedAction) (times : ℕ) (x y : State) (values_are : some y.values ≡ summed times a x.values)
    (modes_are : y.modes ≡ set_all a.mode_effects x.modes) where
  ahead : y ≡ behind a times x
  unfolding summed
  ahead = let v = the_same y.values (sums_of times a x.values) (values_within figure (sums_of times a x.values)) values_are in λ i. state_of (v i) (modes_are i)

  within-ahead : values_within figure (behind a times x).values ≡ true
  unfolding summed
  within-ahead = passed y.values (sums_of times a x.values) (values_within figure (sums_of times a x.values)) values_are

  pub leapt : All Plain a.conditions → 0 < times → values_within figure x.values ≡ true → applies_restricted a x ≡ true
      → applies_restricted a y ≡ true → Leapt a x times times y
  leapt plain h w before after = record {
    few = omega arith;
    steps = at_once a plain times x h (record { within = w; applies = before })
        (record { within = within-ahead; applies = subst (λ (z : State). applies_restricted a z ≡ true) ahead after }) ∙ ap some (sym ahead);
    within = subst (λ (z : State). values_within figure z.values ≡ true) (sym ahead) within-ahead;
  }

-- ---- one leap after another
pub steps_then : (a : RestrictedAction) (j k : ℕ) (x y : State) → steps_by a j x ≡ some y → steps_by a (j + k) x ≡ steps_by a k y
unfolding steps_by
steps_then a zero k x y e = let z : 0 + k ≡ k = omega arith in rw z (ap (steps_by a k) (some-injective x y e))
steps_then a (suc j) k x y e = let z : suc j + k ≡ suc (j + k) = omega arith in rw z (go (λ w. steps_then a j k w y) (step_by a x) e)
  where
    go : ((w : State) → steps_by a j w ≡ some y → steps_by a (j + k) w ≡ steps_by a k y) → (o : Option State) → bind o (steps_by a j) ≡ some y
        → bind o (steps_by a (j + k)) ≡ steps_by a k y
    go rest none e = absurd (none-ne-some y e)
    go rest (some w) e = rest w e

pub leapt-then : {a : RestrictedAction} {x y z : State} {most times j k : ℕ} → Leapt a x most j y → Leapt a y times k z → j + times ≤ most
    → Leapt a x most (j + k) z
leapt-then {a} {x} {y} {z} {most} {times} {j} {k} p q h = record {
  few = omega (arith, q.few);
  steps = steps_then a j k x y p.steps ∙ q.steps;
  within = q.within;
}
