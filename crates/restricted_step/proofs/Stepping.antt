-- One step by rows, as its test and its sums decide it: once each amount is the amount.
-- Assumes nothing.
use mathlib.Core.Path.{◌≡◌, refl, ap, ap₂, ◌∙◌}
use Prim.Native.Nat.{ℕ}
use mathlib.Core.Bool.{Bool, true, false, cond}
use mathlib.Core.Option.{none, some}
use mathlib.Core.List.{List, [], ◌∷◌, map}
use lib.IntN.{ℤ, pos, ◌*ℤ◌}
use Rattle.integers.proofs.Parts.{ints, mul}
use Rattle.model.specs.Tasks.{RestrictedAction, State}
use Rattle.model.specs.Systems.{bind, provided}
use Rattle.model.specs.Steps.{add_all, set_all, values_within, applies_restricted, figure}
use Rattle.restricted_step.specs.Steps.{state_of}
use Rattle.restricted_step.specs.Steps.{step_by, scaled, summed}

pub map-scaled-once : (es : List (ℕ × ℤ)) → map (scaled 1) es ≡ es
map-scaled-once [] = refl
map-scaled-once (e ∷ es) = ap₂ ◌∷◌ (ap (λ (z : ℤ). (e.0, z)) once) (map-scaled-once es)
  where
    once : pos 1 *ℤ e.1 ≡ e.1
    once = omega (ints, mul (pos 1) e.1)

-- an action whose conditions do not hold does not apply
pub not-held : (a : RestrictedAction) (x : State) → applies_restricted a x ≡ false → none ≡ step_by a x
unfolding step_by
not-held a x e = rw e refl

-- values, where there are any, and the modes beside them
beside : (r b : Bool) (values sums : List ℤ) (modes : List ℕ) → cond r (some values) none ≡ provided b sums
    → cond r (some (state_of values modes)) none ≡ provided b (state_of sums modes)
beside true true values sums modes e = ap (λ o. bind o (λ l. some (state_of l modes))) e
beside true false values sums modes e = ap (λ o. bind o (λ l. some (state_of l modes))) e
beside false true values sums modes e = ap (λ o. bind o (λ l. some (state_of l modes))) e
beside false false values sums modes e = refl

-- where they hold, the sums decide
pub held : (a : RestrictedAction) (values : List ℤ) (modes : List ℕ) (r : Bool) (sums : List ℤ) → applies_restricted a (state_of values modes) ≡ true
    → cond r (some sums) none ≡ summed 1 a values
    → cond r (some (state_of sums (set_all a.mode_effects modes))) none ≡ step_by a (state_of values modes)
unfolding step_by summed
held a values modes r sums e s =
    rw e (beside r (values_within figure (add_all a.additions values)) sums (add_all a.additions values) (set_all a.mode_effects modes)
    (s ∙ ap (λ es. provided (values_within figure (add_all es values)) (add_all es values)) (map-scaled-once a.additions)))
