-- A step in a lent state: the tests before it, and the step by rows on the declared values, which stand before zeros there.
-- Assumes nothing.
use mathlib.Core.Path.{◌≡◌, refl, sym, ap, ◌∙◌}
use Prim.Native.Nat.{ℕ}
use native.Mathlib.Omega.{arith}
use mathlib.Core.Bool.{Bool, true, false, ◌&&◌, cond, false≢true}
use mathlib.Core.Option.{Option, none, some}
use mathlib.Core.List.{List, ◌++◌}
use lib.ListN.{length, take, drop, replicate, length-replicate, length-append, length-take, length-drop, take-append-drop}
use lib.Seq.{length-take-le, take_at}
use lib.IntN.{ℤ, pos}
use Rattle.model.specs.Tasks.{State}
use Rattle.model.specs.Systems.{bind, provided}
use Rattle.model.specs.Steps.{values_within, modes_below_sizes, sound_restricted, applies_restricted, apply_restricted, try_restricted, figure}
use Rattle.model.specs.Judging.{declared_part}
use Rattle.file_parts.specs.Row.{row_is}
use Rattle.restricted_step.specs.Sizes.{VARIABLES, MODES}
use Rattle.restricted_step.specs.Steps.{state_of, step_by, CanTake}
use Rattle.restricted_step.specs.Whole.{step_of, Standing}
use Rattle.restricted_step.proofs.Usable.{usable}
use Rattle.restricted_step.proofs.Whole.{within-append, zeros_within, below-declared, stays, goes}
use Rattle.restricted_state.specs.Step.{RowFor, handed_back, stepped}

and-false : (b : Bool) → (b && false) ≡ false
and-false true = refl
and-false false = refl

-- the declared values before zeros
abbrev pub front : ℕ → List ℤ → List ℤ
front n values = take n values ++ drop n (replicate VARIABLES (pos 0))

module _ {n m : ℕ} {sizes marks : List ℕ} {numbers : List ℤ} (row : RowFor n m sizes marks numbers) (values : List ℤ) (modes : List ℕ)
    (values_long : length values ≡ VARIABLES) (modes_long : length modes ≡ MODES) where
  abbrev x : State
  x = state_of values modes

  -- ---- in an unsound state no action applies
  unsound : sound_restricted (take m sizes) (declared_part n m x) ≡ false → none ≡ step_of (take m sizes) (declared_part n m x) (row_is marks numbers)
  unfolding step_of
  unsound e = go (applies_restricted (row_is marks numbers) (declared_part n m x))
      ∙ ap (λ (s : Bool). bind (try_restricted (declared_part n m x) (row_is marks numbers))
      (λ y. cond s (cond (sound_restricted (take m sizes) y) (some y) none) none)) (sym e)
    where
      go : (t : Bool) → ◌≡◌ {A = Option State} none (bind (provided t (apply_restricted (row_is marks numbers) (declared_part n m x))) (λ (y : State). none))
      go true = refl
      go false = refl

  pub values-stop : values_within figure (take n values) ≡ false → (false, x) ≡ stepped n m sizes marks numbers x
  values-stop e = ap (handed_back n m x) (unsound (rw e))

  pub modes-stop : modes_below_sizes (take m sizes) (take m modes) ≡ false → (false, x) ≡ stepped n m sizes marks numbers x
  modes-stop e = ap (handed_back n m x) (unsound (rw e (and-false (values_within figure (take n values)))))

  module _ (within : values_within figure (take n values) ≡ true) where
    front-within : values_within figure (front n values) ≡ true
    front-within = within-append (take n values) (drop n (replicate VARIABLES (pos 0))) within (zeros_within n VARIABLES)

    pub can-take : CanTake (front n values) marks numbers
    can-take = record {
      usable = usable n (take m sizes) marks numbers row.variables_few (omega (arith, length-take m sizes, row.modes_few, row.sizes_long)) row.ok;
      within = front-within;
    }

    module _ (below : modes_below_sizes (take m sizes) (take m modes) ≡ true) where
      many : length (take m sizes) ≡ m
      many = length-take-le m sizes (omega (arith, row.sizes_long, row.modes_few))

      counted : length (take n values) ≡ n
      counted = length-take-le n values (omega (arith, values_long, row.variables_few))

      standing : Standing n (take m sizes) (state_of (front n values) modes)
      standing = record {
        values_long = omega (arith, length-append (take n values) (drop n (replicate VARIABLES (pos 0))), counted);
        modes_long = omega (arith, many, modes_long, row.modes_few);
        within = front-within;
        below = sym (below-declared m (take m sizes) modes many) ∙ below;
      }

      same-declared : declared_part n m (state_of (front n values) modes) ≡ declared_part n m x
      same-declared = λ i. state_of (take_at (take n values) (drop n (replicate VARIABLES (pos 0))) n counted i) (take m modes)

      -- ---- the step by rows decides
      pub step-stops : none ≡ step_by (row_is marks numbers) (state_of (front n values) modes) → (false, x) ≡ stepped n m sizes marks numbers x
      step-stops e = ap (handed_back n m x)
          (sym (stays n m (take m sizes) many (row_is marks numbers) row.ok (state_of (front n values) modes) standing (sym e))
          ∙ ap (λ (y : State). step_of (take m sizes) y (row_is marks numbers)) same-declared)

      -- where it goes, the array is as long as before
      pub front_long : {values' : List ℤ} {modes' : List ℕ}
          → some (state_of values' modes') ≡ step_by (row_is marks numbers) (state_of (front n values) modes) → length values' ≡ VARIABLES
      front_long {values'} {modes'} e =
          let (s, stood, spared) =
          goes n m (take m sizes) many (row_is marks numbers) row.ok (state_of (front n values) modes) standing (state_of values' modes') (sym e) in
          omega (
            arith,
            spared.values.long,
            length-append (take n values) (drop n (replicate VARIABLES (pos 0))),
            counted,
            length-drop n (replicate VARIABLES (pos 0)),
            length-replicate VARIABLES (pos 0),
            row.variables_few,
          )

      pub step-goes : {values' : List ℤ} {modes' : List ℕ} → some (state_of values' modes') ≡ step_by (row_is marks numbers) (state_of (front n values) modes)
          → (true, state_of (take n values' ++ drop n values) modes') ≡ stepped n m sizes marks numbers x
      step-goes {values'} {modes'} e =
          let (s, stood, spared) =
          goes n m (take m sizes) many (row_is marks numbers) row.ok (state_of (front n values) modes) standing (state_of values' modes') (sym e) in
          let w : modes' ≡ take m modes' ++ drop m modes = sym (take-append-drop m modes') ∙ ap (λ (l : List ℕ). take m modes' ++ l) spared.modes.rest in
          (λ i. (true, state_of (take n values' ++ drop n values) (w i)))
          ∙ ap (handed_back n m x) (sym s ∙ ap (λ (y : State). step_of (take m sizes) y (row_is marks numbers)) same-declared)

-- ---- where an action doesn't apply, the state before is handed back
pub stays-put : (n m : ℕ) (x : State) (o : Option State) → false ≡ (handed_back n m x o).0 → (false, x) ≡ handed_back n m x o
stays-put n m x none e = refl
stays-put n m x (some y) e = absurd (false≢true e)
