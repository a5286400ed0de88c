-- One step of a source state, in the words of the model.
-- Assumes nothing.
use Rattle.std.specs.Prelude.{◌≡◌, ℕ, ◌≤◌, Bool, true, false, cond, List, [], ◌∷◌, ltb, length, take, drop, set, ℤ}
use Rattle.std.proofs.Math.Option.{Option, none, some}
use Rattle.model.specs.Tasks.{SourceAction, State}
use Rattle.model.specs.Systems.{bind, provided}
use Rattle.model.specs.Steps.{integer_at, try_source, sound_source}
use Rattle.model.specs.Judging.{declared_part, with_rest}
use Rattle.source_step.specs.Parts.{effects_fit}

-- the whole arrays
abbrev pub state : List ℤ → List ℕ → State
state values modes = record { values = values; modes = modes }

-- A step of a task with these bounds and sizes, by its action: as the model's step by number. An action whose effects could leave 64 bits, which
-- none of an accepted file does in a state within its bounds, doesn't apply
unfoldable pub step_of : List ℤ → List ℤ → List ℕ → State → SourceAction → Option State
step_of lower upper sizes x a =
    cond (effects_fit a.effects (integer_at x.values))
    (bind (try_source (integer_at lower) (integer_at upper) x a)
    (λ y. cond (sound_source (integer_at lower) (integer_at upper) sizes x)
    (cond (sound_source (integer_at lower) (integer_at upper) sizes y) (some y) none) none))
    none

-- whether the action applies, and the state after it with the rest of the arrays as before; where it doesn't, the state before
abbrev pub handed_back : ℕ → ℕ → State → Option State → Bool × State
handed_back n m x none = (false, x)
handed_back n m x (some y) = (true, with_rest n m x y)

-- of arrays for more variables and modes than the n and m declared
abbrev pub stepped_in : ℕ → ℕ → List ℤ → List ℤ → List ℕ → State → SourceAction → Bool × State
stepped_in n m lower upper sizes x a = handed_back n m x (step_of (take n lower) (take n upper) (take m sizes) (declared_part n m x) a)

-- an element stored among the first n of a list, or nowhere
abbrev pub set_at : {A : Type 0} → ℕ → List A → ℕ → A → List A
set_at n l i x = cond (ltb i n) (set l i x) l

-- likewise what effects give their targets, one after the other
abbrev pub settled : ℕ → List (ℕ × ℤ) → List ℤ → List ℤ
settled n [] l = l
settled n (p ∷ ps) l = settled n ps (set_at n l p.0 p.1)

-- n variables and m modes are declared, and there is an element for each
pub record Shaped (n m : ℕ) (values : List ℤ) (modes sizes : List ℕ) : Type 0 where
  pub variables_few : n ≤ 8
  pub modes_few : m ≤ 4
  pub values_long : length values ≡ 8
  pub modes_long : length modes ≡ 4
  pub sizes_long : length sizes ≡ 4

-- an action was tried: the answer r, and the arrays after
pub record Tried (n m : ℕ) (lower upper : List ℤ) (sizes : List ℕ) (values : List ℤ) (modes : List ℕ) (a : SourceAction) (r : Bool) (values' : List ℤ)
    (modes' : List ℕ) : Type 0 where
  pub meets : (r, state values' modes') ≡ stepped_in n m lower upper sizes (state values modes) a
  pub declares : step_of (take n lower) (take n upper) (take m sizes) (declared_part n m (state values modes)) a
      ≡ provided r (declared_part n m (state values' modes'))
  pub values_long : length values' ≡ 8
  pub modes_long : length modes' ≡ 4

-- past the first n values and m modes the arrays are as before
pub record Kept (n m : ℕ) (values : List ℤ) (modes : List ℕ) (values' : List ℤ) (modes' : List ℕ) : Type 0 where
  pub values_kept : drop n values' ≡ drop n values
  pub modes_kept : drop m modes' ≡ drop m modes
