-- What trying an action leaves: what stands past the declared variables and modes stays.
-- Assumes nothing.
use mathlib.Core.Path.{◌≡◌, refl, ap, ◌∙◌}
use Prim.Native.Nat.{ℕ}
use native.Mathlib.Omega.{arith}
use mathlib.Core.Bool.{Bool, true, false, cond}
use mathlib.Core.List.{List, [], ◌∷◌}
use lib.ListN.{length, length-set, take, drop}
use lib.Seq.{length-take-le, drop_at}
use lib.IntN.{ℤ}
use Rattle.model.specs.Tasks.{SourceAction, State}
use Rattle.model.specs.Steps.{set_all}
use Rattle.model.specs.Systems.{provided}
use Rattle.model.specs.Judging.{declared_part}
use Rattle.source_step.specs.Step.{state, handed_back, Shaped, Tried, Kept}

pub chosen-first : {A : Type 0} {z : A} (b : Bool) (x y : A) → z ≡ cond b x y → b ≡ true → z ≡ x
chosen-first b x y e t = e ∙ ap (λ (c : Bool). cond c x y) t

pub chosen-second : {A : Type 0} {z : A} (b : Bool) (x y : A) → z ≡ cond b x y → b ≡ false → z ≡ y
chosen-second b x y e t = e ∙ ap (λ (c : Bool). cond c x y) t

pub length-set_all : {A : Type 0} (es : List (ℕ × A)) (l : List A) → length (set_all es l) ≡ length l
length-set_all [] l = refl
length-set_all (e ∷ es) l = length-set_all es _ ∙ length-set l e.0 e.1

-- ---- what stands past the declared variables and modes stays
pub kept_same : {n m : ℕ} {values : List ℤ} {modes : List ℕ} → Kept n m values modes values modes
kept_same = record { values_kept = refl; modes_kept = refl }

pub kept_then : {n m : ℕ} {values values' values'' : List ℤ} {modes modes' modes'' : List ℕ} → Kept n m values modes values' modes' → Kept n m values' modes' values'' modes'' → Kept n m values modes values'' modes''
kept_then a b = record { values_kept = b.values_kept ∙ a.values_kept; modes_kept = b.modes_kept ∙ a.modes_kept }

module _ {n m : ℕ} {lower upper : List ℤ} {sizes : List ℕ} {values : List ℤ} {modes : List ℕ} {a : SourceAction} where
  pub tried-keeps : {b : Bool} {values' : List ℤ} {modes' : List ℕ} → Shaped n m values modes sizes → Tried n m lower upper sizes values modes a b values' modes' → Kept n m values modes values' modes'
  tried-keeps {b} {values'} {modes'} h T = go b (ap (λ (p : Bool × State). p.1) (T.meets ∙ ap (handed_back n m (state values modes)) T.declares))
    where
      go : (c : Bool) → state values' modes' ≡ (handed_back n m (state values modes) (provided c (declared_part n m (state values' modes')))).1 → Kept n m values modes values' modes'
      go true e = record {
        values_kept = ap (λ (x : State). drop n x.values) e ∙ drop_at (take n values') (drop n values) n (length-take-le n values' (omega (arith, T.values_long, h.variables_few)));
        modes_kept = ap (λ (x : State). drop m x.modes) e ∙ drop_at (take m modes') (drop m modes) m (length-take-le m modes' (omega (arith, T.modes_long, h.modes_few)));
      }
      go false e = record { values_kept = ap (λ (x : State). drop n x.values) e; modes_kept = ap (λ (x : State). drop m x.modes) e }
