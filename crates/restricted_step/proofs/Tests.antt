-- The tests of the model as tests of every element, so that a loop over an array makes them; and of each element, by its number.
-- Assumes nothing.
use mathlib.Core.Path.{◌≡◌, refl, sym, ap, ap₂}
use Prim.Native.Nat.{ℕ, zero, suc, ◌+◌}
use native.Mathlib.Omega.{arith}
use mathlib.Core.Bool.{Bool, true, ◌&&◌}
use mathlib.Core.List.{List, [], ◌∷◌}
use lib.Dec.{eqb}
use lib.IntN.{ℤ}
use mir.Facts.{to_z-of_z}
use mir.Syntax.{w64}
use mir.Val.{SFits, to_z, of_z}
use borrow.Author.Tests.{le-leb}
use Rattle.integers.specs.Relation.{relation_of, related, within_limit}
use Rattle.lists.specs.Loops.{every}
use Rattle.lists.proofs.Loops.{and_left, and_right}
use Rattle.model.specs.Tasks.{NumericCondition}
use Rattle.model.specs.Steps.{measure, conditions_hold, modes_hold, values_within, integer_at, natural_at}
use Rattle.file_parts.specs.Layout.{condition_variable, condition_relation}
use Rattle.file_parts.specs.Row.{condition_in}

-- ---- each test of the model, as one of every element
abbrev pub condition_holds : (ℕ → ℤ) → NumericCondition ℕ → Bool
condition_holds v c = related c.relation (measure c.measured v) c.constant

-- the code's test of condition i of two rows: the numbers that it reads are 64 bits
pub condition-tested : (values numbers : List ℤ) (marks : List ℕ) (i : ℕ) {r : Bool}
    → SFits w64 (integer_at values (natural_at marks (condition_variable + i))) → SFits w64 (integer_at numbers i)
    → r ≡ related (relation_of (natural_at marks (condition_relation + i)))
    (to_z w64 (of_z w64 (integer_at values (natural_at marks (condition_variable + i))))) (to_z w64 (of_z w64 (integer_at numbers i)))
    → condition_holds (integer_at values) (condition_in marks numbers i) ≡ r
condition-tested values numbers marks i v k e = sym (simp (to_z-of_z v, to_z-of_z k) at e)

pub conditions-every : (v : ℕ → ℤ) (cs : List (NumericCondition ℕ)) → conditions_hold cs v ≡ every (condition_holds v) cs
conditions-every v [] = refl
conditions-every v (c ∷ cs) = ap (λ (b : Bool). condition_holds v c && b) (conditions-every v cs)

abbrev pub mode_holds : (ℕ → ℕ) → ℕ × ℕ → Bool
mode_holds m p = eqb (m p.0) p.1

pub modes-every : (m : ℕ → ℕ) (ps : List (ℕ × ℕ)) → modes_hold ps m ≡ every (mode_holds m) ps
modes-every m [] = refl
modes-every m (p ∷ ps) = ap (λ (b : Bool). mode_holds m p && b) (modes-every m ps)

-- ---- values within a limit, by number: past the last a value is 0
pub within-at : (limit : ℕ) (l : List ℤ) → values_within limit l ≡ true → (i : ℕ) → within_limit limit (integer_at l i) ≡ true
within-at limit [] e i = le-leb 0 limit (omega arith)
within-at limit (z ∷ l) e zero = and_left (within_limit limit z) (values_within limit l) e
within-at limit (z ∷ l) e (suc i) = within-at limit l (and_right (within_limit limit z) (values_within limit l) e) i

pub at-within : (limit : ℕ) (l : List ℤ) → ((i : ℕ) → within_limit limit (integer_at l i) ≡ true) → values_within limit l ≡ true
at-within limit [] h = refl
at-within limit (z ∷ l) h = ap₂ ◌&&◌ (h 0) (at-within limit l (λ i. h (suc i)))
