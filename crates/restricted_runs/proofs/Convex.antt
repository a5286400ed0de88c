-- Tests that hold between any two numbers that they hold of: so does every condition, and the limit.
-- Assumes nothing.
use mathlib.Core.Path.{◌≡◌}
use mathlib.Core.Bool.{Bool, true, ◌&&◌}
use Prim.Native.Nat.{ℕ, suc, ◌*◌, ◌≤◌}
use native.Mathlib.Nat.{mul-le-mul_right}
use lib.IntN.{ℤ, pos, negsuc, nat_abs, ◌+ℤ◌, ◌*ℤ◌}
use lib.Signed.{◌≤ℤ◌, le_z}
use borrow.Author.Tests.{leb-true, le-leb}
use Rattle.integers.specs.Relation.{Relation, below, at_most, at_least, above, equal, related, within_limit}
use Rattle.lists.proofs.Loops.{and_left, and_right}
use Rattle.integers.proofs.Parts.{ints, add, mul, abs}

pub Convex : (ℤ → Bool) → Type 0
Convex p = (x y z : ℤ) → x ≤ℤ y → y ≤ℤ z → p x ≡ true → p z ≡ true → p y ≡ true

-- along a line: what holds at 0 and at m holds at each j up to m
pub on_line : (p : ℤ → Bool) → Convex p → (v c : ℤ) (j m : ℕ) → j ≤ m → p v ≡ true → p (v +ℤ pos m *ℤ c) ≡ true → p (v +ℤ pos j *ℤ c) ≡ true
unfolding Convex
on_line p h v (pos k) j m l e f =
    let g : j * k ≤ m * k = mul-le-mul_right k l in
    h v (v +ℤ pos j *ℤ pos k) (v +ℤ pos m *ℤ pos k)
    (omega (ints, mul (pos j) (pos k), add v (pos j *ℤ pos k)))
    (omega (ints, mul (pos j) (pos k), mul (pos m) (pos k), add v (pos j *ℤ pos k), add v (pos m *ℤ pos k))) e f
on_line p h v (negsuc k) j m l e f =
    let g : j * suc k ≤ m * suc k = mul-le-mul_right (suc k) l in
    h (v +ℤ pos m *ℤ negsuc k) (v +ℤ pos j *ℤ negsuc k) v
    (omega (ints, mul (pos j) (negsuc k), mul (pos m) (negsuc k), add v (pos j *ℤ negsuc k), add v (pos m *ℤ negsuc k)))
    (omega (ints, mul (pos j) (negsuc k), add v (pos j *ℤ negsuc k))) f e

pub convex-related : (r : Relation) (c : ℤ) → Convex (λ v. related r v c)
unfolding Convex
convex-related below c = λ x y z l m e f. omega ints
convex-related at_most c = λ x y z l m e f. omega ints
convex-related at_least c = λ x y z l m e f. omega ints
convex-related above c = λ x y z l m e f. omega ints
convex-related equal c = λ x y z l m e f.
    both (le_z c y) (le_z y c)
    (low x y l (and_left (le_z c x) (le_z x c) e))
    (high y z m (and_right (le_z c z) (le_z z c) f))
  where
    both : (a b : Bool) → a ≡ true → b ≡ true → a && b ≡ true
    both a b p q = rw (p, q)

    low : (x y : ℤ) → x ≤ℤ y → le_z c x ≡ true → le_z c y ≡ true
    low x y l e = omega ints

    high : (y z : ℤ) → y ≤ℤ z → le_z z c ≡ true → le_z y c ≡ true
    high y z m f = omega ints

pub convex-within : (limit : ℕ) → Convex (within_limit limit)
unfolding Convex
convex-within limit x y z l m e f = le-leb (nat_abs y) limit (omega (ints, leb-true (nat_abs x) _ e, leb-true (nat_abs z) _ f, abs x, abs y, abs z))
