-- The digits of a number, by its last digit: a number below 10 is its digit (`one`), and any other has the digits of its tenth, then its
-- last (`more`).
-- Assumes nothing.
use mathlib.Core.Path.{◌≡◌, refl, ap}
use mathlib.Core.Bool.{Bool, true, false}
use mathlib.Core.List.{[], ◌∷◌, ◌++◌}
use Prim.Native.Nat.{ℕ, zero, suc, ◌+◌, ◌/◌, ◌%◌, ◌^◌, ◌<◌, ◌≤◌}
use native.Mathlib.Nat.{not-suc-le-zero, pow-succ'}
use native.Mathlib.Omega.{arith}
use lib.Dec.{ltb}
use lib.ListN.{length, length-append}
use borrow.Author.Tests.{lt-ltb, le-ltb, ltb-true, ltb-false}
use Rattle.model.specs.Listing.{digits, decimal}

-- one number is below another, or it isn't
pub either : {G : Type 0} (a b : ℕ) (t : Bool) → ltb a b ≡ t → (a < b → G) → (b ≤ a → G) → G
either a b true e f g = f (ltb-true a b e)
either a b false e f g = g (ltb-false a b e)

-- more places than the number needs change nothing
same : (j k n : ℕ) → n < j → n < k → digits j n ≡ digits k n
unfolding digits
same zero k n h l = absurd (not-suc-le-zero h)
same (suc j) zero n h l = absurd (not-suc-le-zero l)
same (suc j) (suc k) n h l = either n 10 _ refl
    (λ m. simp (lt-ltb n 10 m))
    (λ m. simp (le-ltb n 10 m, same j k (n / 10) (omega arith) (omega arith)))

pub one : (n : ℕ) → n < 10 → decimal n ≡ (48 + n) ∷ []
unfolding decimal digits
one n h = simp (lt-ltb n 10 h)

pub more : (n : ℕ) → 10 ≤ n → decimal n ≡ decimal (n / 10) ++ ((48 + n % 10) ∷ [])
unfolding decimal digits
more n h = simp (le-ltb n 10 h, same n (suc (n / 10)) (n / 10) (omega arith) (omega arith))

-- a number below a power of ten has no more digits than that
pub at_most : (k n : ℕ) → n < 10 ^ suc k → length (decimal n) ≤ suc k
at_most zero n h = omega (arith, ap length (one n h))
at_most (suc k) n h = either n 10 _ refl
    (λ m. omega (arith, ap length (one n m)))
    (λ m. omega (arith, ap length (more n m), length-append (decimal (n / 10)) ((48 + n % 10) ∷ []), at_most k (n / 10) (omega (arith, h, pow-succ' 10 (suc k)))))
