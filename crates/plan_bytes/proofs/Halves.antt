-- The number of step i stands in the two bytes from 2 i on.
-- Assumes nothing.
use mathlib.Core.Path.{◌≡◌, refl, sym, ap₂, ◌∙◌}
use Prim.Native.Nat.{ℕ, zero, suc, ◌+◌, ◌*◌, ◌<◌}
use native.Mathlib.Omega.{arith}
use mathlib.Core.List.{List, [], ◌∷◌}
use lib.ListN.{length, get_or}
use Rattle.lists.specs.Numbers.{halves}

pub half_at : (s : List ℕ) (i : ℕ) → 2 * i + 1 < length s → get_or (halves s) i 0 ≡ get_or s (2 * i) 0 + 256 * get_or s (2 * i + 1) 0
half_at [] i h = absurd (omega (arith, h))
half_at (low ∷ []) i h = absurd (omega (arith, h))
half_at (low ∷ high ∷ rest) zero h = refl
half_at (low ∷ high ∷ rest) (suc i) h =
    let e : 2 * suc i ≡ suc (suc (2 * i)) = omega arith in
    let f : 2 * suc i + 1 ≡ suc (suc (2 * i + 1)) = omega arith in
    half_at rest i (omega (arith, h))
    ∙ sym (ap₂ (λ (x y : ℕ). get_or (low ∷ high ∷ rest) x 0 + 256 * get_or (low ∷ high ∷ rest) y 0) e f)

pub half_small : (s : List ℕ) → ((j : ℕ) → get_or s j 0 < 256) → (i : ℕ) → get_or (halves s) i 0 < 65536
half_small [] h i = omega arith
half_small (low ∷ []) h i = omega arith
half_small (low ∷ high ∷ rest) h zero = omega (arith, h 0, h 1)
half_small (low ∷ high ∷ rest) h (suc i) = half_small rest (λ j. h (suc (suc j))) i
