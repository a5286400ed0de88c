-- A sum of the row: its own entries alone count, and small entries make small sums of small values.
-- Assumes nothing.
use mathlib.Core.Path.{◌≡◌, ap}
use mathlib.Core.List.{List}
use Prim.Native.Nat.{ℕ, zero, suc, ◌+◌, ◌*◌, ◌≤◌, ◌<◌}
use native.Mathlib.Omega.{arith}
use lib.ListN.{take}
use lib.IntN.{ℤ, nat_abs, ◌*ℤ◌}
use Rattle.model.specs.Steps.{integer_at}
use Rattle.model.proofs.StepBounds.{abs-sum}
use Rattle.source_step.specs.Sizes.{VARIABLES, SUMS}
use Rattle.source_step.specs.Row.{weights_in, sum_at, ValuesNear, WeightsSmall}
use Rattle.source_step.proofs.Sound.{tabulate-same}
use Rattle.source_step.proofs.Weighing.{summed, entry, weights-summed, weighed-small}
use Rattle.source_sums.specs.Put.{farthest}

-- ---- its entries alone count
pub weights-same : (sums sums' : List ℤ) (j : ℕ)
    → ((v : ℕ) → v < VARIABLES → integer_at sums' (VARIABLES * j + v) ≡ integer_at sums (VARIABLES * j + v))
    → weights_in sums' j ≡ weights_in sums j
weights-same sums sums' j h = tabulate-same VARIABLES _ _ (λ v l. ap (λ (z : ℤ). (v, z)) (h v l))

-- ---- numbers of which none is over a bound make no more than so many of it
summed-small : (most n : ℕ) (g : ℕ → ℤ) → ((v : ℕ) → v < n → nat_abs (g v) ≤ most) → nat_abs (summed n g) ≤ n * most
unfolding summed
summed-small most zero g h = omega arith
summed-small most (suc n) g h =
    let rest = summed n (λ v. g (suc v)) in
    omega (arith, abs-sum (g 0) rest, h 0 (omega arith), summed-small most n (λ v. g (suc v)) (λ v l. h (suc v) (omega arith)))

-- ---- of values of a source file none is over what a range goes up to
pub sum_near : (n : ℕ) (sums values : List ℤ) (j : ℕ) → j < SUMS → WeightsSmall sums → ValuesNear n values → nat_abs (sum_at n sums values j) ≤ farthest
sum_near n sums values j l small near =
    rw (weights-summed sums j f) (omega (arith, summed-small 400_000_000 VARIABLES (λ v. f v *ℤ entry sums j v) part))
  where
    f : ℕ → ℤ
    f = integer_at (take n values)

    part : (v : ℕ) → v < VARIABLES → nat_abs (f v *ℤ entry sums j v) ≤ 400_000_000
    part v k = weighed-small (f v) (entry sums j v) (near v) (small j v l k)
