-- A fact that holds of every number below a bound, one after another, holds of each. Assumes nothing.
use mathlib.Core.Path.{subst, sym, ◌∙◌}
use Prim.Native.Nat.{ℕ, zero, suc, ◌+◌, ◌<◌}
use native.Mathlib.Nat.{add-zero, zero-add, add-suc, suc-add, le_of_suc-le-suc, not-suc-le-zero}

-- P holds of n numbers from i on
abbrev pub Each : (ℕ → Type 0) → ℕ → ℕ → Type 0
Each P i zero = Unit {0}
Each P i (suc n) = P i × Each P (suc i) n

each_from : (P : ℕ → Type 0) (i n : ℕ) → Each P i n → (k : ℕ) → k < n → P (i + k)
each_from P i zero e k h = absurd (not-suc-le-zero h)
each_from P i (suc n) e zero h = subst P (sym (add-zero i)) e.0
each_from P i (suc n) e (suc k) h = subst P (suc-add i k ∙ sym (add-suc i k)) (each_from P (suc i) n e.1 k (le_of_suc-le-suc h))

pub each_at : (P : ℕ → Type 0) (n : ℕ) → Each P 0 n → (k : ℕ) → k < n → P k
each_at P n e k h = subst P (zero-add k) (each_from P 0 n e k h)
