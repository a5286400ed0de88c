-- Distinct numbers below n are at most n.
-- Assumes nothing.
use mathlib.Core.Path.{◌≡◌, refl}
use mathlib.Core.Bool.{Bool, true, false, cond}
use mathlib.Core.List.{List, [], ◌∷◌}
use Prim.Native.Nat.{ℕ, zero, suc, ◌<◌, ◌≤◌}
use native.Mathlib.Omega.{arith}
use lib.Dec.{eqb}
use lib.ListN.{length}
use borrow.Author.Tests.{eqb-true, eqb-false}
use Rattle.integers.specs.All.{All}
use Rattle.model.specs.TaskOk.{Distinct}

-- the numbers but the first that is n
abbrev without : ℕ → List ℕ → List ℕ
without n [] = []
without n (k ∷ ks) = cond (eqb k n) ks (k ∷ without n ks)

without-one : (n : ℕ) (ks : List ℕ) → length ks ≤ suc (length (without n ks))
without-one n [] = omega arith
without-one n (k ∷ ks) = go (eqb k n) (without-one n ks)
  where
    go : (t : Bool) → length ks ≤ suc (length (without n ks)) → suc (length ks) ≤ suc (length (cond t ks (k ∷ without n ks)))
    go true h = omega arith
    go false h = omega arith

without_all : (P : ℕ → Type 0) (n : ℕ) (ks : List ℕ) → All P ks → All P (without n ks)
without_all P n [] h = tt
without_all P n (k ∷ ks) (h, hs) = go (eqb k n) (without_all P n ks hs)
  where
    go : (t : Bool) → All P (without n ks) → All P (cond t ks (k ∷ without n ks))
    go true rest = hs
    go false rest = (h, rest)

without-distinct : (n : ℕ) (ks : List ℕ) → Distinct ks → Distinct (without n ks)
without-distinct n [] d = tt
without-distinct n (k ∷ ks) (d, ds) = go (eqb k n) (without-distinct n ks ds)
  where
    go : (t : Bool) → Distinct (without n ks) → Distinct (cond t ks (k ∷ without n ks))
    go true rest = ds
    go false rest = (without_all (λ (j : ℕ). eqb j k ≡ false) n ks d, rest)

-- numbers up to n, of which none is n
below : (n k : ℕ) → k ≡ n → (js : List ℕ) → All (λ (j : ℕ). j < suc n) js → All (λ (j : ℕ). eqb j k ≡ false) js → All (λ (j : ℕ). j < n) js
below n k e [] bs ns = tt
below n k e (j ∷ js) (b, bs) (m, ms) = (omega (arith, eqb-false j k m), below n k e js bs ms)

without-below : (n : ℕ) (ks : List ℕ) → All (λ (k : ℕ). k < suc n) ks → Distinct ks → All (λ (k : ℕ). k < n) (without n ks)
without-below n [] h d = tt
without-below n (k ∷ ks) (h, hs) (d, ds) = go (eqb k n) refl (without-below n ks hs ds)
  where
    go : (t : Bool) → eqb k n ≡ t → All (λ (j : ℕ). j < n) (without n ks) → All (λ (j : ℕ). j < n) (cond t ks (k ∷ without n ks))
    go true e rest = below n k (eqb-true k n e) ks hs d
    go false e rest = (omega (arith, eqb-false k n e), rest)

pub few-distinct : (n : ℕ) (ks : List ℕ) → All (λ (k : ℕ). k < n) ks → Distinct ks → length ks ≤ n
few-distinct zero [] h d = omega arith
few-distinct zero (k ∷ ks) (h, hs) d = absurd (omega (arith, h))
few-distinct (suc n) ks h d = omega (arith, without-one n ks, few-distinct n (without n ks) (without-below n ks h d) (without-distinct n ks d))
