-- A run in which each step off rest is the one action that applies is what following its openings gives. A test that a run never fails changes
-- no run.
-- Assumes nothing.
use mathlib.Core.Path.{◌≡◌, refl, sym, ap, ◌∙◌, subst}
use Prim.Native.Nat.{ℕ, zero, suc, ◌+◌, ◌≤◌, ◌<◌}
use mathlib.Core.Logic.{◌≢◌, ◌⊎◌, inl, inr}
use native.Mathlib.Omega.{arith}
use native.Mathlib.Decide.{ℕ_discrete}
use mathlib.Core.Bool.{Bool, true, false, cond}
use mathlib.Core.Option.{Option, none, some}
use mathlib.Core.List.{List, [], ◌∷◌}
use lib.ListN.{length}
use Rattle.model.specs.Systems.{bind, run_plan, keep, sole_applying, or_next, follow_plan, guarded}
use Rattle.model.proofs.Pairing.{bind-gives, some-injective}

module _ {X : Type 0} (at_rest : X → Bool) (opening : ℕ → ℕ) (source_number : ℕ → Option ℕ) where
  -- an action that applies is an opening, and applies at rest; or it has no source number, and applies elsewhere
  abbrev pub OpensOrGoesOn : X → ℕ → Type 0
  OpensOrGoesOn x k = ((a : ℕ) × (source_number k ≡ some a) × (opening a ≡ k) × (at_rest x ≡ true)) ⊎ ((source_number k ≡ none) × (at_rest x ≡ false))

  module _ (step : X → ℕ → Option X) (count : ℕ) (numbered : (x : X) (k : ℕ) (y : X) → step x k ≡ some y → k < count)
      (kinds : (x : X) (k : ℕ) (y : X) → step x k ≡ some y → OpensOrGoesOn x k)
      (forced : (x : X) → at_rest x ≡ false → (j k : ℕ) (y z : X) → step x j ≡ some y → step x k ≡ some z → j ≡ k) where
    found : (x y : X) (k : ℕ) → at_rest x ≡ false → step x k ≡ some y → (n : ℕ) → k < n → sole_applying step x n ≡ some (k, y)
    found x y k b e zero h = absurd (omega arith)
    found x y k b e (suc n) h = go (step x n) refl (ℕ_discrete k n) (found x y k b e n)
      where
        here : k ≡ n → or_next (step x n) n (sole_applying step x n) ≡ some (k, y)
        here q = ap (λ (r : Option X). or_next r n (sole_applying step x n)) (ap (step x) (sym q) ∙ e) ∙ ap (λ (i : ℕ). some (i, y)) (sym q)

        go : (r : Option X) → step x n ≡ r → Dec (k ≡ n) → (k < n → sole_applying step x n ≡ some (k, y)) → or_next (step x n) n (sole_applying step x n) ≡ some (k, y)
        go none q (yes p) ih = here p
        go (some z) q (yes p) ih = here p
        go none q (no p) ih = ap (λ (r : Option X). or_next r n (sole_applying step x n)) q ∙ ih (below p)
          where
            below : k ≢ n → k < n
            below p = omega arith
        go (some z) q (no p) ih = absurd (p (forced x b k n y z e q))

    abbrev followed : ℕ → List ℕ → X → List ℕ
    followed = follow_plan step at_rest opening count

    -- what a run that ends at rest takes is what following the plan of its openings takes
    pub run-is-followed : (q : List ℕ) (most : ℕ) (x z : X) → length q ≤ most → run_plan step q x ≡ some z → at_rest z ≡ true → followed most (keep source_number q) x ≡ q
    run-is-followed [] zero x z l r h = refl
    run-is-followed [] (suc most) x z l r h = rw (ap at_rest (some-injective r) ∙ h) refl
    run-is-followed (k ∷ q) zero x z l r h = absurd (omega arith)
    run-is-followed (k ∷ q) (suc most) x z l r h =
        let (y, e, r') = bind-gives (step x k) (run_plan step q) z r in go y e (kinds x k y e) (run-is-followed q most y z (omega arith) r' h)
      where
        go : (y : X) → step x k ≡ some y → OpensOrGoesOn x k → followed most (keep source_number q) y ≡ q → followed (suc most) (keep source_number (k ∷ q)) x ≡ k ∷ q
        go y e (inl (a, n, o, b)) ih = rw (n, b, o, e) (ap (λ (u : List ℕ). k ∷ u) ih)
        go y e (inr (n, b)) ih = rw (n, b, found x y k b e count (numbered x k y e)) (ap (λ (u : List ℕ). k ∷ u) ih)

module _ {X : Type 0} (step : X → ℕ → Option X) where
  pub guard-run : (ok : X → Bool) (Inv : ℕ → X → Type 0) (lim : ℕ) → ((i : ℕ) (x y : X) (k : ℕ) → Inv i x → step x k ≡ some y → Inv (suc i) y)
      → ((i : ℕ) (x : X) → i ≤ lim → Inv i x → ok x ≡ true) → (q : List ℕ) (i : ℕ) (x : X) → i + length q ≤ lim → Inv i x → run_plan (guarded ok step) q x ≡ run_plan step q x
  guard-run ok Inv lim up fine [] i x l v = refl
  guard-run ok Inv lim up fine (k ∷ q) i x l v = go (step x k) refl (λ y v'. guard-run ok Inv lim up fine q (suc i) y (omega arith) v')
    where
      go : (o : Option X) → step x k ≡ o → ((y : X) → Inv (suc i) y → run_plan (guarded ok step) q y ≡ run_plan step q y)
          → bind (bind o (λ y. cond (ok x) (cond (ok y) (some y) none) none)) (run_plan (guarded ok step) q) ≡ bind o (run_plan step q)
      go none e ih = refl
      go (some y) e ih = rw (fine i x (omega arith) v, fine (suc i) y (omega arith) (up i x y k v e)) (ih y (up i x y k v e))

  -- what every step keeps holds at the end of a run
  pub run-keeps : (Inv : ℕ → X → Type 0) → ((i : ℕ) (x y : X) (k : ℕ) → Inv i x → step x k ≡ some y → Inv (suc i) y) → (q : List ℕ) (i : ℕ) (x y : X) → Inv i x → run_plan step q x ≡ some y → Inv (i + length q) y
  run-keeps Inv up [] i x y v e = subst (λ (z : X). Inv (i + 0) z) (some-injective e) (subst (λ (k : ℕ). Inv k x) (omega arith) v)
  run-keeps Inv up (k ∷ q) i x y v e = let (z, e₁, e₂) = bind-gives (step x k) (run_plan step q) y e in subst (λ (n : ℕ). Inv n y) (tidy i (length q)) (run-keeps Inv up q (suc i) z y (up i x z k v e₁) e₂)
    where
      tidy : (a b : ℕ) → suc a + b ≡ a + suc b
      tidy a b = omega arith
