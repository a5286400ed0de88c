-- Stores one after another: what stands at an index at the end, and that the same stores again change nothing.
-- Assumes nothing.
use mathlib.Core.Path.{◌≡◌, refl, sym, ap, ◌∙◌}
use mathlib.Core.Bool.{Bool, true, false, cond}
use mathlib.Core.List.{List, [], ◌∷◌}
use Prim.Native.Nat.{ℕ, zero, suc, ◌≤◌, ◌<◌}
use native.Mathlib.Omega.{arith}
use lib.Dec.{eqb}
use lib.ListN.{length, get_or, set, length-set}
use lib.Seq.{get_or-set_same, get_or-set_other, ext_get_or}
use borrow.Author.Tests.{eqb-true, eqb-false}
use Rattle.model.specs.Steps.{set_all}
use Rattle.restricted_step.proofs.Effects.{set-length}

pub get_d_past : {A : Type 0} (l : List A) (i : ℕ) (d : A) → length l ≤ i → get_or l i d ≡ d
get_d_past [] i d h = refl
get_d_past (x ∷ l) zero d h = absurd (omega arith)
get_d_past (x ∷ l) (suc i) d h = get_d_past l i d (omega arith)

pub get_d_set : {A : Type 0} (l : List A) (j i : ℕ) (x d : A) → i < length l → get_or (set l j x) i d ≡ cond (eqb j i) x (get_or l i d)
get_d_set l j i x d h = go (eqb j i) refl
  where
    go : (t : Bool) → eqb j i ≡ t → get_or (set l j x) i d ≡ cond (eqb j i) x (get_or l i d)
    go true e = rw (e, eqb-true j i e) (get_or-set_same l i x d h)
    go false e = rw e (get_or-set_other l j i x d (λ p. eqb-false j i e (sym p)))

-- ---- the value of the last store at an index
last : List (ℕ × ℕ) → ℕ → ℕ → ℕ
last [] i z = z
last (e ∷ es) i z = last es i (cond (eqb e.0 i) e.1 z)

set_last : (es : List (ℕ × ℕ)) (l : List ℕ) (i : ℕ) → i < length l → get_or (set_all es l) i 0 ≡ last es i (get_or l i 0)
unfolding last
set_last [] l i h = refl
set_last (e ∷ es) l i h =
    set_last es (set l e.0 e.1) i (omega (arith, length-set l e.0 e.1))
    ∙ ap (last es i) (get_d_set l e.0 i e.1 0 h)

last-again : (es : List (ℕ × ℕ)) (i z : ℕ) → last es i (last es i z) ≡ last es i z
unfolding last
last-again [] i z = refl
last-again (e ∷ es) i z = go (eqb e.0 i) (last-again es i z)
  where
    go : (t : Bool) → last es i (last es i z) ≡ last es i z → last es i (cond t e.1 (last es i (cond t e.1 z))) ≡ last es i (cond t e.1 z)
    go true h = refl
    go false h = h

-- the same stores again change nothing
pub set-again : (es : List (ℕ × ℕ)) (l : List ℕ) → set_all es (set_all es l) ≡ set_all es l
set-again es l =
    ext_get_or 0 _ _ (set-length es (set_all es l))
    (λ i h. set_last es (set_all es l) i (omega (arith, set-length es (set_all es l)))
    ∙ ap (last es i) (set_last es l i (omega (arith, set-length es (set_all es l), set-length es l)))
    ∙ last-again es i (get_or l i 0)
    ∙ sym (set_last es l i (omega (arith, set-length es (set_all es l), set-length es l))))
