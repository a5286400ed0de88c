-- A number of a row stored anew as the lesser or the greater of it and another: the row is capped or raised.
-- Assumes nothing.
use mathlib.Core.Path.{◌≡◌, refl, ap, ◌∙◌}
use mathlib.Core.Bool.{Bool, true, false, cond}
use mathlib.Core.List.{List}
use Prim.Native.Nat.{ℕ, min, max}
use native.Mathlib.Omega.{arith}
use lib.Dec.{ltb}
use lib.IntN.{ℤ}
use lib.ListN.{set, get_or}
use lib.Signed.{lt_z}
use borrow.Author.Tests.{ltb-true, ltb-false}
use Rattle.std.proofs.lemmas.List.{set-get_or}
use Rattle.std.specs.Int.{int_min, int_max}
use Rattle.integers.proofs.Parts.{ints}
use Rattle.model.specs.Steps.{integer_at, natural_at}
use Rattle.source_ready.specs.Narrowed.{set_if, capped, raised, capped_mark, raised_mark}

-- what a test chooses is stored, or what stands there
stored : {A : Type 0} (b : Bool) (l : List A) (i : ℕ) (z d : A) → set l i (cond b z (get_or l i d)) ≡ set_if b l i z
stored true l i z d = refl
stored false l i z d = set-get_or l i d

greater : (x z : ℤ) → int_max x z ≡ cond (lt_z x z) z x
greater x z = go (lt_z x z) (lt_z z x) refl refl
  where
    go : (a b : Bool) → lt_z x z ≡ a → lt_z z x ≡ b → cond b x z ≡ cond a z x
    go true true e f = absurd (omega (ints, e, f))
    go true false e f = refl
    go false true e f = refl
    go false false e f = omega (ints, e, f)

lesser-mark : (x z : ℕ) → min x z ≡ cond (ltb z x) z x
lesser-mark x z = go (ltb z x) refl
  where
    go : (a : Bool) → ltb z x ≡ a → min x z ≡ cond a z x
    go true e = omega (arith, ltb-true z x e)
    go false e = omega (arith, ltb-false z x e)

greater-mark : (x z : ℕ) → max x z ≡ cond (ltb x z) z x
greater-mark x z = go (ltb x z) refl
  where
    go : (a : Bool) → ltb x z ≡ a → max x z ≡ cond a z x
    go true e = omega (arith, ltb-true x z e)
    go false e = omega (arith, ltb-false x z e)

module _ (l : List ℤ) (i : ℕ) (z : ℤ) where
  pub capped-lesser : {y : ℤ} → y ≡ int_min (integer_at l i) z → set l i y ≡ capped l i z
  unfolding capped
  capped-lesser e = ap (set l i) e ∙ stored (lt_z z (integer_at l i)) l i z _

  pub raised-greater : {y : ℤ} → y ≡ int_max (integer_at l i) z → set l i y ≡ raised l i z
  unfolding raised
  raised-greater e = ap (set l i) (e ∙ greater (integer_at l i) z) ∙ stored (lt_z (integer_at l i) z) l i z _

module _ (l : List ℕ) (i z : ℕ) where
  pub capped-lesser_mark : {y : ℕ} → y ≡ min (natural_at l i) z → set l i y ≡ capped_mark l i z
  unfolding capped_mark
  capped-lesser_mark e = ap (set l i) (e ∙ lesser-mark (natural_at l i) z) ∙ stored (ltb z (natural_at l i)) l i z _

  pub raised-greater_mark : {y : ℕ} → y ≡ max (natural_at l i) z → set l i y ≡ raised_mark l i z
  unfolding raised_mark
  raised-greater_mark e = ap (set l i) (e ∙ greater-mark (natural_at l i) z) ∙ stored (ltb (natural_at l i) z) l i z _
