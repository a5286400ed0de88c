-- The numbers of a stage: opposites, and one less.
-- Assumes nothing.
use mathlib.Core.Path.{◌≡◌, sym, ap, ◌∙◌}
use Prim.Native.Nat.{ℕ, suc, ◌≤◌}
use lib.IntN.{ℤ, pos, nat_abs, neg_ℤ, ◌-ℤ◌, +ℤ_idl, +ℤ_one, +ℤ-neg_ℤ_cancel}
use mir.Syntax.{w64}
use mir.Val.{SFits}
use Rattle.integers.proofs.Parts.{ints, abs}

pub zero_minus : (z : ℤ) → pos 0 -ℤ z ≡ neg_ℤ z
zero_minus z = +ℤ_idl (neg_ℤ z)

pub minus-fits : (z : ℤ) → nat_abs z ≤ 10000 → SFits w64 (pos 0 -ℤ z)
minus-fits z h = omega (ints, abs z, h)

pub one_less : (n : ℕ) → pos (suc n) -ℤ pos 1 ≡ pos n
one_less n = ap (λ z. z -ℤ pos 1) (sym (+ℤ_one (pos n))) ∙ +ℤ-neg_ℤ_cancel (pos n) (pos 1)
