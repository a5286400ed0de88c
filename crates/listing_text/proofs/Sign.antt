-- The text of a whole number, by its magnitude.
-- Assumes nothing.
use mathlib.Core.Path.{◌≡◌, refl, ap, ◌∙◌}
use mathlib.Core.Bool.{cond}
use Prim.Native.Nat.{ℕ, suc, ◌+◌, ◌^◌, ◌<◌, ◌≤◌}
use native.Mathlib.Omega.{arith}
use mathlib.Core.List.{List, [], ◌∷◌}
use lib.ListN.{length, set}
use lib.Seq.{set-set}
use lib.IntN.{ℤ, pos, negsuc, nat_abs}
use lib.Signed.{lt_z}
use borrow.Author.Tests.{le-ltb}
use mir.Syntax.{w64}
use mir.Val.{SFits}
use Rattle.lists.specs.Writing.{splice, capacity, Room, Wrote}
use Rattle.lists.proofs.Writing.{wrote-long}
use Rattle.model.specs.Listing.{decimal, decimal_signed}
use Rattle.listing_text.proofs.Digits.{at_most}
use Rattle.listing_text.proofs.Fronts.{some-behind}

-- what is stored at the place of bytes is stored over by them
over : (out : List ℕ) (at y : ℕ) (xs : List ℕ) → 0 < length xs → splice (set out at y) at xs ≡ splice out at xs
over out at y [] h = absurd (omega (arith, h))
over out at y (x ∷ xs) h = ap (λ (o : List ℕ). splice o (at + 1) xs) (set-set out at y x)

-- ---- the text from behind the sign on
pub signed-long : (at : ℕ) (z : ℤ) → cond (lt_z z (pos 0)) (at + 1) at + length (decimal (nat_abs z)) ≡ at + length (decimal_signed z)
unfolding decimal_signed
signed-long at (pos n) = rw (le-ltb n 0 (omega arith)) refl
signed-long at (negsuc n) = omega arith

pub signed-some : (z : ℤ) → 1 ≤ length (decimal_signed z)
unfolding decimal_signed
signed-some (pos n) = omega (arith, some-behind 0 n)
signed-some (negsuc n) = omega arith

signed-bytes : (out : List ℕ) (at : ℕ) (z : ℤ)
    → splice (set out at 45) (cond (lt_z z (pos 0)) (at + 1) at) (decimal (nat_abs z)) ≡ splice out at (decimal_signed z)
unfolding decimal_signed
signed-bytes out at (pos n) = rw (le-ltb n 0 (omega arith)) (over out at 45 (decimal n) (omega (arith, some-behind 0 n)))
signed-bytes out at (negsuc n) = refl

-- a minus, and the digits behind the sign
module _ {out minus : List ℕ} {at behind place : ℕ} (z : ℤ) (m : Wrote out at (45 ∷ []) minus behind)
    (p : place ≡ cond (lt_z z (pos 0)) (at + 1) at) where
  pub signed-room : Room out at (decimal_signed z) → Room minus place (decimal (nat_abs z))
  signed-room r = record { fits = omega (arith, r.fits, p, signed-long at z, ap capacity (wrote-long m)) }

  pub signed-wrote : {after : List ℕ} {next : ℕ} → Wrote minus place (decimal (nat_abs z)) after next → Wrote out at (decimal_signed z) after next
  signed-wrote w = record {
    place = omega (arith, w.place, p, signed-long at z);
    bytes =
        w.bytes
        ∙ ap (λ (o : List ℕ). splice o place (decimal (nat_abs z))) m.bytes
        ∙ ap (λ (k : ℕ). splice (set out at 45) k (decimal (nat_abs z))) p
        ∙ signed-bytes out at z;
  }

-- no number of 64 bits takes more than twenty characters
pub signed-most : (z : ℤ) → SFits w64 z → length (decimal_signed z) ≤ 20
unfolding decimal_signed
signed-most (pos n) h = let l : n < 2 ^ 63 = h.sfits in omega (arith, at_most 18 n (omega arith))
signed-most (negsuc n) h = let l : n < 2 ^ 63 = h.sfits in omega (arith, at_most 18 (suc n) (omega arith))
