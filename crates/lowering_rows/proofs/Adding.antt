-- The + that the code makes are those of a stroke, of a turn and of a row that has one at most; one of them is a command, or nothing where it
-- adds 0.
-- Assumes nothing.
use mathlib.Core.Path.{◌≡◌, refl, ap}
use mathlib.Core.Bool.{Bool, true, false}
use mathlib.Core.List.{List, [], ◌∷◌, flat_map, append-nil}
use Prim.Native.Nat.{ℕ, zero, suc, ◌%◌, ◌<◌, ◌≤◌}
use native.Mathlib.Omega.{arith}
use borrow.Author.Tests.{ne_eqb}
use lib.IntN.{ℤ, pos, negsuc, nat_abs, neg_ℤ}
use Rattle.integers.specs.Numbers.{bits_of}
use Rattle.integers.proofs.Parts.{ints, abs, neg}
use Rattle.lists.specs.Each.{tabulate}
use Rattle.lists.specs.Writing.{Wrote}
use Rattle.commands.specs.Encoding.{encode}
use Rattle.commands.specs.declared.Command.TheVariants.{Add}
use Rattle.model.specs.Steps.{natural_at, integer_at}
use Rattle.model.specs.Sums.{addition, kept_additions}
use Rattle.file_parts.specs.Layout.{addition_count, addition_variable, addition_amount}
use Rattle.file_parts.specs.Row.{addition_in, additions_in}
use Rattle.lowering_stages.specs.declared.Stage.{Stage}
use Rattle.lowering_stages.specs.Stages.{signed, signed_at, added_is as stroke_added, given_is, Small}
use Rattle.lowering_sums.specs.declared.Added.{Added}
use Rattle.lowering_sums.specs.Views.{sums_in, most_added, added_at, added_is, AddedSmall}
use Rattle.lowering_rows.specs.Bytes.{addition_bytes}
use Rattle.lowering_rows.specs.Macros.{OneAddition}

-- ---- nothing is written of a + of 0, nor where no sum is kept; any other is one command
module _ {out : List ℕ} {at : ℕ} where
  pub nothing-added : (v : ℕ) (d : ℤ) → d ≡ pos 0 → Wrote out at (flat_map addition_bytes (addition v d)) out at
  unfolding flat_map
  nothing-added v d e = rw e (record { place = omega arith; bytes = refl })

  pub nothing-kept : (first sums : ℕ) (weights : List ℤ) (es : List (ℕ × ℤ)) → sums ≡ 0
      → Wrote out at (flat_map addition_bytes (kept_additions first (sums_in sums weights) es)) out at
  unfolding flat_map tabulate
  nothing-kept first sums weights es e = rw e (record { place = omega arith; bytes = refl })

pub something-added : (v : ℕ) (d : ℤ) (b : ℕ) → (d ≡ pos 0 → ⊥) → b ≡ bits_of 4 d → flat_map addition_bytes (addition v d) ≡ encode (Add v b)
unfolding flat_map
something-added v (pos zero) b h e = absurd (h refl)
something-added v (pos (suc n)) b h e = rw (e, append-nil (addition_bytes (v, pos (suc n))))
something-added v (negsuc n) b h e = rw (e, append-nil (addition_bytes (v, negsuc n)))

-- ---- a stroke
abbrev added_four : Stage → ℤ → ℤ → ℤ → ℤ → Added
added_four s x y z w = record { count = s.added; variables = s.variables; amounts = x ∷ y ∷ z ∷ w ∷ [] }

signed-small : (falls : Bool) (z : ℤ) → nat_abs z ≤ 10000 → nat_abs (signed falls z) ≤ most_added
signed-small true z g = omega (arith, g)
signed-small false z g = omega (ints, neg z, abs z, abs (neg_ℤ z), g)

module _ (falls : Bool) (variables : List ℕ) (amounts : List ℤ) where
  abbrev sign : ℕ → ℤ
  sign i = signed falls (integer_at amounts i)

  abbrev signs : List ℤ
  signs = sign 0 ∷ sign 1 ∷ sign 2 ∷ sign 3 ∷ []

  signs-added : (n : ℕ) → n ≤ 4 → tabulate n (added_at variables signs) ≡ tabulate n (signed_at falls variables amounts)
  unfolding tabulate
  signs-added zero h = refl
  signs-added (suc zero) h = refl
  signs-added (suc (suc zero)) h = refl
  signs-added (suc (suc (suc zero))) h = refl
  signs-added (suc (suc (suc (suc zero)))) h = refl
  signs-added (suc (suc (suc (suc (suc n))))) h = absurd (omega arith)

  signs-small : ((i : ℕ) → nat_abs (integer_at amounts i) ≤ 10000) → (i : ℕ) → i < 4 → nat_abs (integer_at signs i) ≤ most_added
  signs-small h zero l = signed-small falls (integer_at amounts 0) (h 0)
  signs-small h (suc zero) l = signed-small falls (integer_at amounts 1) (h 1)
  signs-small h (suc (suc zero)) l = signed-small falls (integer_at amounts 2) (h 2)
  signs-small h (suc (suc (suc zero))) l = signed-small falls (integer_at amounts 3) (h 3)
  signs-small h (suc (suc (suc (suc i)))) l = absurd (omega arith)

pub stroke-added : (falls : Bool) (s : Stage) (x y z w : ℤ) → Small s → x ≡ signed falls (integer_at s.amounts 0)
    → y ≡ signed falls (integer_at s.amounts 1) → z ≡ signed falls (integer_at s.amounts 2) → w ≡ signed falls (integer_at s.amounts 3)
    → (added_is (added_four s x y z w) ≡ stroke_added falls s) × AddedSmall (added_four s x y z w)
stroke-added falls s x y z w h e f g k =
    rw (e, f, g, k) (
      signs-added falls s.variables s.amounts s.added h.few,
      record {
        few = h.few;
        amounts = λ i l. signs-small falls s.variables s.amounts h.amounts i (omega (arith, l, h.few));
      },
    )

-- ---- one at most
abbrev added_one : ℕ → ℕ → ℤ → Added
added_one n v d = record { count = n; variables = v ∷ 0 ∷ 0 ∷ 0 ∷ []; amounts = d ∷ pos 0 ∷ pos 0 ∷ pos 0 ∷ [] }

one-small : (n v : ℕ) (d : ℤ) → n ≤ 1 → (n ≡ 1 → nat_abs d ≤ most_added) → AddedSmall (added_one n v d)
one-small n v d h g = record { few = omega arith; amounts = amounts }
  where
    amounts : (i : ℕ) → i < n → nat_abs (integer_at (added_one n v d).amounts i) ≤ most_added
    amounts zero l = g (omega arith)
    amounts (suc i) l = absurd (omega arith)

-- of a turn
pub none-given : (v : ℕ) (d : ℤ) → d ≡ pos 0 → (added_is (added_one 0 v d) ≡ given_is v d) × AddedSmall (added_one 0 v d)
unfolding tabulate
none-given v d e = (rw e, one-small 0 v d (omega arith) (λ q. absurd (omega arith)))

pub one-given : (v : ℕ) (d : ℤ) → (d ≡ pos 0 → ⊥) → nat_abs d ≤ most_added → (added_is (added_one 1 v d) ≡ given_is v d) × AddedSmall (added_one 1 v d)
unfolding tabulate
one-given v d h s = (same d h, one-small 1 v d (omega arith) (λ q. s))
  where
    same : (d : ℤ) → (d ≡ pos 0 → ⊥) → added_is (added_one 1 v d) ≡ given_is v d
    same (pos zero) h = absurd (h refl)
    same (pos (suc n)) h = rw (ne_eqb (suc n) 0 (λ q. omega arith))
    same (negsuc n) h = rw (ne_eqb (suc n) 0 (λ q. omega arith))

-- of a row
pub row-added : {marks : List ℕ} {numbers : List ℤ} (n v : ℕ) → OneAddition marks numbers → n ≡ natural_at marks addition_count
    → v ≡ natural_at marks addition_variable % 256 → (let a = added_one n v (integer_at numbers addition_amount) in
    (added_is a ≡ additions_in marks numbers) × AddedSmall a)
unfolding tabulate
row-added {marks} {numbers} n v h e g =
    rw e (same (natural_at marks addition_count) h.few h.variable, one-small (natural_at marks addition_count) v _ h.few h.small)
  where
    same : (k : ℕ) → k ≤ 1 → (k ≡ 1 → natural_at marks addition_variable < 256)
        → added_is (added_one k v (integer_at numbers addition_amount)) ≡ tabulate k (addition_in marks numbers)
    same zero l f = refl
    same (suc zero) l f =
        let low = f refl in
        let is : v ≡ natural_at marks addition_variable = omega (arith, low, g) in
        ap (λ (z : ℕ). (z, integer_at numbers addition_amount) ∷ []) is
    same (suc (suc k)) l f = absurd (omega arith)
