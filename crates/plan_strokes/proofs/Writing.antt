-- What a source step becomes is written stage by stage: a run of one number, then the turn.
-- Assumes nothing.
use mathlib.Core.Path.{◌≡◌, refl, sym, ap, ◌∙◌}
use Prim.Native.Nat.{ℕ, suc, ◌+◌, ◌*◌, ◌≤◌, ◌<◌}
use native.Mathlib.Numerals.{add-one}
use native.Mathlib.Omega.{arith}
use mathlib.Core.Bool.{true, false}
use mathlib.Core.List.{List, [], ◌∷◌, ◌++◌, append_assoc, append-nil}
use lib.ListN.{length, get_or, drop, drop_of_length-le, replicate}
use lib.Seq.{drop-cons}
use lib.IntN.{ℤ, pos, negsuc, nat_abs}
use lib.Signed.{le_z}
use Rattle.integers.specs.Numbers.{bytes_of}
use Rattle.integers.proofs.Parts.{ints}
use Rattle.lists.specs.Writing.{Room, Wrote}
use Rattle.lists.proofs.Numbers.{numbers-append}
use Rattle.lists.proofs.Writing.{joined, Left, start, step, done, recast, room, long}
use Rattle.model.specs.Plans.{plan_bytes_of}
use Rattle.model.specs.Expansion.{strokes}
use Rattle.plan_strokes.specs.Strokes.{stage_steps, macro_steps, step_numbers}

-- ---- a stage
pub falls : (first : ℕ) (z : ℤ) → le_z (pos 0) z ≡ true → strokes first z ≡ replicate (nat_abs z) first
falls first (pos k) e = refl
falls first (negsuc k) e = absurd (omega (ints, e))

pub rises : (first : ℕ) (z : ℤ) → le_z (pos 0) z ≡ false → strokes first z ≡ replicate (nat_abs z) (first + 1)
rises first (pos k) e = absurd (omega (ints, e))
rises first (negsuc k) e = ap (replicate (suc k)) (sym (add-one first))

abbrev pub stage_parts : ℕ → ℕ → ℕ → List (List ℕ)
stage_parts count number turn = plan_bytes_of (replicate count number) ∷ bytes_of 2 turn ∷ []

pub stage-parts : (first : ℕ) (z : ℤ) (count number : ℕ) → strokes first z ≡ replicate count number
    → plan_bytes_of (stage_steps first z) ≡ joined (stage_parts count number (first + 2))
stage-parts first z count number e =
    ap (λ (l : List ℕ). plan_bytes_of (l ++ ((first + 2) ∷ []))) e ∙ numbers-append 2 (replicate count number) ((first + 2) ∷ [])

-- ---- the stages, one after another
module _ (zs : List ℤ) (number i : ℕ) where
  pub steps-more : i < length zs → macro_steps number (drop i zs) ≡ stage_steps number (get_or zs i (pos 0)) ++ macro_steps (number + 3) (drop (i + 1) zs)
  unfolding macro_steps
  steps-more h =
      ap (macro_steps number) (drop-cons zs i (pos 0) h ∙ ap (λ (k : ℕ). get_or zs i (pos 0) ∷ drop k zs) (sym (add-one i)))
      ∙ sym (append_assoc (strokes number (get_or zs i (pos 0))) ((number + 2) ∷ []) (macro_steps (number + 3) (drop (i + 1) zs)))

  pub steps-none : length zs ≤ i → macro_steps number (drop i zs) ≡ []
  unfolding macro_steps
  steps-none h = ap (macro_steps number) (drop_of_length-le zs h)

-- the first i stages are written into `old` from index `at` on: the output is `out`, the next byte goes to `place`, and the
-- next stage's actions are numbered from `number`
pub record Stepping (first : ℕ) (zs : List ℤ) (old : List ℕ) (at : ℕ) (out : List ℕ) (place number i : ℕ) : Type 0 where
  pub bound : i ≤ length zs
  pub numbered : number ≡ first + 3 * i
  pub left : Left old at (plan_bytes_of (macro_steps first zs)) out place (plan_bytes_of (macro_steps number (drop i zs)) ∷ [])

pub stepping-start : (first : ℕ) (zs : List ℤ) (old : List ℕ) (at : ℕ) → Stepping first zs old at old at first 0
stepping-start first zs old at =
    record { bound = omega arith; numbered = omega arith; left = start old at (sym (append-nil (plan_bytes_of (macro_steps first zs)))) }

module _ {first : ℕ} {zs : List ℤ} {old : List ℕ} {at : ℕ} {out : List ℕ} {place number i : ℕ} (g : Stepping first zs old at out place number i) where
  abbrev stage : List ℕ
  stage = plan_bytes_of (stage_steps number (get_or zs i (pos 0)))

  abbrev behind : List ℕ
  behind = plan_bytes_of (macro_steps (number + 3) (drop (i + 1) zs))

  stepping-more : i < length zs → Left old at (plan_bytes_of (macro_steps first zs)) out place (stage ∷ behind ∷ [])
  stepping-more h = recast
      (append-nil (plan_bytes_of (macro_steps number (drop i zs)))
      ∙ ap plan_bytes_of (steps-more zs number i h)
      ∙ numbers-append 2 (stage_steps number (get_or zs i (pos 0))) (macro_steps (number + 3) (drop (i + 1) zs))
      ∙ ap (λ (l : List ℕ). stage ++ l) (sym (append-nil behind)))
      g.left

  pub stepping-room : i < length zs → Room old at (plan_bytes_of (macro_steps first zs))
      → Room out place (plan_bytes_of (stage_steps number (get_or zs i (pos 0))))
  stepping-room h r = room r (stepping-more h)

  pub stepping-next : {after : List ℕ} {next : ℕ} → i < length zs → Wrote out place (plan_bytes_of (stage_steps number (get_or zs i (pos 0)))) after next
      → Stepping first zs old at after next (number + 3) (i + 1)
  stepping-next h w = record { bound = omega arith; numbered = omega (arith, g.numbered); left = step (stepping-more h) w }

  pub stepping-end : length zs ≤ i → Wrote old at (plan_bytes_of (macro_steps first zs)) out place
  stepping-end h = done (recast (append-nil _ ∙ ap plan_bytes_of (steps-none zs number i h)) g.left)

  pub stepping-long : length out ≡ length old
  stepping-long = long g.left

-- ---- the opening, and the stages behind it
pub opens : (opening : ℕ) (zs : List ℤ) (old : List ℕ) (at : ℕ)
    → Left old at (plan_bytes_of (step_numbers opening zs)) old at (bytes_of 2 opening ∷ plan_bytes_of (macro_steps (opening + 1) zs) ∷ [])
opens opening zs old at =
    start old at (ap (λ (l : List ℕ). bytes_of 2 opening ++ l) (sym (append-nil (plan_bytes_of (macro_steps (opening + 1) zs)))))
