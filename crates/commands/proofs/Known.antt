-- What a command is whose byte is known, for a reader of one kind and for a caller that takes a command apart by `let .. else`: the byte
-- fixes the row, so the command is that row's, or it is cut short.
-- Assumes nothing.
use mathlib.Core.Bool.{Bool, true, false, not, cond}
use mathlib.Core.List.{List, [], ◌∷◌}
use mathlib.Core.Path.{◌≡◌, sym, ap, ◌∙◌, subst}
use Prim.Native.Nat.{ℕ, ◌+◌, ◌^◌, ◌≤◌, ◌<◌}
use native.Mathlib.Omega.{arith}
use lib.Dec.{T, eqb, leb}
use lib.ListN.{length, get_or}
use borrow.Author.Tests.{eq-eqb, ne_eqb, lt-leb, le-leb}
use denote.Enum.Declared.{tag_of}
use mir.Val.{has_key}
use types.Run.{OneOf, miss}
use borrow.Enum.Refused.{Among, opened}
use Rattle.integers.specs.Numbers.{number_at}
use Rattle.commands.specs.Table.{table, rows, row_at, row_of, width_at, size_of_row}
use Rattle.commands.specs.Rows.{Whole}
use Rattle.commands.specs.Reading.{command_at, read_row, made}
use Rattle.answers.specs.declared.Reason.TheVariants.{NotAllowed, CutShort}
use Rattle.commands.specs.declared.Command.{Command}
use Rattle.commands.specs.declared.Command.TheVariants.{Refused}
use Rattle.commands.specs.contracts.Command.{the_type}
use Rattle.commands.proofs.Every.{each_at}
use Rattle.commands.proofs.Rows.{row-of-byte, Apart, no_row}

abbrev without : ℕ → List ℕ → List ℕ
without i [] = []
without i (k ∷ ks) = cond (eqb k i) (without i ks) (k ∷ without i ks)

-- the cases of a command other than that of row i: what the `else` of a `let` is told
abbrev pub others : ℕ → List ℕ
others i = without i (0 ∷ 1 ∷ 2 ∷ 3 ∷ 4 ∷ 5 ∷ 6 ∷ 7 ∷ 8 ∷ 9 ∷ 10 ∷ 11 ∷ 12 ∷ 13 ∷ 14 ∷ 15 ∷ [])

-- what is read by row i is none of the others
abbrev Own : List ℕ → ℕ → Type 0
Own s i = T (not (has_key (others i) (tag_of the_type (read_row s i))))

own : (s : List ℕ) (i : ℕ) → i < rows → Own s i
own s = each_at (Own s) rows (search (tt))

-- either of two, and not the first
second : (t : Bool) (v w c : Command) (ks : List ℕ) → c ≡ cond t v w → T (not (has_key ks (tag_of the_type v))) → OneOf ks (tag_of the_type c) → c ≡ w
second true v w c ks e n h = absurd (miss ks (tag_of the_type v) n (subst (λ (x : Command). OneOf ks (tag_of the_type x)) e h))
second false v w c ks e n h = e

-- nothing remains, and a byte that no row has
pub empty : (s : List ℕ) → length s ≡ 0 → Refused CutShort ≡ command_at s
unfolding command_at
empty s h = rw (eq-eqb (length s) 0 h)

pub unknown : (s : List ℕ) → 0 < length s → Apart (get_or s 0 0) table (Unit {0}) → command_at s ≡ Refused NotAllowed
unfolding command_at
unknown s h apart = rw (ne_eqb (length s) 0 (λ z. omega arith), no_row (get_or s 0 0) apart)

-- the bytes s begin with the byte of row i
module _ (s : List ℕ) (i : ℕ) (few : i < rows) (there : 0 < length s) (first : get_or s 0 0 ≡ (row_at i).byte) where
  pub read_as : command_at s ≡ cond (leb (size_of_row i) (length s)) (read_row s i) (Refused CutShort)
  unfolding command_at
  read_as =
      let e : row_of (get_or s 0 0) ≡ i = ap row_of first ∙ row-of-byte i few in
      rw (ne_eqb (length s) 0 (λ z. omega arith), e, lt-leb rows i few)

  pub short-as : length s < size_of_row i → command_at s ≡ Refused CutShort
  short-as h = read_as ∙ rw (lt-leb (size_of_row i) (length s) h)

  pub whole-as : size_of_row i ≤ length s → command_at s ≡ read_row s i
  whole-as h = read_as ∙ rw (le-leb (size_of_row i) (length s) h)

  -- the numbers at its widths are its operands
  pub whole-by : {ws : List ℕ} {x y z : ℕ} → size_of_row i ≤ length s → ws ≡ width_at i 0 ∷ width_at i 1 ∷ width_at i 2 ∷ []
      → (x ≡ number_at s 1 (get_or ws 0 0)) × (x < 256 ^ get_or ws 0 0)
      → (y ≡ number_at s (1 + get_or ws 0 0) (get_or ws 1 0)) × (y < 256 ^ get_or ws 1 0)
      → (z ≡ number_at s (1 + get_or ws 0 0 + get_or ws 1 0) (get_or ws 2 0)) × (z < 256 ^ get_or ws 2 0) → Whole s i x y z
  whole-by {x = x} {y} {z} h e a b c =
      let a' = rw e at a in
      let b' = rw e at b in
      let c' = rw e at c in
      let e' : made i (x ∷ y ∷ z ∷ []) ≡ read_row s i = λ j. made i (a'.0 j ∷ b'.0 j ∷ c'.0 j ∷ []) in
      record { is = whole-as h ∙ sym e'; first = a'.1; second = b'.1; third = c'.1 }

  -- the command read is not of the kind of row i: it is cut short
  pub cut_short : (c : Command) → c ≡ command_at s → Among (others i) (tag_of the_type c) → command_at s ≡ Refused CutShort
  cut_short c e h =
      sym e ∙ second (leb (size_of_row i) (length s)) (read_row s i) (Refused CutShort) c (others i) (e ∙ read_as) (own s i few) (opened h)
