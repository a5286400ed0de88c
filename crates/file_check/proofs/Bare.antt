-- A K that has no T yet: any other command behind it gets 14, or 2 where it is cut short. Where no T is missing, a command's own rule is all.
-- Assumes nothing.
use mathlib.Core.Path.{◌≡◌, refl, sym, ap, ◌∙◌}
use mathlib.Core.Bool.{Bool, true, false, cond, not}
use mathlib.Core.List.{List, [], ◌∷◌}
use Prim.Native.Nat.{ℕ, suc, ◌+◌, ◌≤◌, ◌<◌}
use native.Mathlib.Omega.{arith}
use lib.Dec.{eqb, leb, ltb}
use lib.ListN.{length, get_or}
use borrow.Author.Tests.{ltb-true, ltb-false, eqb-true, ne_eqb, not-true, not-false}
use Rattle.integers.specs.All.{All}
use Rattle.commands.specs.Table.{Row, table, rows, row_at, row_of, seek, size_of_byte, letter_t}
use Rattle.commands.specs.Reading.{command_at, read_row}
use Rattle.commands.specs.Encoding.{byte_of, NoRefusal}
use Rattle.commands.specs.declared.Command.{Command}
use Rattle.commands.proofs.Rows.{row-byte, size-of-byte}
use Rattle.commands.proofs.Known.{short-as, whole-as}
use Rattle.commands.proofs.Commands.{row-or-refusal}
use Rattle.commands.proofs.Encoding.{row_number_lem, byte-read}
use Rattle.model.specs.Limits.{Limits}
use Rattle.model.specs.ReadingState.{ReadingState, Taken, rule, stop}
use Rattle.model.specs.Rules.{is_one_of, allowed, tests_of, sum_tests, rule_of}
use Rattle.model.proofs.ReadingLaws.{clash}
use Rattle.file_check.specs.Views.{lacks_term}

-- ---- a byte that may stand anywhere is a command's
-- a search that runs past the last row has met none with the byte
met-none : (b : ℕ) (rs : List Row) (i : ℕ) → i + length rs ≤ seek b rs i → All (λ (r : Row). eqb b r.byte ≡ false) rs
met-none b [] i h = tt
met-none b (r ∷ rs) i h = by-test (eqb b r.byte) refl h (λ k. met-none b rs (suc i) k)
  where
    by-test : (x : Bool) → eqb b r.byte ≡ x → i + suc (length rs) ≤ cond x i (seek b rs (suc i))
        → (suc i + length rs ≤ seek b rs (suc i) → All (λ (r : Row). eqb b r.byte ≡ false) rs)
        → All (λ (r : Row). eqb b r.byte ≡ false) (r ∷ rs)
    by-test true e h f = absurd (omega (arith, h))
    by-test false e h f = (e, f (omega (arith, h)))

module _ (l : Limits) (p : ReadingState) (b : ℕ) where
  no_other : All (λ (r : Row). eqb b r.byte ≡ false) table → allowed l p b ≡ false
  no_other (v, (u, (m, (a, (c, (d, (e, (plus, (n, (t, (q, (r, (g, (z, (k, none))))))))))))))) = rw (v, u, m, a, g, c, d, e, plus, n, q, r, t, z, k)

  pub known-byte : allowed l p b ≡ true → row_of b < rows
  known-byte h = by-test (ltb (row_of b) rows) refl
    where
      by-test : (x : Bool) → ltb (row_of b) rows ≡ x → row_of b < rows
      by-test true e = ltb-true (row_of b) rows e
      by-test false e = absurd (clash (sym h ∙ no_other (met-none b table 0 (omega (arith, ltb-false (row_of b) rows e)))))

-- ---- a T is missing, or not
-- a K has none yet, the file is a source file, and the byte is another's
record Lacking (l : Limits) (p : ReadingState) (b : ℕ) : Type 0 where
  pub bare : leb 1 p.bare_sum ≡ true
  pub source : l.restricted ≡ false
  pub other : eqb b letter_t ≡ false

lacking : (l : Limits) (p : ReadingState) (b : ℕ) → lacks_term l.restricted p.bare_sum b ≡ true → Lacking l p b
lacking l p b h = by_tests (leb 1 p.bare_sum) l.restricted refl refl h
  where
    by_tests : (x y : Bool) → leb 1 p.bare_sum ≡ x → l.restricted ≡ y → cond x (cond y false (not (eqb b letter_t))) false ≡ true → Lacking l p b
    by_tests false y e₁ e₂ h = absurd (clash (sym h))
    by_tests true true e₁ e₂ h = absurd (clash (sym h))
    by_tests true false e₁ e₂ h = record { bare = e₁; source = e₂; other = not-true (eqb b letter_t) h }

-- the command at the front of s stands where a T must
module _ (l : Limits) (p : ReadingState) (s : List ℕ) (there : 0 < length s) (few : row_of (get_or s 0 0) < rows)
    (h : lacks_term l.restricted p.bare_sum (get_or s 0 0) ≡ true) where
  pub cut-before-term : length s < size_of_byte (get_or s 0 0) → stop p 2 ≡ rule_of l p (command_at s)
  unfolding tests_of
  cut-before-term short =
      let k = row_of (get_or s 0 0) in
      let L : Lacking l p (get_or s 0 0) = lacking l p (get_or s 0 0) h in
      rw (short-as s k few there (sym (row-byte (get_or s 0 0) few)) (omega (arith, size-of-byte (get_or s 0 0) few)), L.source)

  pub missing-term : size_of_byte (get_or s 0 0) ≤ length s → stop p 14 ≡ rule_of l p (command_at s)
  missing-term whole =
      let k = row_of (get_or s 0 0) in
      let L : Lacking l p (get_or s 0 0) = lacking l p (get_or s 0 0) h in
      let read : command_at s ≡ read_row s k =
      whole-as s k few there (sym (row-byte (get_or s 0 0) few)) (omega (arith, size-of-byte (get_or s 0 0) few)) in
      let byte : byte_of (command_at s) ≡ get_or s 0 0 =
      ap byte_of read ∙ ap (λ (i : ℕ). (row_at i).byte) (row_number_lem s k few) ∙ row-byte (get_or s 0 0) few in
      let some : get_or s 0 0 ≡ 0 → ⊥ = λ z. omega (arith, ap row_of z) in
      rw (L.source, byte, L.other, ne_eqb (get_or s 0 0) 0 some, L.bare)

-- a T, or a refusal, is none of the commands that get 14
term-or-refusal : (c : Command) → (NoRefusal c → byte_of c ≡ letter_t) → is_one_of (byte_of c) (letter_t ∷ 0 ∷ []) ≡ true
term-or-refusal = row-or-refusal (λ (c : Command). (NoRefusal c → byte_of c ≡ letter_t) → is_one_of (byte_of c) (letter_t ∷ 0 ∷ []) ≡ true)
    (λ c h f. rw (f h))
    (λ number f. refl)

pub no-term-missing : (l : Limits) (p : ReadingState) (s : List ℕ) → lacks_term l.restricted p.bare_sum (get_or s 0 0) ≡ false
    → (q : Taken) → q ≡ rule p (sum_tests l p (command_at s)) q
no-term-missing l p s h q = by_tests (leb 1 p.bare_sum) l.restricted (is_one_of (byte_of (command_at s)) (letter_t ∷ 0 ∷ [])) refl h
  where
    by_tests : (x y z : Bool) → is_one_of (byte_of (command_at s)) (letter_t ∷ 0 ∷ []) ≡ z
        → cond x (cond y false (not (eqb (get_or s 0 0) letter_t))) false ≡ false → q ≡ rule p (cond y [] (cond z [] ((x, 14) ∷ []))) q
    by_tests x true z e h = refl
    by_tests x false true e h = refl
    by_tests false false false e h = refl
    by_tests true false false e h =
        let term : get_or s 0 0 ≡ letter_t = eqb-true (get_or s 0 0) letter_t (not-false (eqb (get_or s 0 0) letter_t) h) in
        absurd (clash (sym (term-or-refusal (command_at s) (λ k. byte-read s k ∙ term)) ∙ e))
