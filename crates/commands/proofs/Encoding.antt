-- A command's bytes are read as the command, and the bytes that are read as a command are the command's. Both go through the table: the
-- numbers of given widths, one behind another, are written and read back for any widths; a command is its row and its operands.
-- Assumes nothing.
use mathlib.Core.Bool.{Bool, true, false, cond}
use mathlib.Core.List.{List, [], ◌∷◌, ◌++◌, append_assoc}
use mathlib.Core.Path.{◌≡◌, refl, sym, ap, ap₂, ◌∙◌}
use Prim.Native.Nat.{ℕ, zero, suc, ◌+◌, ◌^◌, ◌≤◌, ◌<◌}
use native.Mathlib.Nat.{add-zero, add_assoc}
use native.Mathlib.Omega.{arith}
use lib.Dec.{eqb, leb, ltb→lt}
use lib.ListN.{length, take, drop, get_or, length-append, length-drop, take-append-drop}
use lib.Seq.{take_at, drop_at, drop-drop, length-take-le}
use borrow.Author.Tests.{leb-true, leb-false, eqb-false}
use Rattle.integers.specs.Numbers.{Bytes, bytes_of, number_of, number_at}
use Rattle.integers.proofs.Numbers.{length-bytes, number-bytes, bytes-number, number_small}
use Rattle.commands.specs.Table.{rows, row_at, row_of, size_of_row, size_of_byte}
use Rattle.commands.specs.Reading.{command_at, read_row, made}
use Rattle.commands.specs.Encoding.{row_number, operands, byte_of, at_widths, encode, NoRefusal, InWidths, Fits}
use Rattle.answers.specs.declared.Reason.TheVariants.{NotAllowed, CutShort}
use Rattle.commands.specs.declared.Command.{Command}
use Rattle.commands.specs.declared.Command.TheVariants.{Refused}
use Rattle.commands.proofs.Every.{each_at}
use Rattle.commands.proofs.Commands.{made_again}
use Rattle.commands.proofs.Rows.{total, row-byte, size-total, size-of-byte, size-as}
use Rattle.commands.proofs.Known.{whole-as}

-- ---- numbers of given widths, one behind another

-- those that stand from a place on
abbrev numbers_at : List ℕ → ℕ → List ℕ → List ℕ
numbers_at [] place s = []
numbers_at (w ∷ ws) place s = number_at s place w ∷ numbers_at ws (place + w) s

length-written : (ws vs : List ℕ) → InWidths ws vs → length (at_widths ws vs) ≡ total ws
length-written [] [] h = refl
length-written [] (v ∷ vs) h = absurd h
length-written (w ∷ ws) [] h = absurd h
length-written (w ∷ ws) (v ∷ vs) (h, hs) =
    length-append (bytes_of w v) (at_widths ws vs) ∙ ap₂ ◌+◌ (length-bytes w v) (length-written ws vs hs)

numbers-written : (ws vs rest s : List ℕ) (place : ℕ) → InWidths ws vs → drop place s ≡ at_widths ws vs ++ rest → numbers_at ws place s ≡ vs
numbers-written [] [] rest s place h e = refl
numbers-written [] (v ∷ vs) rest s place h e = absurd h
numbers-written (w ∷ ws) [] rest s place h e = absurd h
numbers-written (w ∷ ws) (v ∷ vs) rest s place (h, hs) e =
    let front : drop place s ≡ bytes_of w v ++ (at_widths ws vs ++ rest) = e ∙ append_assoc (bytes_of w v) (at_widths ws vs) rest in
    let number : number_at s place w ≡ v =
    ap (λ (l : List ℕ). number_of (take w l)) front ∙ ap number_of (take_at (bytes_of w v) _ w (length-bytes w v)) ∙ number-bytes w v h in
    let more : drop (place + w) s ≡ at_widths ws vs ++ rest =
    sym (drop-drop w place s) ∙ ap (drop w) front ∙ drop_at (bytes_of w v) _ w (length-bytes w v) in
    ap₂ ◌∷◌ number (numbers-written ws vs rest s (place + w) hs more)

bytes_take : (n : ℕ) (s : List ℕ) → Bytes s → Bytes (take n s)
bytes_take zero s h = tt
bytes_take (suc n) [] h = tt
bytes_take (suc n) (b ∷ s) (h, hs) = (h, bytes_take n s hs)

pub bytes_drop : (n : ℕ) (s : List ℕ) → Bytes s → Bytes (drop n s)
bytes_drop zero s h = h
bytes_drop (suc n) [] h = tt
bytes_drop (suc n) (b ∷ s) (h, hs) = bytes_drop n s hs

module _ (s : List ℕ) (b : Bytes s) where
  part_length : (place w : ℕ) → place + w ≤ length s → length (take w (drop place s)) ≡ w
  part_length place w h = length-take-le w (drop place s) (omega (arith, length-drop place s))

  part_bytes : (place w : ℕ) → Bytes (take w (drop place s))
  part_bytes place w = bytes_take w (drop place s) (bytes_drop place s b)

  number_fits : (place w : ℕ) → place + w ≤ length s → number_at s place w < 256 ^ w
  number_fits place w h = rw (part_length place w h) at (number_small (take w (drop place s)) (part_bytes place w))

  number-back : (place w : ℕ) → place + w ≤ length s → bytes_of w (number_at s place w) ≡ take w (drop place s)
  number-back place w h = rw (part_length place w h) at (bytes-number (take w (drop place s)) (part_bytes place w))

  numbers_fit : (ws : List ℕ) (place : ℕ) → place + total ws ≤ length s → InWidths ws (numbers_at ws place s)
  numbers_fit [] place h = tt
  numbers_fit (w ∷ ws) place h = (number_fits place w (omega arith), numbers_fit ws (place + w) (omega arith))

  numbers-back : (ws : List ℕ) (place : ℕ) → place + total ws ≤ length s → at_widths ws (numbers_at ws place s) ++ drop (place + total ws) s ≡ drop place s
  numbers-back [] place h = ap (λ (n : ℕ). drop n s) (add-zero place)
  numbers-back (w ∷ ws) place h =
      append_assoc (bytes_of w (number_at s place w)) (at_widths ws (numbers_at ws (place + w) s)) (drop (place + (w + total ws)) s)
      ∙ ap₂ ◌++◌ (number-back place w (omega arith))
      (ap (λ (n : ℕ). at_widths ws (numbers_at ws (place + w) s) ++ drop n s) (sym (add_assoc place w (total ws)))
      ∙ numbers-back ws (place + w) (omega arith)
      ∙ sym (drop-drop w place s))
      ∙ take-append-drop w (drop place s)

-- ---- a command is its row and its operands

-- what is read by row i is of row i, and its operands are the numbers after its byte
abbrev OfRow : List ℕ → ℕ → Type 0
OfRow s i = (row_number (read_row s i) ≡ i) × (operands (read_row s i) ≡ numbers_at (row_at i).widths 1 s)

of_row : (s : List ℕ) (i : ℕ) → i < rows → OfRow s i
of_row s = each_at (OfRow s) rows (search)

pub row_number_lem : (s : List ℕ) (i : ℕ) → i < rows → row_number (read_row s i) ≡ i
row_number_lem s i h = (of_row s i h).0

-- ---- what is written is read back

few : (c : Command) → Fits c → row_number c < rows
few c fits = ltb→lt (row_number c) rows fits.0

pub length-encode : (c : Command) → Fits c → length (encode c) ≡ size_of_row (row_number c)
length-encode c fits =
    omega (arith, length-written (row_at (row_number c)).widths (operands c) fits.1, size-total (row_number c) (few c fits))

pub size-encode : (c : Command) → Fits c → size_of_byte (byte_of c) ≡ length (encode c)
size-encode c fits = size-as (row_number c) (few c fits) refl ∙ sym (length-encode c fits)

-- the command, and then what remains
pub read-encode : (c : Command) (rest : List ℕ) → Fits c → command_at (encode c ++ rest) ≡ c
read-encode c rest fits =
    let s : List ℕ = encode c ++ rest in
    let i : ℕ = row_number c in
    let h : i < rows = few c fits in
    let whole : size_of_row i ≤ length s = omega (arith, length-encode c fits, length-append (encode c) rest) in
    let numbers : numbers_at (row_at i).widths 1 s ≡ operands c = numbers-written (row_at i).widths (operands c) rest s 1 fits.1 refl in
    let number : row_number (read_row s i) ≡ i = row_number_lem s i h in
    whole-as s i h (omega arith) refl whole
    ∙ sym (made_again (read_row s i) (rw number fits.0))
    ∙ ap₂ made number ((of_row s i h).1 ∙ numbers)
    ∙ made_again c fits.0

pub drop-encode : (c : Command) (rest : List ℕ) → Fits c → drop (size_of_byte (byte_of c)) (encode c ++ rest) ≡ rest
drop-encode c rest fits = drop_at (encode c) rest (size_of_byte (byte_of c)) (sym (size-encode c fits))

-- ---- what is read is what stands there

-- a command that is no refusal: its row, and all its bytes are there
pub record Seen (s : List ℕ) : Type 0 where
  pub there : 1 ≤ length s
  pub few : row_of (get_or s 0 0) < rows
  pub whole : size_of_row (row_of (get_or s 0 0)) ≤ length s
  pub is : command_at s ≡ read_row s (row_of (get_or s 0 0))

pub seen : (s : List ℕ) → NoRefusal (command_at s) → Seen s
unfolding command_at
seen s h = by_tests (eqb (length s) 0) (leb rows (row_of (get_or s 0 0))) (leb (size_of_row (row_of (get_or s 0 0))) (length s)) refl refl refl h refl
  where
    by_tests : (x y z : Bool) → eqb (length s) 0 ≡ x → leb rows (row_of (get_or s 0 0)) ≡ y → leb (size_of_row (row_of (get_or s 0 0))) (length s) ≡ z
        → NoRefusal (cond x (Refused CutShort) (cond y (Refused NotAllowed) (cond z (read_row s (row_of (get_or s 0 0))) (Refused CutShort))))
        → command_at s ≡ cond x (Refused CutShort) (cond y (Refused NotAllowed) (cond z (read_row s (row_of (get_or s 0 0))) (Refused CutShort))) → Seen s
    by_tests true y z e₁ e₂ e₃ h e = absurd h
    by_tests false true z e₁ e₂ e₃ h e = absurd h
    by_tests false false false e₁ e₂ e₃ h e = absurd h
    by_tests false false true e₁ e₂ e₃ h e =
        let some : length s ≡ 0 → ⊥ = eqb-false (length s) 0 e₁ in
        record { there = omega (arith, some); few = leb-false rows (row_of (get_or s 0 0)) e₂; whole = leb-true (size_of_row (row_of (get_or s 0 0))) (length s) e₃; is = e }

first : (s : List ℕ) → 1 ≤ length s → get_or s 0 0 ∷ drop 1 s ≡ s
first [] h = absurd (omega arith)
first (b ∷ s) h = refl

module _ (s : List ℕ) (h : NoRefusal (command_at s)) where
  pub row_read : row_number (command_at s) ≡ row_of (get_or s 0 0)
  row_read = let S : Seen s = seen s h in ap row_number S.is ∙ row_number_lem s (row_of (get_or s 0 0)) S.few

  pub byte-read : byte_of (command_at s) ≡ get_or s 0 0
  byte-read = let S : Seen s = seen s h in ap (λ (i : ℕ). (row_at i).byte) row_read ∙ row-byte (get_or s 0 0) S.few

  operands-read : operands (command_at s) ≡ numbers_at (row_at (row_of (get_or s 0 0))).widths 1 s
  operands-read = let S : Seen s = seen s h in ap operands S.is ∙ (of_row s (row_of (get_or s 0 0)) S.few).1

  reach : 1 + total (row_at (row_of (get_or s 0 0))).widths ≤ length s
  reach = let S : Seen s = seen s h in rw (size-total (row_of (get_or s 0 0)) S.few) at S.whole

-- its operands are within their widths
pub read_fits : (s : List ℕ) → Bytes s → NoRefusal (command_at s) → Fits (command_at s)
read_fits s b h =
    (h, rw (row_read s h, operands-read s h) (numbers_fit s b (row_at (row_of (get_or s 0 0))).widths 1 (reach s h)))

-- the command's bytes, and then what remains
pub encode-read : (s : List ℕ) → Bytes s → NoRefusal (command_at s) → s ≡ encode (command_at s) ++ drop (size_of_byte (get_or s 0 0)) s
encode-read s b h =
    let S : Seen s = seen s h in
    let i : ℕ = row_of (get_or s 0 0) in
    let ws : List ℕ = (row_at i).widths in
    let size : size_of_byte (get_or s 0 0) ≡ 1 + total ws = size-of-byte (get_or s 0 0) S.few ∙ size-total i S.few in
    let code : encode (command_at s) ≡ get_or s 0 0 ∷ at_widths ws (numbers_at ws 1 s) =
    ap₂ ◌∷◌ (byte-read s h) (ap₂ (λ (j : ℕ) (vs : List ℕ). at_widths (row_at j).widths vs) (row_read s h) (operands-read s h)) in
    sym
    (ap₂ (λ (x : List ℕ) (n : ℕ). x ++ drop n s) code size
    ∙ ap (λ (l : List ℕ). get_or s 0 0 ∷ l) (numbers-back s b ws 1 (reach s h))
    ∙ first s S.there)
