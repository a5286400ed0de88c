-- The table: what holds of each row, computed over all of them.
-- Assumes nothing.
use mathlib.Core.Bool.{Bool, true, false, cond}
use mathlib.Core.List.{List, [], ◌∷◌}
use mathlib.Core.Path.{◌≡◌, refl, sym, ap, ◌∙◌}
use Prim.Native.Nat.{ℕ, suc, ◌+◌, ◌<◌}
use native.Mathlib.Nat.{zero-add}
use native.Mathlib.Omega.{arith}
use lib.Dec.{eqb}
use lib.ListN.{length, get_or}
use borrow.Author.Tests.{lt-ltb, ne_eqb, eqb-true}
use Rattle.commands.specs.Table.{Row, row, table, rows, row_at, row_of, seek, size_of_row, size_of_byte}
use Rattle.commands.proofs.Every.{each_at}

-- the sum of widths
abbrev pub total : List ℕ → ℕ
total [] = 0
total (w ∷ ws) = w + total ws

-- a row is found by its byte, and a command is as long as its byte and its operands
abbrev Found : ℕ → Type 0
Found i = (row_of (row_at i).byte ≡ i) × (size_of_row i ≡ 1 + total (row_at i).widths)

found : (i : ℕ) → i < rows → Found i
found = each_at Found rows (search)

pub row-of-byte : (i : ℕ) → i < rows → row_of (row_at i).byte ≡ i
row-of-byte i h = (found i h).0

pub size-total : (i : ℕ) → i < rows → size_of_row i ≡ 1 + total (row_at i).widths
size-total i h = (found i h).1

pub size-of-byte : (b : ℕ) → row_of b < rows → size_of_byte b ≡ size_of_row (row_of b)
unfolding size_of_byte
size-of-byte b h = rw (lt-ltb (row_of b) rows h)

pub size-as : (i : ℕ) {b : ℕ} → i < rows → b ≡ (row_at i).byte → size_of_byte b ≡ size_of_row i
unfolding size_of_byte
size-as i h e = rw (e, row-of-byte i h, lt-ltb i rows h)

-- where the search for a byte ends within the rows, the row has the byte
seek-at : (b : ℕ) (rs : List Row) (i : ℕ) → seek b rs i < i + length rs → (j : ℕ) × (seek b rs i ≡ i + j) × ((get_or rs j (row 0 [])).byte ≡ b)
seek-at b [] i h = absurd (omega arith)
seek-at b (r ∷ rs) i h = by-test (eqb b r.byte) refl h (λ k. seek-at b rs (suc i) k)
  where
    by-test : (x : Bool) → eqb b r.byte ≡ x → cond x i (seek b rs (suc i)) < i + suc (length rs)
        → (seek b rs (suc i) < suc i + length rs → (j : ℕ) × (seek b rs (suc i) ≡ suc i + j) × ((get_or rs j (row 0 [])).byte ≡ b))
        → (j : ℕ) × (cond x i (seek b rs (suc i)) ≡ i + j) × ((get_or (r ∷ rs) j (row 0 [])).byte ≡ b)
    by-test true e k f = (0, omega arith, sym (eqb-true b r.byte e))
    by-test false e k f =
        let (j, place, same) = f (omega (arith, k)) in
        (suc j, omega (arith, place), same)

pub row-byte : (b : ℕ) → row_of b < rows → (row_at (row_of b)).byte ≡ b
row-byte b h =
    let (j, place, same) = seek-at b table 0 (omega arith) in
    ap (λ (i : ℕ). (row_at i).byte) (place ∙ zero-add j) ∙ same

-- the byte is that of none of the rows, as the last arm of a `match` is told
abbrev pub Apart : ℕ → List Row → Type 0 → Type 0
Apart b [] N = N
Apart b (r ∷ rs) N = Apart b rs (N × (b ≡ r.byte → ⊥))

seek-past : (b : ℕ) (rs : List Row) (i : ℕ) (N : Type 0) → Apart b rs N → N × (seek b rs i ≡ i + length rs)
seek-past b [] i N h = (h, omega arith)
seek-past b (r ∷ rs) i N h =
    let ((n, differs), end) = seek-past b rs (suc i) (N × (b ≡ r.byte → ⊥)) h in
    (n, rw (ne_eqb b r.byte differs) (omega (arith, end)))

pub no_row : (b : ℕ) → Apart b table (Unit {0}) → row_of b ≡ rows
no_row b h = (seek-past b table 0 (Unit {0}) h).1
