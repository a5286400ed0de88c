-- The laws of lists of numbers as bytes.
-- Assumes nothing.
use mathlib.Core.Path.{◌≡◌, refl, sym, ap, ap₂, ◌∙◌}
use Prim.Native.Nat.{ℕ, zero, suc, ◌+◌, ◌*◌, ◌-◌, ◌/◌, ◌%◌, ◌<◌, ◌≤◌}
use native.Mathlib.Nat.{mul-zero, mul-suc, add_comm}
use native.Mathlib.Omega.{arith}
use mathlib.Core.List.{List, [], ◌∷◌, ◌++◌, append_assoc}
use lib.ListN.{length, replicate, length-append, length-replicate}
use Rattle.integers.specs.All.{All}
use Rattle.integers.specs.Numbers.{Bytes, bytes_of}
use Rattle.integers.proofs.Numbers.{length-bytes}
use Rattle.lists.specs.Numbers.{numbers_bytes, halves}

-- ---- one number

-- its bytes are the least and those of a smaller number
pub bytes-more : (width n : ℕ) → 0 < width → bytes_of width n ≡ n % 256 ∷ bytes_of (width - 1) (n / 256)
bytes-more zero n h = absurd (omega (arith, h))
bytes-more (suc width) n h =
    let e : width ≡ suc width - 1 = omega arith in
    ap (λ (m : ℕ). n % 256 ∷ bytes_of m (n / 256)) e

pub bytes-none : (width n : ℕ) → width ≤ 0 → bytes_of width n ≡ []
bytes-none zero n h = refl
bytes-none (suc width) n h = absurd (omega (arith, h))

-- ---- numbers of any width

pub length-numbers : (width : ℕ) (ks : List ℕ) → length (numbers_bytes width ks) ≡ width * length ks
length-numbers width [] = sym (mul-zero width)
length-numbers width (k ∷ ks) =
    length-append (bytes_of width k) (numbers_bytes width ks)
    ∙ ap₂ ◌+◌ (length-bytes width k) (length-numbers width ks)
    ∙ add_comm width (width * length ks)
    ∙ sym (mul-suc width (length ks))

pub numbers-append : (width : ℕ) (ks ms : List ℕ) → numbers_bytes width (ks ++ ms) ≡ numbers_bytes width ks ++ numbers_bytes width ms
numbers-append width [] ms = refl
numbers-append width (k ∷ ks) ms =
    ap (λ (z : List ℕ). bytes_of width k ++ z) (numbers-append width ks ms)
    ∙ sym (append_assoc (bytes_of width k) (numbers_bytes width ks) (numbers_bytes width ms))

pub length_run : (width n k : ℕ) → length (numbers_bytes width (replicate n k)) ≡ width * n
length_run width n k = length-numbers width (replicate n k) ∙ ap (λ (m : ℕ). width * m) (length-replicate n k)

-- a run of a number is the number and a shorter run
pub run_more : (width n k : ℕ) → 0 < n → numbers_bytes width (replicate n k) ≡ bytes_of width k ++ numbers_bytes width (replicate (n - 1) k)
run_more width zero k h = absurd (omega (arith, h))
run_more width (suc n) k h =
    let e : n ≡ suc n - 1 = omega arith in
    ap (λ (m : ℕ). bytes_of width k ++ numbers_bytes width (replicate m k)) e

pub run_none : (width n k : ℕ) → n ≤ 0 → numbers_bytes width (replicate n k) ≡ []
run_none width zero k h = refl
run_none width (suc n) k h = absurd (omega (arith, h))

-- ---- numbers of two bytes, read back

pub halves-numbers : (ks : List ℕ) → All (λ (k : ℕ). k < 65536) ks → halves (numbers_bytes 2 ks) ≡ ks
halves-numbers [] h = refl
halves-numbers (k ∷ ks) h =
    let e : k % 256 + 256 * (k / 256 % 256) ≡ k = omega (arith, h.0) in
    ap₂ (λ (x : ℕ) (xs : List ℕ). x ∷ xs) e (halves-numbers ks h.1)

pub numbers-halves : (s : List ℕ) → Bytes s → length s % 2 ≡ 0 → numbers_bytes 2 (halves s) ≡ s
numbers-halves [] b e = refl
numbers-halves (low ∷ []) b e = absurd (omega (arith, e))
numbers-halves (low ∷ high ∷ rest) b e =
    let l : (low + 256 * high) % 256 ≡ low = omega (arith, b.0) in
    let u : (low + 256 * high) / 256 ≡ high = omega (arith, b.0) in
    let h : high % 256 ≡ high = omega (arith, b.1.0) in
    let t : numbers_bytes 2 (halves rest) ≡ rest = numbers-halves rest b.1.1 (omega (arith, e)) in
    rw (l, u, h, t)

pub length-halves : (s : List ℕ) → length (halves s) ≡ length s / 2
length-halves [] = refl
length-halves (low ∷ []) = refl
length-halves (low ∷ high ∷ rest) = omega (arith, length-halves rest)
