-- Numbers of a width in bytes: what is written is read back, unsigned and signed, and the other way round. Every law is for any
-- width. Assumes nothing.
use mathlib.Core.Path.{◌≡◌, refl, sym, ap, ap₂, ◌∙◌}
use mathlib.Core.Bool.{Bool, true, false}
use mathlib.Core.List.{List, [], ◌∷◌, ◌++◌, append_assoc, append-nil}
use Prim.Native.Nat.{ℕ, zero, suc, ◌+◌, ◌-◌, ◌*◌, ◌/◌, ◌%◌, ◌^◌, ◌≤◌, ◌<◌}
use native.Mathlib.Nat.{div-add-mod', div-lt_iff_lt-mul, mod-lt, pow-suc, pow-le-pow_right}
use native.Mathlib.Omega.{arith}
use lib.Dec.{lit<, ltb}
use lib.ListN.{length, length-append}
use lib.IntN.{ℤ, pos, negsuc, nat_abs}
use borrow.Author.Tests.{lt-ltb, le-ltb, ltb-true, ltb-false}
use Rattle.integers.specs.Numbers.{Bytes, bytes_of, number_of, bits_of, signed_of}

-- ---- the bytes of a number
pub length-bytes : (width n : ℕ) → length (bytes_of width n) ≡ width
length-bytes zero n = refl
length-bytes (suc width) n = ap suc (length-bytes width (n / 256))

pub bytes_small : (width n : ℕ) → Bytes (bytes_of width n)
bytes_small zero n = tt
bytes_small (suc width) n = (mod-lt n (lit< tt), bytes_small width (n / 256))

pub number-bytes : (width n : ℕ) → n < 256 ^ width → number_of (bytes_of width n) ≡ n
number-bytes zero n h = omega arith
number-bytes (suc width) n h =
    let small : n / 256 < 256 ^ width = (div-lt_iff_lt-mul {k = 256} {x = n} {y = 256 ^ width} (lit< tt)).1 (rw pow-suc at h) in
    omega (arith, div-add-mod' n 256, number-bytes width (n / 256) small)

pub bytes-number : (l : List ℕ) → Bytes l → bytes_of (length l) (number_of l) ≡ l
bytes-number [] h = refl
bytes-number (b ∷ rest) (h, t) =
    let low : (b + 256 * number_of rest) % 256 ≡ b = omega arith in
    let high : (b + 256 * number_of rest) / 256 ≡ number_of rest = omega arith in
    ap₂ (λ (x n : ℕ). x ∷ bytes_of (length rest) n) low high ∙ ap (λ (l : List ℕ). b ∷ l) (bytes-number rest t)

pub number_small : (l : List ℕ) → Bytes l → number_of l < 256 ^ length l
number_small [] h = omega arith
number_small (b ∷ rest) (h, t) = rw pow-suc (omega (arith, number_small rest t))

-- ---- bytes read from the last on

-- of the bytes `all` those behind `left` were read, and their number is `number`
pub record Backward (all left : List ℕ) (number : ℕ) : Type 0 where
  pub behind : List ℕ
  pub whole : all ≡ left ++ behind
  pub is : number ≡ number_of behind
  pub below : number < 256 ^ length behind

pub backward_start : (all : List ℕ) → Backward all all 0
backward_start all = record { behind = []; whole = sym (append-nil all); is = refl; below = omega arith }

module _ {all left : List ℕ} {number : ℕ} where
  -- one byte more at the low end
  pub backward_next : {byte : ℕ} → byte < 256 → Backward all (left ++ (byte ∷ [])) number → Backward all left (number * 256 + byte)
  backward_next {byte} small b = record {
    behind = byte ∷ b.behind;
    whole = b.whole ∙ append_assoc left (byte ∷ []) b.behind;
    is = omega (arith, b.is);
    below = rw pow-suc (omega (arith, b.below));
  }

-- of four bytes at most, with one of them left, the number has room for it
pub backward_room : (left : List ℕ) (byte : ℕ) {all : List ℕ} {number : ℕ} → length all ≤ 4 → Backward all (left ++ (byte ∷ [])) number → number * 256 + 255 < 256 ^ 4
backward_room left byte {all} few b =
    let n : length b.behind ≤ 3 = omega (arith, few, simp length-append at (ap length b.whole)) in
    let most : 256 ^ length b.behind ≤ 256 ^ 3 = pow-le-pow_right (lit< tt) n in
    omega (arith, b.below, most)

pub backward_end : {all : List ℕ} {number : ℕ} → Backward all [] number → (number ≡ number_of all) × (number < 256 ^ length all)
backward_end b = rw b.whole (b.is, b.below)

-- ---- two's complement
pub signed_low : (width bits : ℕ) → 2 * bits < 256 ^ width → signed_of width bits ≡ pos bits
signed_low width bits h = rw (lt-ltb (2 * bits) (256 ^ width) h)

pub signed_high : (width bits : ℕ) → 256 ^ width ≤ 2 * bits → signed_of width bits ≡ negsuc (256 ^ width - suc bits)
signed_high width bits h = rw (le-ltb (2 * bits) (256 ^ width) h)

pub signed-bits : (width : ℕ) (z : ℤ) → 2 * nat_abs z + 2 ≤ 256 ^ width → signed_of width (bits_of width z) ≡ z
signed-bits width (pos n) h = signed_low width n (omega arith)
signed-bits width (negsuc n) h = signed_high width (256 ^ width - suc n) (omega arith) ∙ ap negsuc (omega arith)

pub bits_fit : (width : ℕ) (z : ℤ) → 2 * nat_abs z + 2 ≤ 256 ^ width → bits_of width z < 256 ^ width
bits_fit width (pos n) h = omega arith
bits_fit width (negsuc n) h = omega arith

pub bits-signed : (width bits : ℕ) → bits < 256 ^ width → bits_of width (signed_of width bits) ≡ bits
bits-signed width bits h = by-half (ltb (2 * bits) (256 ^ width)) refl
  where
    by-half : (b : Bool) → ltb (2 * bits) (256 ^ width) ≡ b → bits_of width (signed_of width bits) ≡ bits
    by-half true e = ap (bits_of width) (signed_low width bits (ltb-true (2 * bits) (256 ^ width) e))
    by-half false e = ap (bits_of width) (signed_high width bits (ltb-false (2 * bits) (256 ^ width) e)) ∙ omega arith
