-- The laws of a plan's agreement with a run, counted four numbers at a time and then one at a time.
-- Assumes nothing.
use mathlib.Core.Path.{◌≡◌, refl, ap, ◌∙◌}
use Prim.Native.Nat.{ℕ, zero, suc, min, ◌+◌, ◌*◌, ◌-◌, ◌/◌, ◌≤◌, ◌<◌}
use native.Mathlib.Nat.{zero-add, add_assoc}
use native.Mathlib.Numerals.{add-one}
use native.Mathlib.Omega.{arith}
use mathlib.Core.Bool.{cond}
use mathlib.Core.List.{List, [], ◌∷◌}
use lib.Dec.{eqb}
use lib.ListN.{length, get_or, drop, replicate, length-drop}
use lib.Seq.{get_or-drop, drop-cons}
use borrow.Author.Tests.{eq-eqb, ne_eqb}
use Rattle.lists.specs.Numbers.{halves}
use Rattle.lists.proofs.Numbers.{length-halves}
use Rattle.model.specs.Following.{agreeing}
use Rattle.plan_bytes.specs.Agreeing.{four_at, Fours, Passed}

-- ---- a plan's numbers from step `at` on
pub numbers-from : (s : List ℕ) (at : ℕ) → length (drop at (halves s)) ≡ length s / 2 - at
numbers-from s at = length-drop at (halves s) ∙ ap (λ (n : ℕ). n - at) (length-halves s)

-- ---- a scan of the first m numbers that has found i of them to be k
module _ {k : ℕ} {xs : List ℕ} {m : ℕ} where
  pub passed_start : m ≤ length xs → Passed k xs m 0
  passed_start h = let e : m - 0 ≡ m = omega arith in record { room = h; bound = omega arith; same = rw (e, zero-add) }

  pub passed-next : {i : ℕ} → Passed k xs m i → i < m → get_or xs i 0 ≡ k → Passed k xs m (i + 1)
  passed-next {i} p l e =
      let f : m - i ≡ suc (m - (i + 1)) = omega arith in
      let g : agreeing (replicate (m - i) k) (drop i xs) ≡ suc (agreeing (replicate (m - (i + 1)) k) (drop (i + 1) xs)) = rw (f, drop-cons xs i 0 (omega (arith, p.room)), e, eq-eqb k k refl, add-one) in
      record { room = p.room; bound = omega arith; same = omega (arith, g, p.same) }

  pub passed-stop : {i : ℕ} → Passed k xs m i → i < m → (k ≡ get_or xs i 0 → ⊥) → i ≡ agreeing (replicate m k) xs
  passed-stop {i} p l n =
      let f : m - i ≡ suc (m - (i + 1)) = omega arith in
      let g : agreeing (replicate (m - i) k) (drop i xs) ≡ 0 = rw (f, drop-cons xs i 0 (omega (arith, p.room)), ne_eqb k (get_or xs i 0) n) in
      omega (arith, g, p.same)

  pub passed-end : {i : ℕ} → Passed k xs m i → m ≤ i → i ≡ agreeing (replicate m k) xs
  passed-end {i} p h =
      let f : m - i ≡ 0 = omega arith in
      let g : agreeing (replicate (m - i) k) (drop i xs) ≡ 0 = rw f in
      omega (arith, g, p.same)

-- a run that is longer than the plan agrees no further
pub as-far-as-there-is : (k n : ℕ) (xs : List ℕ) → agreeing (replicate (min n (length xs)) k) xs ≡ agreeing (replicate n k) xs
as-far-as-there-is k zero xs = let e : min 0 (length xs) ≡ 0 = omega arith in rw e
as-far-as-there-is k (suc n) [] = let e : min (suc n) 0 ≡ 0 = omega arith in rw e
as-far-as-there-is k (suc n) (x ∷ xs) =
    let e : min (suc n) (suc (length xs)) ≡ suc (min n (length xs)) = omega arith in
    rw e (ap (λ (r : ℕ). cond (eqb k x) (suc r) 0) (as-far-as-there-is k n xs))

-- ---- four numbers are compared as one
abbrev pub four_of : ℕ → ℕ
four_of k = k * 281479271743489

pub record Four (k a b c d : ℕ) : Type 0 where
  pub first : a ≡ k
  pub second : b ≡ k
  pub third : c ≡ k
  pub fourth : d ≡ k

record Same (k a x y : ℕ) : Type 0 where
  low : a ≡ k
  rest : x ≡ y

low_same : (k a x y : ℕ) → k < 65536 → a < 65536 → a + 65536 * x ≡ k + 65536 * y → Same k a x y
low_same k a x y h l e = record { low = omega arith; rest = omega arith }

four_same : (k a b c d : ℕ) → k < 65536 → a < 65536 → b < 65536 → c < 65536 → d < 65536
    → a + 65536 * b + 4294967296 * c + 281474976710656 * d ≡ four_of k → Four k a b c d
four_same k a b c d hk ha hb hc hd e =
    let p = low_same k a (b + 65536 * (c + 65536 * d)) (k + 65536 * (k + 65536 * k)) hk ha (omega arith) in
    let q = low_same k b (c + 65536 * d) (k + 65536 * k) hk hb p.rest in
    let r = low_same k c d k hk hc q.rest in
    record { first = p.low; second = q.low; third = r.low; fourth = r.rest }

-- the scan goes on by four
passed-four : {k : ℕ} {ys : List ℕ} {m i : ℕ} → Passed k ys m i → i + 4 ≤ m → Four k (get_or ys i 0) (get_or ys (i + 1) 0) (get_or ys (i + 2) 0) (get_or ys (i + 3) 0)
    → Passed k ys m (i + 4)
passed-four {k} {ys} {m} {i} p l f =
    let e₂ : i + 1 + 1 ≡ i + 2 = omega arith in
    let e₃ : i + 2 + 1 ≡ i + 3 = omega arith in
    let e₄ : i + 3 + 1 ≡ i + 4 = omega arith in
    let p₁ = passed-next p (omega arith) f.first in
    let p₂ = rw e₂ at (passed-next p₁ (omega arith) f.second) in
    let p₃ = rw e₃ at (passed-next p₂ (omega arith) f.third) in
    rw e₄ at (passed-next p₃ (omega arith) f.fourth)

pub same_fours : {xs : List ℕ} {i n m four : ℕ} → m ≤ n → Fours xs i n four → Fours xs i m four
same_fours h f = record { each = λ j l. f.each j (omega arith) }

module _ (xs : List ℕ) (small : (j : ℕ) → get_or xs j 0 < 65536) (at : ℕ) {k m : ℕ} (b : k < 65536) where
  passed-block : (i : ℕ) → Passed k (drop at xs) m i → i + 4 ≤ m → four_at xs (at + i) ≡ four_of k → Passed k (drop at xs) m (i + 4)
  passed-block i p l e =
      passed-four p l
      (rw (get_or-drop at xs i 0, get_or-drop at xs (i + 1) 0, get_or-drop at xs (i + 2) 0, get_or-drop at xs (i + 3) 0, ← add_assoc at i 1, ← add_assoc at i 2, ← add_assoc at i 3)
      (four_same k (get_or xs (at + i) 0) (get_or xs (at + i + 1) 0) (get_or xs (at + i + 2) 0) (get_or xs (at + i + 3) 0) b
      (small (at + i)) (small (at + i + 1)) (small (at + i + 2)) (small (at + i + 3)) e))

  -- and by so many fours
  passed-fours : (i n : ℕ) → Passed k (drop at xs) m i → i + 4 * n ≤ m → ((j : ℕ) → j < n → four_at xs (at + i + 4 * j) ≡ four_of k) → Passed k (drop at xs) m (i + 4 * n)
  passed-fours i zero p l f = let e : i + 4 * 0 ≡ i = omega arith in rw e p
  passed-fours i (suc n) p l f =
      let here : at + i + 4 * n ≡ at + (i + 4 * n) = omega arith in
      let next : i + 4 * n + 4 ≡ i + 4 * suc n = omega arith in
      let more = passed-fours i n p (omega arith) (λ j h. f j (omega arith)) in
      rw next at (passed-block (i + 4 * n) more (omega arith) (rw here at (f n (omega arith))))

  pub passed-blocks : {i n four next : ℕ} → Passed k (drop at xs) m i → i + 4 * n ≤ m → Fours xs (at + i) n four → four ≡ four_of k → next ≡ i + 4 * n
      → Passed k (drop at xs) m next
  passed-blocks {i} {n} p l f e next = rw next (passed-fours i n p l (λ j h. f.each j h ∙ e))
