-- Loops over the first k elements of a list, of which there are n.
--     Scanned    a loop that tests each element, and leaves at the first that fails
--     Folded     a loop that changes a value by each element
-- Each invariant says that what is left at index i gives what the whole gives, so nothing is said of what was passed.
-- Assumes nothing.
use mathlib.Core.Path.{◌≡◌, refl, sym, ap, ◌∙◌}
use Prim.Native.Nat.{ℕ, zero, suc, min, ◌+◌, ◌≤◌, ◌<◌}
use native.Mathlib.Nat.{not-suc-le-zero, le_of_suc-le-suc}
use native.Mathlib.Numerals.{add-one}
use native.Mathlib.Omega.{arith}
use mathlib.Core.Bool.{Bool, true, false, ◌&&◌, false≢true}
use mathlib.Core.List.{List, [], ◌∷◌, map, foldl}
use lib.ListN.{length, length-map, length-take, get_or, take, drop}
use lib.Seq.{drop-cons, drop-length, get_or-take, length-take-le}
use Rattle.lists.specs.Loops.{every}

-- ---- a test that every element passes

pub and_left : (a b : Bool) → (a && b) ≡ true → a ≡ true
and_left true b e = refl
and_left false b e = e

pub and_right : (a b : Bool) → (a && b) ≡ true → b ≡ true
and_right true b e = e
and_right false b e = absurd (false≢true e)

-- it holds at each index
pub every-at : {A : Type 0} (test : A → Bool) (xs : List A) (i : ℕ) (d : A) → every test xs ≡ true → i < length xs → test (get_or xs i d) ≡ true
every-at test [] i d e l = absurd (not-suc-le-zero l)
every-at test (x ∷ xs) zero d e l = and_left (test x) (every test xs) e
every-at test (x ∷ xs) (suc i) d e l = every-at test xs i d (and_right (test x) (every test xs) e) (le_of_suc-le-suc l)

-- ---- the first k elements, of which there are n

pub record There {A : Type 0} (k : ℕ) (xs : List A) (n : ℕ) : Type 0 where
  pub ends : n ≡ length (take k xs)
  pub asked : n ≤ k
  pub room : n ≤ length xs

-- an array of m elements has the lesser of k and m
pub there : {A : Type 0} (k n m : ℕ) (xs : List A) → n ≡ min k m → length xs ≡ m → There k xs n
there k n m xs e l =
    let f : length (take k xs) ≡ min k m = length-take k xs ∙ ap (min k) l in
    record { ends = e ∙ sym f; asked = omega arith; room = omega arith }

-- where k are there
pub there-all : {A : Type 0} (k : ℕ) (xs : List A) → k ≤ length xs → There k xs k
there-all k xs h = record { ends = sym (length-take-le k xs h); asked = omega arith; room = h }

-- the length of a field that is an array of structs
pub length-mapped : (X Y : Type 0) (f : X → Y) (xs : List X) (n : ℕ) → length (map f xs) ≡ n → length xs ≡ n
length-mapped X Y f xs n e = sym (length-map xs f) ∙ e

-- what is left at index i: the element there and the rest; at the end, nothing
module _ {A : Type 0} {k : ℕ} {xs : List A} {n : ℕ} {i : ℕ} where
  pub rest_more : (d : A) → There k xs n → i < n → drop i (take k xs) ≡ get_or xs i d ∷ drop (i + 1) (take k xs)
  rest_more d h l = rw (add-one, drop-cons (take k xs) i d (omega arith), get_or-take k xs i d (omega arith))

  pub rest-none : There k xs n → i ≤ n → n ≤ i → drop i (take k xs) ≡ []
  rest-none h l m =
      let e : i ≡ length (take k xs) = omega arith in
      rw (e, drop-length)

-- ---- loops that test

pub record Scanned {A : Type 0} (test : A → Bool) (k : ℕ) (xs : List A) (n i : ℕ) : Type 0 where
  pub here : There k xs n
  pub bound : i ≤ n
  pub same : every test (drop i (take k xs)) ≡ every test (take k xs)

module _ {A : Type 0} {test : A → Bool} {k : ℕ} {xs : List A} {n : ℕ} where
  pub scan-start : There k xs n → Scanned test k xs n 0
  scan-start h = record { here = h; bound = omega arith; same = refl }

  pub scan-next : {i : ℕ} (d : A) → Scanned test k xs n i → i < n → test (get_or xs i d) ≡ true → Scanned test k xs n (i + 1)
  scan-next {i} d s l e = record { here = s.here; bound = omega arith; same = sym (rw (rest_more {i = i} d s.here l, e)) ∙ s.same }

  pub scan-stop : {i : ℕ} (d : A) → Scanned test k xs n i → i < n → test (get_or xs i d) ≡ false → false ≡ every test (take k xs)
  scan-stop {i} d s l e =
      let f : every test (drop i (take k xs)) ≡ false = rw (rest_more {i = i} d s.here l, e) in
      sym f ∙ s.same

  pub scan-end : {i : ℕ} → Scanned test k xs n i → n ≤ i → true ≡ every test (take k xs)
  scan-end {i} s h =
      let f : every test (drop i (take k xs)) ≡ true = ap (every test) (rest-none s.here s.bound h) in
      sym f ∙ s.same

-- ---- loops that change a value

pub record Folded {A B : Type 0} (change : B → A → B) (k : ℕ) (xs : List A) (n i : ℕ) (start now : B) : Type 0 where
  pub here : There k xs n
  pub bound : i ≤ n
  pub same : foldl change now (drop i (take k xs)) ≡ foldl change start (take k xs)

module _ {A B : Type 0} {change : B → A → B} {k : ℕ} {xs : List A} {n : ℕ} {start : B} where
  pub fold_start : There k xs n → Folded change k xs n 0 start start
  fold_start h = record { here = h; bound = omega arith; same = refl }

  pub fold_next : {i : ℕ} {now : B} (d : A) → Folded change k xs n i start now → i < n → Folded change k xs n (i + 1) start (change now (get_or xs i d))
  fold_next {i} {now} d s l = record { here = s.here; bound = omega arith; same = sym (rw (rest_more {i = i} d s.here l)) ∙ s.same }

  pub fold_end : {i : ℕ} {now : B} → Folded change k xs n i start now → n ≤ i → now ≡ foldl change start (take k xs)
  fold_end {i} {now} s h =
      let f : foldl change now (drop i (take k xs)) ≡ now = ap (foldl change now) (rest-none s.here s.bound h) in
      sym f ∙ s.same
