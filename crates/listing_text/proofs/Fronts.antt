-- The digits of a number in front of its last k: each is made from what the ones before it leave (`next-in-front`, `last-in-front`), and where
-- the number has none there, what is stored is stored over.
-- Assumes nothing.
use mathlib.Core.Path.{◌≡◌, refl, sym, ap, ◌∙◌}
use mathlib.Core.Bool.{Bool, true, false, cond}
use mathlib.Core.List.{List, [], ◌∷◌, ◌++◌, append_assoc}
use Prim.Native.Nat.{ℕ, zero, suc, ◌+◌, ◌-◌, ◌*◌, ◌/◌, ◌%◌, ◌^◌, ◌≤◌, ◌<◌}
use native.Mathlib.Nat.{pow-suc, pow-succ', div-div-eq-div-mul, div-lt_iff_lt-mul, le-div_iff_mul-le, mod-lt, mod-eq_of_lt}
use native.Mathlib.Omega.{arith}
use lib.Dec.{ltb}
use lib.Arith.{mod-mul, digits_div, digits_mod}
use lib.ListN.{length, get_or, set, length-set, length-append}
use lib.Seq.{set-set}
use borrow.Author.Tests.{lt-ltb, le-ltb, ltb-true, ltb-false}
use Rattle.lists.specs.Writing.{splice, Wrote}
use Rattle.lists.proofs.Each.{get_or-tabulate}
use Rattle.model.specs.Listing.{decimal}
use Rattle.listing_text.specs.Counting.{PLACES, powers_of_ten}
use Rattle.listing_text.proofs.Digits.{either, one, more}

-- the power of a place, from the table
pub power_at : {ps : List ℕ} → ps ≡ powers_of_ten → (k : ℕ) → k < PLACES → get_or ps k 0 ≡ 10 ^ k
power_at e k h = ap (λ (l : List ℕ). get_or l k 0) e ∙ get_or-tabulate PLACES (λ (j : ℕ). 10 ^ j) k 0 h

pub ten : (k : ℕ) → 0 < 10 ^ k
ten zero = omega arith
ten (suc k) = omega (arith, ten k, pow-succ' 10 k)

-- the digits of n in front of its last k; none where it has no more
abbrev pub in_front : ℕ → ℕ → List ℕ
in_front k n = cond (ltb n (10 ^ k)) [] (decimal (n / 10 ^ k))

pub none-in-front : (k n : ℕ) → n < 10 ^ k → in_front k n ≡ []
none-in-front k n h = rw (lt-ltb n (10 ^ k) h) refl

some-in-front : (k n : ℕ) → 10 ^ k ≤ n → in_front k n ≡ decimal (n / 10 ^ k)
some-in-front k n h = rw (le-ltb n (10 ^ k) h) refl

-- ---- what is left of a number below a place, and the digit there
below : (k n : ℕ) → n % 10 ^ suc k ≡ (n / 10 ^ k % 10) * 10 ^ k + n % 10 ^ k
below k n = rw (pow-succ' 10 k) (mod-mul n (omega arith) (ten k))

digit-is : (k n : ℕ) → n % 10 ^ suc k / 10 ^ k ≡ n / 10 ^ k % 10
digit-is k n = rw (below k n) (digits_div (n / 10 ^ k % 10) (mod-lt n (ten k)))

pub rest-is : (k n : ℕ) → n % 10 ^ suc k % 10 ^ k ≡ n % 10 ^ k
rest-is k n = rw (below k n) (digits_mod (n / 10 ^ k % 10) (mod-lt n (ten k)))

high : (k n : ℕ) → n / 10 ^ suc k ≡ n / 10 ^ k / 10
high k n = rw (pow-suc 10 k) (sym (div-div-eq-div-mul n (10 ^ k) 10))

-- ---- the digit at a place stands behind those in front of it
pub next-in-front : (k n : ℕ) → 10 ^ k ≤ n → in_front k n ≡ in_front (suc k) n ++ ((48 + n % 10 ^ suc k / 10 ^ k) ∷ [])
next-in-front k n h = some-in-front k n h ∙ either n (10 ^ suc k) _ refl first later
  where
    first : n < 10 ^ suc k → decimal (n / 10 ^ k) ≡ in_front (suc k) n ++ ((48 + n % 10 ^ suc k / 10 ^ k) ∷ [])
    first l =
        let d : n / 10 ^ k < 10 = (div-lt_iff_lt-mul (ten k)).1 (rw (pow-succ' 10 k) at l) in
        rw (none-in-front (suc k) n l, mod-eq_of_lt l) (one (n / 10 ^ k) d)

    later : 10 ^ suc k ≤ n → decimal (n / 10 ^ k) ≡ in_front (suc k) n ++ ((48 + n % 10 ^ suc k / 10 ^ k) ∷ [])
    later l =
        let d : 10 ≤ n / 10 ^ k = (le-div_iff_mul-le (ten k)).1 (rw (pow-succ' 10 k) at l) in
        rw (some-in-front (suc k) n l, high k n, digit-is k n) (more (n / 10 ^ k) d)

pub last-in-front : (n : ℕ) → decimal n ≡ in_front 1 n ++ ((48 + n % 10) ∷ [])
last-in-front n = either n 10 _ refl
    (λ l. rw (none-in-front 1 n l, mod-eq_of_lt l) (one n l))
    (λ l. rw (some-in-front 1 n l) (more n l))

-- ---- how many digits stand there
fewer : (k n : ℕ) → length (in_front (suc k) n) ≤ length (in_front k n)
fewer k n = either n (10 ^ k) _ refl
    (λ l. omega (arith, ap length (none-in-front (suc k) n (omega (arith, l, pow-succ' 10 k, ten k)))))
    (λ l. omega (arith, ap length (next-in-front k n l), length-append (in_front (suc k) n) ((48 + n % 10 ^ suc k / 10 ^ k) ∷ [])))

all_but_one : (n : ℕ) → length (decimal n) ≡ length (in_front 1 n) + 1
all_but_one n = ap length (last-in-front n) ∙ length-append (in_front 1 n) ((48 + n % 10) ∷ [])

pub some-behind : (k n : ℕ) → length (in_front (suc k) n) + 1 ≤ length (decimal n)
some-behind zero n = omega (arith, all_but_one n)
some-behind (suc k) n = omega (arith, some-behind k n, fewer (suc k) n)

-- one more than a place higher, unless the number does not reach the place
longer : (k n place : ℕ) → place ≡ length (in_front (suc k) n) → length (in_front k n) ≡ cond (ltb n (10 ^ k)) place (place + 1)
longer k n place e = go (ltb n (10 ^ k)) refl
  where
    digit : List ℕ
    digit = (48 + n % 10 ^ suc k / 10 ^ k) ∷ []

    go : (b : Bool) → ltb n (10 ^ k) ≡ b → length (in_front k n) ≡ cond b place (place + 1)
    go true t =
        let l : n < 10 ^ k = ltb-true n (10 ^ k) t in
        omega (arith, e, ap length (none-in-front k n l), ap length (none-in-front (suc k) n (omega (arith, l, pow-succ' 10 k))))
    go false t = omega (arith, e, ap length (next-in-front k n (ltb-false n (10 ^ k) t)), length-append (in_front (suc k) n) digit)

-- ---- digits that are counted: `place` is behind those in front of the last `left` and one more
pub record Passing (at n place left : ℕ) : Type 0 where
  pub some : 0 < left
  pub few : left ≤ PLACES
  pub front : place ≡ at + 1 + length (in_front left n)

pub passing-start : (at n k : ℕ) → 0 < k → k ≤ PLACES → n < 10 ^ k → Passing at n (at + 1) k
passing-start at n k s f h = record { some = s; few = f; front = omega (arith, ap length (none-in-front k n h)) }

offset : (a place : ℕ) (b : Bool) → cond b (a + place) (a + place + 1) ≡ a + cond b place (place + 1)
offset a place true = refl
offset a place false = omega arith

module _ {at n place left : ℕ} (g : Passing at n place left) where
  pub passing-short : place ≤ at + length (decimal n)
  passing-short =
      let e : left ≡ suc (left - 1) = omega (arith, g.some) in
      omega (arith, g.front, some-behind (left - 1) n, ap (λ (k : ℕ). length (in_front k n)) e)

  pub passing-next : (k power next : ℕ) → left ≡ suc k → 0 < k → power ≡ 10 ^ k → next ≡ cond (ltb n power) place (place + 1) → Passing at n next k
  passing-next k power next e s p h = record {
    some = s;
    few = omega (arith, g.few);
    front =
        let a : length (in_front left n) ≡ length (in_front (suc k) n) = ap (λ (j : ℕ). length (in_front j n)) e in
        h
        ∙ ap (λ (x : ℕ). cond (ltb n power) x (x + 1)) g.front
        ∙ offset (at + 1) (length (in_front left n)) (ltb n power)
        ∙ ap (λ (x : ℕ). at + 1 + cond (ltb n x) (length (in_front left n)) (length (in_front left n) + 1)) p
        ∙ ap (λ (x : ℕ). at + 1 + x) (sym (longer k n (length (in_front left n)) a));
  }

  pub passing-end : left ≤ 1 → place ≡ at + length (decimal n)
  passing-end h =
      let e : left ≡ 1 = omega (arith, g.some) in
      omega (arith, g.front, ap (λ (k : ℕ). length (in_front k n)) e, all_but_one n)

-- ---- digits that are stored: those in front of the last `left` stand, and whatever is stored behind them is stored over
pub record Storing (old : List ℕ) (at n : ℕ) (out : List ℕ) (place rest left : ℕ) : Type 0 where
  pub some : 0 < left
  pub few : left ≤ PLACES
  pub remains : rest ≡ n % 10 ^ left
  pub front : place ≡ at + length (in_front left n)
  pub bytes : (y : ℕ) (ys : List ℕ) → splice out place (y ∷ ys) ≡ splice old at (in_front left n ++ (y ∷ ys))
  pub long : length out ≡ length old

pub storing-start : (old : List ℕ) (at n k : ℕ) → 0 < k → k ≤ PLACES → n < 10 ^ k → Storing old at n old at n k
storing-start old at n k s f h = record {
  some = s;
  few = f;
  remains = sym (mod-eq_of_lt h);
  front = omega (arith, ap length (none-in-front k n h));
  bytes = λ y ys. ap (λ (l : List ℕ). splice old at (l ++ (y ∷ ys))) (sym (none-in-front k n h));
  long = refl;
}

module _ {old : List ℕ} {at n : ℕ} {out : List ℕ} {place rest left : ℕ} (g : Storing old at n out place rest left) where
  -- a digit has room where all have
  pub storing-room : at + length (decimal n) ≤ length old → place < length out
  storing-room h =
      let e : left ≡ suc (left - 1) = omega (arith, g.some) in
      omega (arith, h, g.front, g.long, some-behind (left - 1) n, ap (λ (k : ℕ). length (in_front k n)) e)

  -- the power of the next place is counted off at most nine times
  pub storing-below : (k power : ℕ) → left ≡ suc k → power ≡ 10 ^ k → rest < 10 * power
  storing-below k power e p =
      omega (arith, g.remains, mod-lt n (ten left), ap (λ (j : ℕ). 10 ^ j) e, pow-succ' 10 k, p)

  module _ (k : ℕ) (e : left ≡ suc k) (s : 0 < k) where
    remains : rest ≡ n % 10 ^ suc k
    remains = g.remains ∙ ap (λ (j : ℕ). n % 10 ^ j) e

    bytes : (y : ℕ) (ys : List ℕ) → splice out place (y ∷ ys) ≡ splice old at (in_front (suc k) n ++ (y ∷ ys))
    bytes y ys = g.bytes y ys ∙ ap (λ (j : ℕ). splice old at (in_front j n ++ (y ∷ ys))) e

    abbrev digit : ℕ
    digit = 48 + rest / 10 ^ k

    -- a zero in front of the number is stored over, any other digit stands
    over : n < 10 ^ k → (y : ℕ) (ys : List ℕ) → splice (set out place digit) place (y ∷ ys) ≡ splice old at (in_front k n ++ (y ∷ ys))
    over l y ys =
        ap (λ (o : List ℕ). splice o (place + 1) ys) (set-set out place digit y)
        ∙ bytes y ys
        ∙ ap (λ (f : List ℕ). splice old at (f ++ (y ∷ ys)))
        (none-in-front (suc k) n (omega (arith, l, pow-succ' 10 k)) ∙ sym (none-in-front k n l))

    stands : 10 ^ k ≤ n → (y : ℕ) (ys : List ℕ) → splice (set out place digit) (place + 1) (y ∷ ys) ≡ splice old at (in_front k n ++ (y ∷ ys))
    stands l y ys =
        bytes digit (y ∷ ys)
        ∙ ap (λ (f : List ℕ). splice old at f) (sym (append_assoc (in_front (suc k) n) (digit ∷ []) (y ∷ ys)))
        ∙ ap (λ (x : ℕ). splice old at ((in_front (suc k) n ++ ((48 + x / 10 ^ k) ∷ [])) ++ (y ∷ ys))) remains
        ∙ ap (λ (f : List ℕ). splice old at (f ++ (y ∷ ys))) (sym (next-in-front k n l))

    either_way : (y : ℕ) (ys : List ℕ)
        → splice (set out place digit) (cond (ltb n (10 ^ k)) place (place + 1)) (y ∷ ys) ≡ splice old at (in_front k n ++ (y ∷ ys))
    either_way y ys = go (ltb n (10 ^ k)) refl
      where
        go : (b : Bool) → ltb n (10 ^ k) ≡ b → splice (set out place digit) (cond b place (place + 1)) (y ∷ ys) ≡ splice old at (in_front k n ++ (y ∷ ys))
        go true t = over (ltb-true n (10 ^ k) t) y ys
        go false t = stands (ltb-false n (10 ^ k) t) y ys

    further : cond (ltb n (10 ^ k)) place (place + 1) ≡ at + length (in_front k n)
    further =
        let a : length (in_front left n) ≡ length (in_front (suc k) n) = ap (λ (j : ℕ). length (in_front j n)) e in
        ap (λ (x : ℕ). cond (ltb n (10 ^ k)) x (x + 1)) g.front
        ∙ offset at (length (in_front left n)) (ltb n (10 ^ k))
        ∙ ap (λ (x : ℕ). at + x) (sym (longer k n (length (in_front left n)) a))

    stored : Storing old at n (set out place digit) (cond (ltb n (10 ^ k)) place (place + 1)) (rest % 10 ^ k) k
    stored = record {
      some = s;
      few = omega (arith, g.few);
      remains = ap (λ (x : ℕ). x % 10 ^ k) remains ∙ rest-is k n;
      front = further;
      bytes = either_way;
      long = length-set out place digit ∙ g.long;
    }

    pub storing-next : (power next : ℕ) → power ≡ 10 ^ k → next ≡ cond (ltb n power) place (place + 1)
        → Storing old at n (set out place (48 + rest / power)) next (rest % power) k
    storing-next power next p h = rw (h, p) stored

  module _ (h : left ≤ 1) where
    last-left : left ≡ 1
    last-left = omega (arith, g.some)

    last : rest ≡ n % 10
    last = g.remains ∙ ap (λ (k : ℕ). n % 10 ^ k) last-left

    pub digit-small : rest < 10
    digit-small = omega (arith, last)

    pub storing-end : Wrote old at (decimal n) (set out place (48 + rest)) (place + 1)
    storing-end = record {
      place = omega (arith, g.front, ap (λ (k : ℕ). length (in_front k n)) last-left, all_but_one n);
      bytes =
          g.bytes (48 + rest) []
          ∙ ap (λ (k : ℕ). splice old at (in_front k n ++ ((48 + rest) ∷ []))) last-left
          ∙ ap (λ (x : ℕ). splice old at (in_front 1 n ++ ((48 + x) ∷ []))) last
          ∙ ap (splice old at) (sym (last-in-front n));
    }
