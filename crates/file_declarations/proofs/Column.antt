-- The laws of an array that is filled from its front: nothing more, one run behind another, and what the array holds in the end.
-- Assumes nothing.
use mathlib.Core.Path.{◌≡◌, refl, sym, ap, ◌∙◌, subst}
use Prim.Native.Nat.{ℕ, suc, ◌+◌, ◌≤◌, ◌<◌}
use native.Mathlib.Nat.{add-zero, zero-add}
use native.Mathlib.Omega.{arith}
use mathlib.Core.Bool.{Bool, true, false}
use mathlib.Core.List.{List, [], ◌∷◌, ◌++◌}
use lib.Dec.{leb}
use lib.ListN.{length, length-append, length-take, take, drop, set, take-append-drop, drop_of_length-le}
use lib.Seq.{sets, length-sets, sets-eq, set_out, take_all, take-append_seam, drop-append_seam}
use borrow.Author.Tests.{leb-true, leb-false}
use Rattle.file_declarations.specs.Stored.{Column}

module _ {A : Type 0} where
  -- ---- stores one by one
  sets-append : (xs ys old : List A) (n : ℕ) → sets old n (xs ++ ys) ≡ sets (sets old n xs) (n + length xs) ys
  sets-append [] ys old n = ap (λ (k : ℕ). sets old k ys) (sym (add-zero n))
  sets-append (x ∷ xs) ys old n =
      let e : suc n + length xs ≡ n + suc (length xs) = omega arith in
      sets-append xs ys (set old n x) (suc n) ∙ ap (λ (k : ℕ). sets (sets (set old n x) (suc n) xs) k ys) e

  sets-out : (xs old : List A) (n : ℕ) → length old ≤ n → sets old n xs ≡ old
  sets-out [] old n h = refl
  sets-out (x ∷ xs) old n h = ap (λ (l : List A). sets l (suc n) xs) (set_out old n x h) ∙ sets-out xs old (suc n) (omega arith)

  -- ---- nothing more
  pub column-none : {old : List A} {n : ℕ} → n ≤ length old → Column old n [] n old
  column-none few = record { count = omega (arith, few); is = refl }

  -- ---- one run behind another
  module _ {old : List A} {xs : List A} {n : ℕ} {now : List A} (c : Column old 0 xs n now) where
    pub column-long : length now ≡ length old
    column-long = ap length c.is ∙ length-sets old 0 xs

    pub column-few : n ≤ length now
    column-few = omega (arith, c.count, column-long)

    -- where the elements stand behind the first xs, they stand behind the first n: all of them are there, or there is no room
    behind : (ys : List A) (full : Bool) → leb (length xs) (length old) ≡ full → sets now n ys ≡ sets now (0 + length xs) ys
    behind ys true e =
        let k : n ≡ 0 + length xs = omega (arith, c.count, leb-true (length xs) (length old) e) in
        ap (λ (k : ℕ). sets now k ys) k
    behind ys false e =
        let h : length old < length xs = leb-false (length xs) (length old) e in
        sets-out ys now n (omega (arith, c.count, column-long, h)) ∙ sym (sets-out ys now (0 + length xs) (omega (arith, column-long, h)))

    pub column-more : {ys : List A} {n' : ℕ} {after : List A} → Column now n ys n' after → Column old 0 (xs ++ ys) n' after
    column-more {ys} d = record {
      count = omega (arith, c.count, d.count, column-long, length-append xs ys);
      is = d.is ∙ behind ys (leb (length xs) (length old)) refl ∙ ap (λ (l : List A). sets l (0 + length xs) ys) c.is ∙ sym (sets-append xs ys old 0);
    }

  -- ---- what it holds in the end: the first n are ys, all that there was room for, and the rest is as it was
  pub record Filled (n : ℕ) (ys old after : List A) : Type 0 where
    pub count : n ≡ length ys
    pub front : take n after ≡ ys
    pub rest : drop n after ≡ drop n old
    pub long : length after ≡ length old

  module _ {old : List A} {xs : List A} {n : ℕ} {after : List A} (c : Column old 0 xs n after) where
    abbrev fitting : List A
    fitting = take (length old) xs

    -- what does not fit changes nothing
    cut : sets old 0 xs ≡ sets old 0 fitting
    cut =
        ap (sets old 0) (sym (take-append-drop (length old) xs))
        ∙ sets-append fitting (drop (length old) xs) old 0
        ∙ by (leb (length old) (length xs)) refl
      where
        by : (full : Bool) → leb (length old) (length xs) ≡ full → sets (sets old 0 fitting) (0 + length fitting) (drop (length old) xs) ≡ sets old 0 fitting
        by true e =
            let h : length old ≤ length xs = leb-true (length old) (length xs) e in
            sets-out (drop (length old) xs) (sets old 0 fitting) (0 + length fitting) (omega (arith, length-sets old 0 fitting, length-take (length old) xs, h))
        by false e =
            let h : length xs < length old = leb-false (length old) (length xs) e in
            ap (sets (sets old 0 fitting) (0 + length fitting)) (drop_of_length-le xs {i = length old} (omega (arith, h)))

    pub column-filled : Filled n fitting old after
    column-filled =
        let e : n ≡ length fitting = omega (arith, c.count, length-take (length old) xs) in
        let is : after ≡ fitting ++ drop (0 + length fitting) old = c.is ∙ cut ∙ sets-eq fitting old 0 (omega (arith, length-take (length old) xs)) in
        record {
          count = e;
          front = rw (e, is) (take-append_seam fitting (drop (0 + length fitting) old));
          rest = rw (e, is) (drop-append_seam fitting (drop (0 + length fitting) old) ∙ ap (λ (k : ℕ). drop k old) (zero-add (length fitting)));
          long = column-long c;
        }

    -- all of them, where there is room
    pub column-all : {ys : List A} → xs ≡ ys → length ys ≤ length old → Filled n ys old after
    column-all {ys} e h = subst (λ (l : List A). Filled n l old after) (ap (take (length old)) e ∙ take_all (length old) ys h) column-filled
