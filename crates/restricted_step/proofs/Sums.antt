-- A value and so many times an amount stays within 64 bits. And a loop over the additions of an action that tests each sum as it is made: since
-- no variable is added to twice, a sum that passes the figure is still there behind all additions.
-- Assumes nothing.
use mathlib.Core.Path.{◌≡◌, refl, sym, ap, ap₂, ◌∙◌}
use Prim.Native.Nat.{ℕ, zero, suc, ◌+◌, ◌*◌, ◌≤◌, ◌<◌}
use native.Mathlib.Nat.{mul-le-mul}
use native.Mathlib.Numerals.{add-one}
use native.Mathlib.Omega.{arith}
use mathlib.Core.Bool.{Bool, true, false, ◌&&◌, false≢true}
use mathlib.Core.Option.{none, some}
use mathlib.Core.List.{List, [], ◌∷◌, map}
use lib.ListN.{drop, set}
use lib.Seq.{drop-cons, get_or-set_other}
use lib.IntN.{ℤ, pos, nat_abs, ◌+ℤ◌, ◌*ℤ◌}
use mir.Facts.{to_z-of_z, to_z_pos}
use mir.Syntax.{w64}
use mir.Val.{SFits, to_z, of_z}
use borrow.Author.Tests.{le-leb, leb-true}
use Rattle.integers.specs.All.{All}
use Rattle.integers.specs.Parts.{Within}
use Rattle.integers.specs.Relation.{within_limit}
use Rattle.integers.proofs.Parts.{ints, add}
use Rattle.integers.proofs.Products.{mul-abs}
use Rattle.lists.specs.Each.{tabulate}
use Rattle.lists.proofs.Each.{length-tabulate, get_or-tabulate}
use Rattle.lists.proofs.Loops.{and_left, and_right}
use Rattle.model.specs.Systems.{provided}
use Rattle.model.specs.Steps.{add_all, values_within, integer_at, natural_at, figure}
use Rattle.restricted_step.proofs.Tests.{within-at}
use Rattle.file_parts.specs.Layout.{addition_count, addition_variable, addition_amount}
use Rattle.file_parts.specs.Row.{addition_in, row_is}
use Rattle.restricted_step.specs.Usable.{Usable}
use Rattle.restricted_step.specs.Steps.{scaled, sums_of, summed, CanTake}

-- ---- so many times an amount
product_small : (times : ℕ) (amount : ℤ) → times ≤ 1000000 → Within 1000000000 amount → Within 1000000000000000 (pos times *ℤ amount)
product_small times amount few a = record {
  within = let h : times * nat_abs amount ≤ 1000000 * 1000000000 = mul-le-mul few a.within in rw (mul-abs (pos times) amount) h;
}

-- ---- one sum in a list of values
module _ (limit : ℕ) where
  -- values within a limit remain so, where the one that is written is
  set-within : (l : List ℤ) (k : ℕ) (x : ℤ) → values_within limit l ≡ true → within_limit limit x ≡ true → values_within limit (set l k x) ≡ true
  set-within [] k x h e = h
  set-within (z ∷ l) zero x h e = ap₂ ◌&&◌ e (and_right (within_limit limit z) (values_within limit l) h)
  set-within (z ∷ l) (suc k) x h e =
      ap₂ ◌&&◌ (and_left (within_limit limit z) (values_within limit l) h) (set-within l k x (and_right (within_limit limit z) (values_within limit l) h) e)

  -- a sum that passes the limit, by an amount that doesn't, is one of a variable that is there
  passing-there : (l : List ℤ) (k : ℕ) (x : ℤ) → Within limit x → within_limit limit (integer_at l k +ℤ x) ≡ false
      → integer_at (set l k (integer_at l k +ℤ x)) k ≡ integer_at l k +ℤ x
  passing-there [] k x h e =
      let w : Within limit (pos 0 +ℤ x) = omega (ints, h, add (pos 0) x) in
      absurd (false≢true (sym e ∙ le-leb (nat_abs (pos 0 +ℤ x)) limit w.within))
  passing-there (z ∷ l) zero x h e = refl
  passing-there (z ∷ l) (suc k) x h e = passing-there l k x h e

  passes : (l : List ℤ) (k : ℕ) → within_limit limit (integer_at l k) ≡ false → values_within limit l ≡ false
  passes l k e = go (values_within limit l) refl
    where
      go : (b : Bool) → values_within limit l ≡ b → values_within limit l ≡ false
      go true h = absurd (false≢true (sym e ∙ within-at limit l h k))
      go false h = h

-- additions to other variables leave a variable alone
others_keep : (es : List (ℕ × ℤ)) (l : List ℤ) (k : ℕ) → All (λ (e : ℕ × ℤ). k ≡ e.0 → ⊥) es → integer_at (add_all es l) k ≡ integer_at l k
others_keep [] l k h = refl
others_keep (e ∷ es) l k (h, hs) = others_keep es (set l e.0 (integer_at l e.0 +ℤ e.1)) k hs ∙ get_or-set_other l e.0 k (integer_at l e.0 +ℤ e.1) (pos 0) h

-- ---- what is left of a list made element by element
left-more : {A : Type 0} (n i : ℕ) (f : ℕ → A) → i < n → drop i (tabulate n f) ≡ f i ∷ drop (i + 1) (tabulate n f)
left-more n i f l = rw (add-one, drop-cons (tabulate n f) i (f i) (omega (arith, length-tabulate n f)), get_or-tabulate n f i (f i) l) refl

left-none : {A : Type 0} (n i : ℕ) (f : ℕ → A) → n ≤ i → drop i (tabulate n f) ≡ []
unfolding tabulate
left-none zero zero f h = refl
left-none zero (suc i) f h = refl
left-none (suc n) zero f h = absurd (omega arith)
left-none (suc n) (suc i) f h = left-none n i (λ k. f (suc k)) (omega arith)

all_left : {A B : Type 0} (P : B → Type 0) (g : A → B) (n i : ℕ) (f : ℕ → A) → ((j : ℕ) → i ≤ j → j < n → P (g (f j))) → All P (map g (drop i (tabulate n f)))
unfolding tabulate
all_left P g zero zero f h = tt
all_left P g zero (suc i) f h = tt
all_left P g (suc n) zero f h = (h 0 (omega arith) (omega arith), all_left P g n zero (λ k. f (suc k)) (λ j l m. h (suc j) (omega arith) (omega arith)))
all_left P g (suc n) (suc i) f h = all_left P g n i (λ k. f (suc k)) (λ j l m. h (suc j) (omega arith) (omega arith))

-- ---- the additions of rows, one after another: those not yet made, from the values so far, give what all of them give from the values before
module _ (marks : List ℕ) (numbers : List ℤ) (times : ℕ) where
  abbrev left : ℕ → List (ℕ × ℤ)
  left i = map (scaled times) (drop i (tabulate (natural_at marks addition_count) (addition_in marks numbers)))

  -- the sum that addition i makes, and the values with it
  abbrev pub sum_at : List ℤ → ℕ → ℤ
  sum_at values i = integer_at values (natural_at marks (addition_variable + i)) +ℤ pos times *ℤ integer_at numbers (addition_amount + i)

  -- the product and the sum as the code makes them, of 64 bits each
  abbrev pub product_made : ℕ → ℤ
  product_made i = to_z w64 times *ℤ to_z w64 (of_z w64 (integer_at numbers (addition_amount + i)))

  abbrev pub sum_made : List ℤ → ℕ → ℤ
  sum_made values i = to_z w64 (of_z w64 (integer_at values (natural_at marks (addition_variable + i)))) +ℤ to_z w64 (of_z w64 (product_made i))

  abbrev pub with_sum : List ℤ → ℕ → List ℤ
  with_sum values i = set values (natural_at marks (addition_variable + i)) (sum_at values i)

  pub record Summing (start : List ℤ) (i : ℕ) (values : List ℤ) : Type 0 where
    pub same : add_all (left i) values ≡ sums_of times (row_is marks numbers) start
    pub within : values_within figure values ≡ true

module _ {marks : List ℕ} {numbers : List ℤ} {times : ℕ} where
  pub sum-start : {start : List ℤ} → CanTake start marks numbers → Summing marks numbers times start 0 start
  sum-start h = record { same = refl; within = h.within }

  module _ {start : List ℤ} {i : ℕ} {values : List ℤ} (s : Summing marks numbers times start i values) where
    same_next : i < natural_at marks addition_count
        → add_all (left marks numbers times (i + 1)) (with_sum marks numbers times values i) ≡ sums_of times (row_is marks numbers) start
    same_next l = sym (ap (λ (es : List (ℕ × ℤ)). add_all (map (scaled times) es) values)
        (left-more (natural_at marks addition_count) i (addition_in marks numbers) l)) ∙ s.same

    same_end : natural_at marks addition_count ≤ i → values ≡ sums_of times (row_is marks numbers) start
    same_end h = sym (ap (λ (es : List (ℕ × ℤ)). add_all (map (scaled times) es) values)
        (left-none (natural_at marks addition_count) i (addition_in marks numbers) h)) ∙ s.same

    pub sum-next : i < natural_at marks addition_count → within_limit figure (sum_at marks numbers times values i) ≡ true
        → Summing marks numbers times start (i + 1) (with_sum marks numbers times values i)
    sum-next l e = record
        { same = same_next l; within = set-within figure values (natural_at marks (addition_variable + i)) (sum_at marks numbers times values i) s.within e }

    pub sum-end : natural_at marks addition_count ≤ i → some values ≡ summed times (row_is marks numbers) start
    unfolding summed
    sum-end h = ap (λ (l : List ℤ). some l) (same_end h)
        ∙ sym (ap (λ (b : Bool). provided b (sums_of times (row_is marks numbers) start)) (sym (ap (values_within figure) (same_end h)) ∙ s.within))

    module _ (u : Usable marks numbers) (few : times ≤ 1000000) (l : i < natural_at marks addition_count) where
      value-small : Within figure (integer_at values (natural_at marks (addition_variable + i)))
      value-small = record { within = leb-true _ _ (within-at figure values s.within (natural_at marks (addition_variable + i))) }

      amount-small : Within 1000000000 (integer_at numbers (addition_amount + i))
      amount-small = record { within = u.amounts i l }

      small : Within 1000000000000000 (pos times *ℤ integer_at numbers (addition_amount + i))
      small = product_small times (integer_at numbers (addition_amount + i)) few amount-small

      -- ---- what the code makes fits 64 bits
      times-are : to_z w64 times ≡ pos times
      times-are = to_z_pos w64 (omega arith)

      amount-is : to_z w64 (of_z w64 (integer_at numbers (addition_amount + i))) ≡ integer_at numbers (addition_amount + i)
      amount-is = to_z-of_z {w = w64} (omega (ints, amount-small))

      value-is : to_z w64 (of_z w64 (integer_at values (natural_at marks (addition_variable + i))))
          ≡ integer_at values (natural_at marks (addition_variable + i))
      value-is = to_z-of_z {w = w64} (omega (ints, value-small))

      pub product_fits : SFits w64 (product_made marks numbers times i)
      product_fits = rw (times-are, amount-is) (omega (ints, small))

      sum_of : sum_made marks numbers times values i ≡ sum_at marks numbers times values i
      sum_of = rw (to_z-of_z product_fits, times-are, amount-is, value-is) refl

      sum_at-fits : SFits w64 (sum_at marks numbers times values i)
      sum_at-fits = omega (
        ints,
        small,
        value-small,
        add (integer_at values (natural_at marks (addition_variable + i))) (pos times *ℤ integer_at numbers (addition_amount + i)),
      )

      pub sum_fits : SFits w64 (sum_made marks numbers times values i)
      sum_fits = rw sum_of sum_at-fits

      pub sum-is : to_z w64 (of_z w64 (sum_made marks numbers times values i)) ≡ sum_at marks numbers times values i
      sum-is = to_z-of_z sum_fits ∙ sum_of

      -- a sum that passes the figure is there at once, and behind the additions that are left
      passing-last : within_limit figure (sum_at marks numbers times values i) ≡ false
          → integer_at (add_all (left marks numbers times (i + 1)) (with_sum marks numbers times values i))
          (natural_at marks (addition_variable + i)) ≡ sum_at marks numbers times values i
      passing-last e =
          others_keep (left marks numbers times (i + 1)) (with_sum marks numbers times values i) (natural_at marks (addition_variable + i))
          (all_left (λ (e : ℕ × ℤ). natural_at marks (addition_variable + i) ≡ e.0 → ⊥) (scaled times) (natural_at marks addition_count) (i + 1)
          (addition_in marks numbers) (λ j a b. u.once j i b (omega arith)))
          ∙ passing-there figure values (natural_at marks (addition_variable + i)) (pos times *ℤ integer_at numbers (addition_amount + i))
          (omega (ints, small)) e

      pub sum-stop : within_limit figure (sum_at marks numbers times values i) ≡ false → none ≡ summed times (row_is marks numbers) start
      unfolding summed
      sum-stop e =
          sym
          (ap (λ (b : Bool). provided b (sums_of times (row_is marks numbers) start))
          (sym (ap (values_within figure) (same_next l))
          ∙ passes figure (add_all (left marks numbers times (i + 1)) (with_sum marks numbers times values i))
          (natural_at marks (addition_variable + i)) (ap (within_limit figure) (passing-last e) ∙ e)))
