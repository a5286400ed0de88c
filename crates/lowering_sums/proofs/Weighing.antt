-- A sum of the row weighs a + on one variable by that variable's entry; and weighing is linear in what is weighed.
-- Assumes nothing.
use mathlib.Core.Path.{◌≡◌, refl, sym, ap, ap₂, ◌∙◌}
use mathlib.Core.List.{List, [], ◌∷◌}
use Prim.Native.Nat.{ℕ, ◌+◌, ◌*◌, ◌≤◌, ◌<◌}
use native.Mathlib.Nat.{mul-le-mul}
use native.Mathlib.Omega.{arith}
use lib.IntN.{ℤ, pos, nat_abs, ◌+ℤ◌, ◌*ℤ◌}
use borrow.Author.Tests.{eq-eqb, ne_eqb}
use mir.Syntax.{w64}
use mir.Val.{SFits}
use Rattle.integers.proofs.Parts.{ints, add, abs, mul-sum, add_assoc}
use Rattle.integers.proofs.Products.{mul-abs}
use Rattle.lists.specs.Each.{tabulate}
use Rattle.model.specs.Steps.{integer_at, natural_at, weigh}
use Rattle.model.specs.Sums.{amount, added_to}
use Rattle.model.proofs.StepBounds.{abs-sum}
use Rattle.source_step.specs.Sizes.{VARIABLES}
use Rattle.source_step.specs.Row.{weights_in, most_weight}
use Rattle.source_step.proofs.Rows.{Left, row-tabulate, left-next, left-none}
use Rattle.source_step.proofs.Weighing.{nothing-before, nothing-behind, nothing-times, summed-none, summed-one, entry, weights-summed}
use Rattle.lowering_sums.specs.Views.{ADDED, added_at, most_added, most_part}

-- ---- within 64 bits
pub abs-fits : (z : ℤ) → nat_abs z ≤ 2_000_000_000_000 → SFits w64 z
abs-fits z h = omega (ints, abs z)

pub product_small : (value weight : ℤ) → nat_abs value ≤ most_added → nat_abs weight ≤ most_weight → nat_abs (value *ℤ weight) ≤ most_part
product_small value weight h k = let m : nat_abs value * nat_abs weight ≤ most_added * most_weight = mul-le-mul h k in rw (mul-abs value weight) m

pub sum_fits : (total part : ℤ) → nat_abs total ≤ ADDED * most_part → nat_abs part ≤ most_part → SFits w64 (total +ℤ part)
sum_fits total part h k = abs-fits (total +ℤ part) (omega (arith, abs-sum total part))

-- ---- a + of d on variable x
module _ (weights : List ℤ) (j : ℕ) (d : ℤ) (x : ℕ) where
  pub amount-weighed : x < VARIABLES → d *ℤ entry weights j x ≡ weigh (weights_in weights j) (amount d x)
  amount-weighed l =
      sym (weights-summed weights j (amount d x)
      ∙ summed-one VARIABLES x _ l (λ v n. ap (λ (z : ℤ). z *ℤ entry weights j v) (other v n) ∙ nothing-times (entry weights j v))
      ∙ ap (λ (z : ℤ). z *ℤ entry weights j x) same)
    where
      other : (v : ℕ) → (v ≡ x → ⊥) → amount d x v ≡ pos 0
      other v n = rw (ne_eqb x v (λ e. n (sym e)))

      same : amount d x x ≡ d
      same = rw (eq-eqb x x refl)

  pub amount-missed : VARIABLES ≤ x → pos 0 ≡ weigh (weights_in weights j) (amount d x)
  amount-missed l =
      sym (weights-summed weights j (amount d x)
      ∙ summed-none VARIABLES _ (λ v k. ap (λ (z : ℤ). z *ℤ entry weights j v) (other v k) ∙ nothing-times (entry weights j v)))
    where
      other : (v : ℕ) → v < VARIABLES → amount d x v ≡ pos 0
      other v k = rw (ne_eqb x v (λ e. omega arith))

-- ---- weighing is linear
weigh-sum : (ts : List (ℕ × ℤ)) (f g : ℕ → ℤ) → weigh ts (λ v. f v +ℤ g v) ≡ weigh ts f +ℤ weigh ts g
weigh-sum [] f g = refl
weigh-sum (t ∷ ts) f g =
    let a = f t.0 *ℤ t.1 in
    let b = g t.0 *ℤ t.1 in
    ap₂ ◌+ℤ◌ (mul-sum (f t.0) (g t.0) t.1) (weigh-sum ts f g)
    ∙ omega (
      ints,
      add (a +ℤ b) (weigh ts f +ℤ weigh ts g),
      add a b,
      add (weigh ts f) (weigh ts g),
      add (a +ℤ weigh ts f) (b +ℤ weigh ts g),
      add a (weigh ts f),
      add b (weigh ts g),
    )

weigh-none : (ts : List (ℕ × ℤ)) → weigh ts (λ v. pos 0) ≡ pos 0
weigh-none [] = refl
weigh-none (t ∷ ts) = ap₂ ◌+ℤ◌ (nothing-times t.1) (weigh-none ts)

-- ---- the first e of some + are weighed, and make `total`
module _ (weights : List ℤ) (j count : ℕ) (variables : List ℕ) (amounts : List ℤ) where
  abbrev added : List (ℕ × ℤ)
  added = tabulate count (added_at variables amounts)

  pub record Adding (e : ℕ) (total : ℤ) : Type 0 where
    pub left : Left added count (added_at variables amounts) e (λ es. total +ℤ weigh (weights_in weights j) (added_to es))
        (weigh (weights_in weights j) (added_to added))
    pub bound : nat_abs total ≤ e * most_part

  pub adding-start : Adding 0 (pos 0)
  adding-start = record {
    left = record {
      row = row-tabulate count (added_at variables amounts);
      bound = omega arith;
      same = nothing-before (weigh (weights_in weights j) (added_to added));
    };
    bound = omega arith;
  }

module _ {weights : List ℤ} {j count : ℕ} {variables : List ℕ} {amounts : List ℤ} {e : ℕ} {total : ℤ}
    (h : Adding weights j count variables amounts e total) where
  pub adding-next : e < count → (part : ℤ) → part ≡ weigh (weights_in weights j) (amount (integer_at amounts e) (natural_at variables e))
      → nat_abs part ≤ most_part → Adding weights j count variables amounts (e + 1) (total +ℤ part)
  adding-next l part is small =
      let ts = weights_in weights j in
      record {
        left = left-next h.left (λ es. (total +ℤ part) +ℤ weigh ts (added_to es)) l (λ rest.
            add_assoc total part (weigh ts (added_to rest)) ∙ ap (λ (z : ℤ). total +ℤ (z +ℤ weigh ts (added_to rest))) is
            ∙ ap (λ (z : ℤ). total +ℤ z) (sym (weigh-sum ts (amount (integer_at amounts e) (natural_at variables e)) (added_to rest))));
        bound = omega (arith, abs-sum total part, h.bound);
      }

  pub adding-small : count ≤ ADDED → nat_abs total ≤ ADDED * most_part
  adding-small l = omega (arith, h.bound, h.left.bound)

  pub adding-end : count ≤ e → total ≡ weigh (weights_in weights j) (added_to (tabulate count (added_at variables amounts)))
  adding-end l =
      sym (nothing-behind total) ∙ ap (λ (z : ℤ). total +ℤ z) (sym (weigh-none (weights_in weights j))) ∙ left-none h.left l
