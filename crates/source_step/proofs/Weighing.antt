-- A sum of a task weighed entry by entry: it is what its products make together, so that an entry that grows adds its own product, and where all
-- but one are 0 that one is the whole.
-- Assumes nothing.
use mathlib.Core.Path.{◌≡◌, refl, sym, ap, ap₂, ◌∙◌}
use mathlib.Core.List.{List}
use Prim.Native.Nat.{ℕ, zero, suc, ◌+◌, ◌*◌, ◌≤◌, ◌<◌}
use native.Mathlib.Nat.{mul-le-mul}
use native.Mathlib.Numerals.{add-one}
use native.Mathlib.Omega.{arith}
use lib.ListN.{take, length-take, get_or-eq_default}
use lib.Seq.{get_or-take}
use lib.IntN.{ℤ, pos, nat_abs, ◌+ℤ◌, ◌*ℤ◌}
use mir.Syntax.{w64}
use mir.Val.{SFits}
use Rattle.integers.proofs.Parts.{ints, add, abs, mul, add_assoc}
use Rattle.integers.proofs.Products.{mul-abs, mul-add}
use Rattle.lists.specs.Each.{tabulate}
use Rattle.model.specs.Steps.{integer_at, weigh}
use Rattle.model.proofs.StepBounds.{abs-sum}
use Rattle.source_step.specs.Sizes.{VARIABLES, SUMS}
use Rattle.source_step.specs.Row.{weights_in, sum_at, ValuesNear, WeightsSmall, most_weight}

-- ---- nothing in front, nothing behind, and nothing of something
pub nothing-before : (z : ℤ) → pos 0 +ℤ z ≡ z
nothing-before z = omega (ints, add (pos 0) z)

pub nothing-behind : (z : ℤ) → z +ℤ pos 0 ≡ z
nothing-behind z = omega (ints, add z (pos 0))

pub nothing-times : (z : ℤ) → pos 0 *ℤ z ≡ pos 0
nothing-times z = omega (ints, mul (pos 0) z)

times-nothing : (z : ℤ) → z *ℤ pos 0 ≡ pos 0
times-nothing z = omega (ints, mul z (pos 0))

-- ---- a product of a sum; and within 64 bits
pub weighed-small : (value weight : ℤ) → nat_abs value ≤ 10_000 → nat_abs weight ≤ most_weight → nat_abs (value *ℤ weight) ≤ 400_000_000
weighed-small value weight h k = let m : nat_abs value * nat_abs weight ≤ 10_000 * most_weight = mul-le-mul h k in rw (mul-abs value weight) m

weighed-fits : (z : ℤ) → nat_abs z ≤ 8_000_000_000 → SFits w64 z
weighed-fits z h = omega (ints, abs z)

-- ---- what the first n of some numbers make together
unfoldable pub summed : ℕ → (ℕ → ℤ) → ℤ
summed zero g = pos 0
summed (suc n) g = g 0 +ℤ summed n (λ v. g (suc v))

summed_same : (n : ℕ) (g h : ℕ → ℤ) → ((v : ℕ) → v < n → g v ≡ h v) → summed n g ≡ summed n h
unfolding summed
summed_same zero g h e = refl
summed_same (suc n) g h e = ap₂ ◌+ℤ◌ (e 0 (omega arith)) (summed_same n (λ v. g (suc v)) (λ v. h (suc v)) (λ v l. e (suc v) (omega arith)))

pub summed-none : (n : ℕ) (g : ℕ → ℤ) → ((v : ℕ) → v < n → g v ≡ pos 0) → summed n g ≡ pos 0
unfolding summed
summed-none zero g e = refl
summed-none (suc n) g e = ap₂ ◌+ℤ◌ (e 0 (omega arith)) (summed-none n (λ v. g (suc v)) (λ v l. e (suc v) (omega arith)))

-- one of them grows by d
summed-grown : (n x : ℕ) (g h : ℕ → ℤ) (d : ℤ) → x < n → h x ≡ g x +ℤ d → ((v : ℕ) → (v ≡ x → ⊥) → h v ≡ g v) → summed n h ≡ summed n g +ℤ d
unfolding summed
summed-grown zero x g h d l e same = absurd (omega arith)
summed-grown (suc n) zero g h d l e same =
    let rest = summed n (λ v. g (suc v)) in
    ap₂ ◌+ℤ◌ e (summed_same n (λ v. h (suc v)) (λ v. g (suc v)) (λ v k. same (suc v) (λ s. omega arith)))
    ∙ omega (ints, add (g 0 +ℤ d) rest, add (g 0) d, add (g 0 +ℤ rest) d, add (g 0) rest)
summed-grown (suc n) (suc x) g h d l e same =
    ap₂ ◌+ℤ◌ (same 0 (λ s. omega arith))
    (summed-grown n x (λ v. g (suc v)) (λ v. h (suc v)) d (omega arith) e (λ v k. same (suc v) (λ s. k (omega arith))))
    ∙ sym (add_assoc (g 0) (summed n (λ v. g (suc v))) d)

-- all but one are 0
pub summed-one : (n x : ℕ) (g : ℕ → ℤ) → x < n → ((v : ℕ) → (v ≡ x → ⊥) → g v ≡ pos 0) → summed n g ≡ g x
summed-one n x g l none =
    summed-grown n x (λ v. pos 0) g (g x) l (sym (nothing-before (g x))) none
    ∙ ap (λ (z : ℤ). z +ℤ g x) (summed-none n (λ v. pos 0) (λ v k. refl)) ∙ nothing-before (g x)

-- one more
summed-more : (n : ℕ) (g : ℕ → ℤ) → summed (n + 1) g ≡ summed n g +ℤ g n
unfolding summed
summed-more n g = rw (add-one n) (go n g)
  where
    go : (n : ℕ) (g : ℕ → ℤ) → summed (suc n) g ≡ summed n g +ℤ g n
    go zero g = nothing-behind (g 0) ∙ sym (nothing-before (g 0))
    go (suc n) g = ap (λ (z : ℤ). g 0 +ℤ z) (go n (λ v. g (suc v))) ∙ sym (add_assoc (g 0) (summed n (λ v. g (suc v))) (g (suc n)))

-- from the n-th on they are 0
summed-short : (m n : ℕ) (g : ℕ → ℤ) → n ≤ m → ((v : ℕ) → n ≤ v → g v ≡ pos 0) → summed m g ≡ summed n g
unfolding summed
summed-short m zero g l none = summed-none m g (λ v k. none v (omega arith))
summed-short zero (suc n) g l none = absurd (omega arith)
summed-short (suc m) (suc n) g l none =
    ap (λ (z : ℤ). g 0 +ℤ z) (summed-short m n (λ v. g (suc v)) (omega arith) (λ v k. none (suc v) (omega arith)))

-- ---- a sum of the task
weigh-summed : (n : ℕ) (k : ℕ → ℕ) (w : ℕ → ℤ) (f : ℕ → ℤ) → weigh (tabulate n (λ v. (k v, w v))) f ≡ summed n (λ v. f (k v) *ℤ w v)
unfolding tabulate summed
weigh-summed zero k w f = refl
weigh-summed (suc n) k w f = ap (λ (z : ℤ). f (k 0) *ℤ w 0 +ℤ z) (weigh-summed n (λ v. k (suc v)) (λ v. w (suc v)) f)

-- its entries
abbrev pub entry : List ℤ → ℕ → ℕ → ℤ
entry sums j v = integer_at sums (VARIABLES * j + v)

pub weights-summed : (sums : List ℤ) (j : ℕ) (f : ℕ → ℤ) → weigh (weights_in sums j) f ≡ summed VARIABLES (λ v. f v *ℤ entry sums j v)
weights-summed sums j f = weigh-summed VARIABLES (λ v. v) (entry sums j) f

-- without an entry
pub weights-none : (sums : List ℤ) (j : ℕ) (f : ℕ → ℤ) → ((v : ℕ) → v < VARIABLES → entry sums j v ≡ pos 0) → weigh (weights_in sums j) f ≡ pos 0
weights-none sums j f none =
    weights-summed sums j f ∙ summed-none VARIABLES _ (λ v l. ap (λ (z : ℤ). f v *ℤ z) (none v l) ∙ times-nothing (f v))

-- one entry grows
pub weights-grown : (sums sums' : List ℤ) (j x : ℕ) (w : ℤ) (f : ℕ → ℤ) → x < VARIABLES → entry sums' j x ≡ entry sums j x +ℤ w
    → ((v : ℕ) → (v ≡ x → ⊥) → entry sums' j v ≡ entry sums j v)
    → weigh (weights_in sums' j) f ≡ weigh (weights_in sums j) f +ℤ f x *ℤ w
weights-grown sums sums' j x w f l e same =
    weights-summed sums' j f
    ∙ summed-grown VARIABLES x (λ v. f v *ℤ entry sums j v) (λ v. f v *ℤ entry sums' j v) (f x *ℤ w) l
    (ap (λ (z : ℤ). f x *ℤ z) e ∙ mul-add (f x) (entry sums j x) w) (λ v n. ap (λ (z : ℤ). f v *ℤ z) (same v n))
    ∙ ap (λ (z : ℤ). z +ℤ f x *ℤ w) (sym (weights-summed sums j f))

-- ---- the first v entries are weighed over the first n of values, and make `total`
module _ (values : List ℤ) (n : ℕ) (sums : List ℤ) (j : ℕ) where
  abbrev products : ℕ → ℤ
  products v = integer_at (take n values) v *ℤ entry sums j v

  pub record Summing (v : ℕ) (total : ℤ) : Type 0 where
    pub within : v ≤ n
    pub made : total ≡ summed v products
    pub bound : nat_abs total ≤ v * 400_000_000

  pub summing_start : Summing 0 (pos 0)
  unfolding summed
  summing_start = record { within = omega arith; made = refl; bound = omega arith }

module _ {values : List ℤ} {n : ℕ} {sums : List ℤ} {j v : ℕ} {total : ℤ} (h : Summing values n sums j v total) where
  module _ (few : n ≤ VARIABLES) (near : ValuesNear n values) (small : WeightsSmall sums) (there : j < SUMS) (l : v < n) where
    abbrev product : ℤ
    product = integer_at values v *ℤ entry sums j v

    product_small : nat_abs product ≤ 400_000_000
    product_small = weighed-small (integer_at values v) (entry sums j v) (rw (get_or-take n values v (pos 0) l) at (near v)) (small j v there (omega arith))

    pub product-fits : SFits w64 product
    product-fits = weighed-fits product (omega (arith, product_small))

    more_small : nat_abs (total +ℤ product) ≤ nat_abs total + 400_000_000
    more_small = omega (arith, abs-sum total product, product_small)

    pub more-fits : SFits w64 (total +ℤ product)
    more-fits = weighed-fits (total +ℤ product) (omega (arith, more_small, h.bound))

    pub summing-next : Summing values n sums j (v + 1) (total +ℤ product)
    summing-next = record {
      within = omega arith;
      made = ap₂ ◌+ℤ◌ h.made (ap (λ (z : ℤ). z *ℤ entry sums j v) (sym (get_or-take n values v (pos 0) l)))
          ∙ sym (summed-more v (products values n sums j));
      bound = omega (arith, h.bound, more_small);
    }

  pub summing-small : n ≤ VARIABLES → nat_abs total ≤ VARIABLES * 400_000_000
  summing-small l = omega (arith, h.bound, h.within)

  pub summing-end : n ≤ VARIABLES → n ≤ v → total ≡ sum_at n sums values j
  summing-end few l =
      let within = h.within in
      let e : v ≡ n = omega arith in
      h.made ∙ ap (λ (k : ℕ). summed k (products values n sums j)) e
      ∙ sym (weights-summed sums j (integer_at (take n values)) ∙ summed-short VARIABLES n (products values n sums j) few none)
    where
      none : (k : ℕ) → n ≤ k → products values n sums j k ≡ pos 0
      none k m =
          ap (λ (z : ℤ). z *ℤ entry sums j k) (get_or-eq_default (take n values) (pos 0) (omega (arith, length-take n values)))
          ∙ nothing-times (entry sums j k)
