-- What effect e of an action reads and makes: of numbers within 10,000 nothing leaves 64 bits; the effect of each kind.
-- Assumes nothing.
use mathlib.Core.Path.{◌≡◌, refl, sym, ap, ◌∙◌}
use Prim.Native.Nat.{ℕ, ◌+◌, ◌*◌, ◌≤◌, ◌<◌}
use native.Mathlib.Omega.{arith}
use mathlib.Core.Bool.{Bool, true, false, cond, ◌&&◌}
use mathlib.Core.List.{List}
use lib.ListN.{take}
use lib.IntN.{ℤ, nat_abs, ◌+ℤ◌, ◌*ℤ◌}
use lib.Dec.{eqb}
use mir.Syntax.{w64}
use mir.Val.{SFits}
use borrow.Author.Tests.{le-leb, ne_eqb}
use Rattle.integers.specs.Parts.{Within}
use Rattle.integers.specs.Division.{quotient_of, residue_of}
use Rattle.model.specs.Tasks.{Effect, add_effect, linear_effect, quotient_effect, residue_effect}
use Rattle.model.specs.Steps.{integer_at, linear, target, result}
use Rattle.source_step.specs.Parts.{small}
use Rattle.source_step.specs.Sizes.{EFFECTS}
use Rattle.source_step.proofs.InRange as ranges
use Rattle.source_step.proofs.InRange.{sum-within, quotient-within, residue-within}
use Rattle.source_step.specs.Row.{kind_at, target_at, operand_at, constant_at, variable_at, weight_at, terms_at, effect_of_kind, effect_at, result_at, Reads}

both : (a b : Bool) → a ≡ true → b ≡ true → (a && b) ≡ true
both true b e f = f
both false b e f = e

pub near : (v c : ℤ) → nat_abs v ≤ 10_000 → nat_abs c ≤ 10_000 → (small v && small c) ≡ true
near v c h k = both _ _ (le-leb (nat_abs v) 10_000 h) (le-leb (nat_abs c) 10_000 k)

pub within : (z : ℤ) → nat_abs z ≤ 10_000 → Within 1000000000 z
within z h = record { within = omega arith }

-- ---- kinds
module _ (t operand : ℕ) (c : ℤ) (terms : List (ℕ × ℤ)) where
  residue-is : (kind : ℕ) → 3 ≤ kind → effect_of_kind kind t operand c terms ≡ residue_effect t operand c
  unfolding effect_of_kind
  residue-is kind h = rw (ne_eqb kind 0 (λ e. omega arith), ne_eqb kind 1 (λ e. omega arith), ne_eqb kind 2 (λ e. omega arith)) refl

  kind-is : (kind k : ℕ) → kind ≡ k → effect_of_kind kind t operand c terms ≡ effect_of_kind k t operand c terms
  kind-is kind k e = ap (λ (j : ℕ). effect_of_kind j t operand c terms) e

  -- each has the target that it is written with
  target-of-kind : (kind : ℕ) → target (effect_of_kind kind t operand c terms) ≡ t
  unfolding effect_of_kind
  target-of-kind kind = go (eqb kind 0) (eqb kind 1) (eqb kind 2)
    where
      go : (a b d : Bool)
          → target (cond a (add_effect t c) (cond b (linear_effect t c terms) (cond d (quotient_effect t operand c) (residue_effect t operand c)))) ≡ t
      go true b d = refl
      go false true d = refl
      go false false true = refl
      go false false false = refl

-- ---- what effect e gives
module _ (marks : List ℕ) (numbers : List ℤ) (e : ℕ) where
  pub target_is : target (effect_at marks numbers e) ≡ target_at marks e
  target_is = target-of-kind (target_at marks e) (operand_at marks e) (constant_at numbers e) (terms_at marks numbers e) (kind_at marks e)

  module _ (n : ℕ) (values : List ℤ) where
    abbrev v : ℕ → ℤ
    v = integer_at (take n values)

    of-kind : (k : ℕ) → kind_at marks e ≡ k → result_at n marks numbers values e
        ≡ result (effect_of_kind k (target_at marks e) (operand_at marks e) (constant_at numbers e) (terms_at marks numbers e)) v
    of-kind k h =
        ap (λ (f : Effect). result f v)
        (kind-is (target_at marks e) (operand_at marks e) (constant_at numbers e) (terms_at marks numbers e) (kind_at marks e) k h)

    pub result-add : kind_at marks e ≡ 0 → result_at n marks numbers values e ≡ v (target_at marks e) +ℤ constant_at numbers e
    unfolding effect_of_kind
    result-add h = of-kind 0 h

    pub result-linear : kind_at marks e ≡ 1 → result_at n marks numbers values e ≡ linear (constant_at numbers e) (terms_at marks numbers e) v
    unfolding effect_of_kind
    result-linear h = of-kind 1 h

    pub result-quotient : kind_at marks e ≡ 2 → result_at n marks numbers values e ≡ quotient_of (v (operand_at marks e)) (constant_at numbers e)
    unfolding effect_of_kind
    result-quotient h = of-kind 2 h

    pub result-residue : 3 ≤ kind_at marks e → result_at n marks numbers values e ≡ residue_of (v (operand_at marks e)) (constant_at numbers e)
    result-residue h =
        ap (λ (f : Effect). result f v)
        (residue-is (target_at marks e) (operand_at marks e) (constant_at numbers e) (terms_at marks numbers e) (kind_at marks e) h)

-- ---- what it gives of values of a source file: by its kind, and small
module _ {n : ℕ} {values : List ℤ} {marks : List ℕ} {numbers : List ℤ} (R : Reads n values marks numbers) (e : ℕ) (l : e < EFFECTS) where
  abbrev target-value : ℤ
  target-value = integer_at (take n values) (target_at marks e)

  abbrev operand-value : ℤ
  operand-value = integer_at (take n values) (operand_at marks e)

  pub constant-near : nat_abs (constant_at numbers e) ≤ 10_000
  constant-near = R.effects.constants e l

  -- the product of a term, and a sum of some terms with it
  module _ (i : ℕ) (k : i < 4) where
    abbrev factor : ℤ
    factor = integer_at (take n values) (variable_at marks e i)

    abbrev product : ℤ
    product = factor *ℤ weight_at numbers e i

    factors-near : (small factor && small (weight_at numbers e i)) ≡ true
    factors-near = near factor (weight_at numbers e i) (R.near (variable_at marks e i)) (R.effects.weights e i l k)

    pub product-fits : SFits w64 product
    product-fits = ranges.product-fits factor (weight_at numbers e i) factors-near

    pub with-term-fits : (z : ℤ) → nat_abs z ≤ 10_000 + i * 100_000_000 → SFits w64 (z +ℤ product)
    with-term-fits z h = ranges.term_fits_lem factor (weight_at numbers e i) factors-near z (record { within = omega arith })

    pub with-term-small : (z : ℤ) → nat_abs z ≤ 10_000 + i * 100_000_000 → nat_abs (z +ℤ product) ≤ 10_000 + (i + 1) * 100_000_000
    with-term-small z h = omega (arith, ranges.term-small factor (weight_at numbers e i) factors-near z)

  pub target-fits : SFits w64 (target-value +ℤ constant_at numbers e)
  target-fits = ranges.sum_fits target-value (constant_at numbers e) (near target-value (constant_at numbers e) (R.near (target_at marks e)) constant-near)

  abbrev Gives : ℤ → Type 0
  Gives z = (z ≡ result_at n marks numbers values e) × Within 1_000_000_000 z

  pub gives-sum : kind_at marks e ≡ 0 → {z : ℤ} → z ≡ target-value +ℤ constant_at numbers e → Gives z
  gives-sum h q =
      (q ∙ sym (result-add marks numbers e n values h), rw q (sum-within target-value (constant_at numbers e) (R.near (target_at marks e)) constant-near))

  pub gives-linear : kind_at marks e ≡ 1 → {z : ℤ}
      → (z ≡ linear (constant_at numbers e) (terms_at marks numbers e) (integer_at (take n values))) × Within 1_000_000_000 z → Gives z
  gives-linear h q = (q.0 ∙ sym (result-linear marks numbers e n values h), q.1)

  pub gives-quotient : kind_at marks e ≡ 2 → {z : ℤ} → z ≡ quotient_of operand-value (constant_at numbers e) → Gives z
  gives-quotient h q = (
    q ∙ sym (result-quotient marks numbers e n values h),
    rw q (quotient-within operand-value (constant_at numbers e) (R.near (operand_at marks e)) constant-near),
  )

  pub gives-residue : 3 ≤ kind_at marks e → {z : ℤ} → z ≡ residue_of operand-value (constant_at numbers e) → Gives z
  gives-residue h q =
      let divides = R.effects.divides e l (omega arith) in (
        q ∙ sym (result-residue marks numbers e n values h),
        rw q (residue-within operand-value (constant_at numbers e) (R.near (operand_at marks e)) constant-near divides),
      )
