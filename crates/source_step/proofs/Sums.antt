-- Conditions on sums: where an action has none, all hold; rows of sums that agree on those of an action give the same answer; and asked one by one,
-- those that are left decide.
-- Assumes nothing.
use mathlib.Core.Path.{◌≡◌, refl, ap, ap₂, ◌∙◌}
use Prim.Native.Nat.{ℕ, ◌+◌, ◌*◌, ◌≤◌, ◌<◌}
use native.Mathlib.Omega.{arith}
use mathlib.Core.Bool.{Bool, true, false}
use mathlib.Core.List.{List}
use lib.ListN.{take}
use lib.IntN.{ℤ}
use Rattle.integers.specs.Relation.{between}
use Rattle.lists.specs.Each.{tabulate}
use Rattle.lists.specs.Loops.{every}
use Rattle.model.specs.Steps.{integer_at, weigh}
use Rattle.source_step.specs.Sizes.{VARIABLES}
use Rattle.source_step.specs.Layout.{sum_least, sum_most}
use Rattle.source_step.specs.Row.{sum_at, sum_holds, sum_count_at, sums_hold_from, sums_hold}
use Rattle.source_step.proofs.Rows.{Left, left-start, left-none, left-pass, left-stop, row-tabulate}
use Rattle.source_step.proofs.Sound.{tabulate-same}

pub no-sums : (n : ℕ) (marks : List ℕ) (sums values : List ℤ) → sum_count_at marks ≡ 0 → sums_hold n marks sums values ≡ true
unfolding tabulate
no-sums n marks sums values e = rw e refl

-- ---- two rows of sums have the same sum j, and ask the same of it
pub record SumSame (sums sums' : List ℤ) (j : ℕ) : Type 0 where
  pub weights_same : (v : ℕ) → v < VARIABLES → integer_at sums (VARIABLES * j + v) ≡ integer_at sums' (VARIABLES * j + v)
  pub least_same : integer_at sums (sum_least + j) ≡ integer_at sums' (sum_least + j)
  pub most_same : integer_at sums (sum_most + j) ≡ integer_at sums' (sum_most + j)

module _ (n : ℕ) (values : List ℤ) {sums sums' : List ℤ} where
  pub sum-unmoved : {j : ℕ} → SumSame sums sums' j → sum_holds n sums values j ≡ sum_holds n sums' values j
  sum-unmoved {j} s =
      let same : sum_at n sums values j ≡ sum_at n sums' values j =
      ap (λ (ts : List (ℕ × ℤ)). weigh ts (integer_at (take n values))) (tabulate-same VARIABLES _ _ (λ v l. ap (λ (z : ℤ). (v, z)) (s.weights_same v l))) in
      ap (between (integer_at sums (sum_least + j)) (integer_at sums (sum_most + j))) same
      ∙ ap₂ (λ (least most : ℤ). between least most (sum_at n sums' values j)) s.least_same s.most_same

  pub sums-unmoved : (first count : ℕ) → ((j : ℕ) → first ≤ j → j < first + count → SumSame sums sums' j)
      → sums_hold_from n sums values first count ≡ sums_hold_from n sums' values first count
  sums-unmoved first count same =
      ap (every (λ b. b)) (tabulate-same count _ _ (λ i l. sum-unmoved (same (first + i) (omega arith) (omega arith))))

-- ---- one by one: of so many conditions, those from number j of them on decide what all of them do
pub record SumsLeft (n : ℕ) (sums values : List ℤ) (first count j : ℕ) : Type 0 where
  pub left : Left (tabulate count (λ k. sum_holds n sums values (first + k))) count (λ k. sum_holds n sums values (first + k)) j (every (λ b. b))
      (sums_hold_from n sums values first count)

pub all_left : (n : ℕ) (sums values : List ℤ) (first count : ℕ) → SumsLeft n sums values first count 0
all_left n sums values first count = record { left = left-start (every (λ b. b)) (row-tabulate _ _) }

module _ {n : ℕ} {sums values : List ℤ} {first count j : ℕ} (l : SumsLeft n sums values first count j) where
  pub none_left : count ≤ j → true ≡ sums_hold_from n sums values first count
  none_left h = left-none l.left h

  module _ (h : j < count) where
    pub sum-passes : sum_holds n sums values (first + j) ≡ true → SumsLeft n sums values first count (j + 1)
    sum-passes e = record { left = left-pass l.left h _ (λ rest. refl) e }

    pub sum-fails : sum_holds n sums values (first + j) ≡ false → false ≡ sums_hold_from n sums values first count
    sum-fails e = left-stop l.left h _ (λ rest. refl) e

    pub last-decides : count ≤ j + 1 → sum_holds n sums values (first + j) ≡ sums_hold_from n sums values first count
    last-decides k = go (sum_holds n sums values (first + j)) refl
      where
        go : (b : Bool) → sum_holds n sums values (first + j) ≡ b → sum_holds n sums values (first + j) ≡ sums_hold_from n sums values first count
        go true e = e ∙ left-none (sum-passes e).left k
        go false e = e ∙ sum-fails e
