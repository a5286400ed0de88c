-- An effect that is written into a block that was 0 is the effect that the block stands for.
-- Assumes nothing.
use mathlib.Core.Path.{◌≡◌, ◌∙◌}
use Prim.Native.Nat.{ℕ, ◌+◌, ◌*◌, ◌≤◌, ◌<◌}
use native.Mathlib.Omega.{arith}
use mathlib.Core.Logic.{◌≢◌}
use mathlib.Core.List.{List}
use lib.ListN.{length, length-set, take, set}
use lib.Seq.{get_or-set_same, get_or-set_other}
use lib.IntN.{ℤ, pos, nat_abs}
use Rattle.lists.specs.Each.{tabulate}
use Rattle.model.specs.Tasks.{Effect}
use Rattle.model.specs.Steps.{integer_at, natural_at}
use Rattle.source_step.specs.Sizes.{EFFECTS}
use Rattle.source_step.specs.Layout.{MARKS, NUMBERS, BLOCK, KIND, TARGET, OPERAND, COUNT, TERM, CONSTANT, WEIGHT, LOWER, UPPER}
use Rattle.source_step.specs.Row.{kind_at, target_at, operand_at, constant_at, variable_at, weight_at, effect_of_kind}
use Rattle.source_ready.specs.declared.Head.{Head}
use Rattle.source_ready.specs.Made.{TermsPut, head_marks, head_numbers, HeadPut, BlankFrom, EffectPut}
use Rattle.source_ready.proofs.Terms.{terms-are, weights-near}

-- ---- what stands where in the rest
module _ (e : ℕ) (room : e < EFFECTS) where
  module _ (kind target operand count : ℕ) (l : List ℕ) (long : length l ≡ MARKS) where
    abbrev one : List ℕ
    one = set l (KIND + BLOCK * e) kind

    abbrev two : List ℕ
    two = set one (TARGET + BLOCK * e) target

    abbrev three : List ℕ
    three = set two (OPERAND + BLOCK * e) operand

    one-long : length one ≡ MARKS
    one-long = length-set l (KIND + BLOCK * e) kind ∙ long

    two-long : length two ≡ MARKS
    two-long = length-set one (TARGET + BLOCK * e) target ∙ one-long

    three-long : length three ≡ MARKS
    three-long = length-set two (OPERAND + BLOCK * e) operand ∙ two-long

    head-marks-long : length (head_marks e kind target operand count l) ≡ MARKS
    head-marks-long = length-set three (COUNT + BLOCK * e) count ∙ three-long

    head-kind : kind_at (head_marks e kind target operand count l) e ≡ kind
    head-kind =
        get_or-set_other three (COUNT + BLOCK * e) (KIND + BLOCK * e) count 0 (λ q. omega arith)
        ∙ get_or-set_other two (OPERAND + BLOCK * e) (KIND + BLOCK * e) operand 0 (λ q. omega arith)
        ∙ get_or-set_other one (TARGET + BLOCK * e) (KIND + BLOCK * e) target 0 (λ q. omega arith) ∙ get_or-set_same l (KIND + BLOCK * e) kind 0 (omega arith)

    head-target : target_at (head_marks e kind target operand count l) e ≡ target
    head-target =
        get_or-set_other three (COUNT + BLOCK * e) (TARGET + BLOCK * e) count 0 (λ q. omega arith)
        ∙ get_or-set_other two (OPERAND + BLOCK * e) (TARGET + BLOCK * e) operand 0 (λ q. omega arith)
        ∙ get_or-set_same one (TARGET + BLOCK * e) target 0 (omega (arith, one-long))

    head-operand : operand_at (head_marks e kind target operand count l) e ≡ operand
    head-operand =
        get_or-set_other three (COUNT + BLOCK * e) (OPERAND + BLOCK * e) count 0 (λ q. omega arith)
        ∙ get_or-set_same two (OPERAND + BLOCK * e) operand 0 (omega (arith, two-long))

    head-count : natural_at (head_marks e kind target operand count l) (COUNT + BLOCK * e) ≡ count
    head-count = get_or-set_same three (COUNT + BLOCK * e) count 0 (omega (arith, three-long))

    -- the terms, and what stands outside the block
    head-marks-other : (j : ℕ) → j ≢ KIND + BLOCK * e → j ≢ TARGET + BLOCK * e → j ≢ OPERAND + BLOCK * e → j ≢ COUNT + BLOCK * e
        → natural_at (head_marks e kind target operand count l) j ≡ natural_at l j
    head-marks-other j a b c d =
        get_or-set_other three (COUNT + BLOCK * e) j count 0 d ∙ get_or-set_other two (OPERAND + BLOCK * e) j operand 0 c
        ∙ get_or-set_other one (TARGET + BLOCK * e) j target 0 b ∙ get_or-set_other l (KIND + BLOCK * e) j kind 0 a

  module _ (c least most : ℤ) (l : List ℤ) (long : length l ≡ NUMBERS) where
    abbrev first : List ℤ
    first = set l (CONSTANT + BLOCK * e) c

    abbrev second : List ℤ
    second = set first (LOWER + BLOCK * e) least

    first-long : length first ≡ NUMBERS
    first-long = length-set l (CONSTANT + BLOCK * e) c ∙ long

    second-long : length second ≡ NUMBERS
    second-long = length-set first (LOWER + BLOCK * e) least ∙ first-long

    head-numbers-long : length (head_numbers e c least most l) ≡ NUMBERS
    head-numbers-long = length-set second (UPPER + BLOCK * e) most ∙ second-long

    head-constant : constant_at (head_numbers e c least most l) e ≡ c
    head-constant =
        get_or-set_other second (UPPER + BLOCK * e) (CONSTANT + BLOCK * e) most (pos 0) (λ q. omega arith)
        ∙ get_or-set_other first (LOWER + BLOCK * e) (CONSTANT + BLOCK * e) least (pos 0) (λ q. omega arith)
        ∙ get_or-set_same l (CONSTANT + BLOCK * e) c (pos 0) (omega arith)

    head-least : integer_at (head_numbers e c least most l) (LOWER + BLOCK * e) ≡ least
    head-least = get_or-set_other second (UPPER + BLOCK * e) (LOWER + BLOCK * e) most (pos 0) (λ q. omega arith)
        ∙ get_or-set_same first (LOWER + BLOCK * e) least (pos 0) (omega (arith, first-long))

    head-most : integer_at (head_numbers e c least most l) (UPPER + BLOCK * e) ≡ most
    head-most = get_or-set_same second (UPPER + BLOCK * e) most (pos 0) (omega (arith, second-long))

    -- the weights, and what stands outside the block
    head-numbers-other : (j : ℕ) → j ≢ CONSTANT + BLOCK * e → j ≢ LOWER + BLOCK * e → j ≢ UPPER + BLOCK * e
        → integer_at (head_numbers e c least most l) j ≡ integer_at l j
    head-numbers-other j a b d =
        get_or-set_other second (UPPER + BLOCK * e) j most (pos 0) d ∙ get_or-set_other first (LOWER + BLOCK * e) j least (pos 0) b
        ∙ get_or-set_other l (CONSTANT + BLOCK * e) j c (pos 0) a

-- ---- effect e with k terms
module _ {e : ℕ} (room : e < EFFECTS) {n : ℕ} {lower upper : List ℤ} {head : Head} {count : ℕ} {marks : List ℕ} {numbers : List ℤ} {marks₁ : List ℕ}
    {numbers₁ : List ℤ} {marks' : List ℕ} {numbers' : List ℤ}
    (k : ℕ) (f : ℕ → ℕ × ℤ) (b : BlankFrom e marks numbers) (t : TermsPut e k f marks numbers marks₁ numbers₁)
    (h : HeadPut e n lower upper head count marks₁ numbers₁ marks' numbers') (counted : count ≡ k) (few : k ≤ 4) where
  abbrev kind : ℕ
  kind = head.kind

  abbrev target : ℕ
  target = head.target

  abbrev operand : ℕ
  operand = head.operand

  abbrev c : ℤ
  c = head.constant

  abbrev least : ℤ
  least = integer_at (take n lower) target

  abbrev most : ℤ
  most = integer_at (take n upper) target

  kind-is : kind_at marks' e ≡ kind
  kind-is = rw h.marks_are (head-kind e room kind target operand count marks₁ t.marks_long)

  target_is : target_at marks' e ≡ target
  target_is = rw h.marks_are (head-target e room kind target operand count marks₁ t.marks_long)

  operand-is : operand_at marks' e ≡ operand
  operand-is = rw h.marks_are (head-operand e room kind target operand count marks₁ t.marks_long)

  constant-is : constant_at numbers' e ≡ c
  constant-is = rw h.numbers_are (head-constant e room c least most numbers₁ t.numbers_long)

  marks-other : (j : ℕ) → j ≢ KIND + BLOCK * e → j ≢ TARGET + BLOCK * e → j ≢ OPERAND + BLOCK * e → j ≢ COUNT + BLOCK * e
      → natural_at marks' j ≡ natural_at marks₁ j
  marks-other j p q r s = rw h.marks_are (head-marks-other e room kind target operand count marks₁ t.marks_long j p q r s)

  numbers-other : (j : ℕ) → j ≢ CONSTANT + BLOCK * e → j ≢ LOWER + BLOCK * e → j ≢ UPPER + BLOCK * e → integer_at numbers' j ≡ integer_at numbers₁ j
  numbers-other j p q r = rw h.numbers_are (head-numbers-other e room c least most numbers₁ t.numbers_long j p q r)

  count-is : natural_at marks' (COUNT + BLOCK * e) ≡ k
  count-is = rw h.marks_are (head-count e room kind target operand count marks₁ t.marks_long) ∙ counted

  variable-kept : (i : ℕ) → i < 4 → variable_at marks' e i ≡ variable_at marks₁ e i
  variable-kept i l = marks-other (TERM + BLOCK * e + i) (λ q. omega arith) (λ q. omega arith) (λ q. omega arith) (λ q. omega arith)

  weight-kept : (i : ℕ) → i < 4 → weight_at numbers' e i ≡ weight_at numbers₁ e i
  weight-kept i l = numbers-other (WEIGHT + BLOCK * e + i) (λ q. omega arith) (λ q. omega arith) (λ q. omega arith)

  behind : (j : ℕ) → KIND + BLOCK * (e + 1) ≤ j → natural_at marks' j ≡ natural_at marks j
  behind j l = marks-other j (λ q. omega arith) (λ q. omega arith) (λ q. omega arith) (λ q. omega arith) ∙ t.marks_behind j (omega arith)

  blank-behind : BlankFrom (e + 1) marks' numbers'
  blank-behind = record {
    marks_long = rw h.marks_are (head-marks-long e room kind target operand count marks₁ t.marks_long);
    numbers_long = rw h.numbers_are (head-numbers-long e room c least most numbers₁ t.numbers_long);
    marks_blank = λ j l m. behind j l ∙ b.marks_blank j (omega arith) m;
    numbers_blank = λ j l. numbers-other j (λ q. omega arith) (λ q. omega arith) (λ q. omega arith) ∙ t.numbers_behind j (omega arith)
        ∙ b.numbers_blank j (omega arith);
  }

  module _ (near : nat_abs c ≤ 10000) (nears : (i : ℕ) → i < k → nat_abs (f i).1 ≤ 10000) where
    -- THE LAW
    pub effect-put : (g : Effect) → (2 ≤ kind → 1 ≤ nat_abs c) → target < n → effect_of_kind kind target operand c (tabulate k f) ≡ g
        → EffectPut e n lower upper g marks numbers marks' numbers'
    effect-put g divisor declared is = record {
      block = record {
        effect = rw (kind-is, target_is, operand-is, constant-is, terms-are marks' numbers' k f t few count-is variable-kept weight-kept) is;
        bounded = record {
          constant = rw constant-is near;
          weights = weights-near marks' numbers' k f t few count-is variable-kept weight-kept
              (λ i l. b.numbers_blank (WEIGHT + BLOCK * e + i) (omega arith)) nears;
          divides = λ l. rw constant-is (divisor (omega (arith, kind-is)));
        };
        target_declared = rw target_is declared;
        lower_at = rw target_is (rw h.numbers_are (head-least e room c least most numbers₁ t.numbers_long));
        upper_at = rw target_is (rw h.numbers_are (head-most e room c least most numbers₁ t.numbers_long));
      };
      marks_kept = λ j l. marks-other j (λ q. omega arith) (λ q. omega arith) (λ q. omega arith) (λ q. omega arith) ∙ t.marks_kept j (omega arith);
      numbers_kept = λ j l. numbers-other j (λ q. omega arith) (λ q. omega arith) (λ q. omega arith) ∙ t.numbers_kept j (omega arith);
      named = λ j l. behind j (omega arith);
      blank = blank-behind;
    }
