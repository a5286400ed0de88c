-- The blocks of an action's effects, one after the other, are its effects.
-- Assumes nothing.
use mathlib.Core.Path.{◌≡◌, refl, sym, ap, ap₂, ◌∙◌, subst}
use Prim.Native.Nat.{ℕ, zero, suc, min, ◌+◌, ◌*◌, ◌≤◌, ◌<◌}
use native.Mathlib.Omega.{arith}
use native.Mathlib.Decide.{ℕ_discrete}
use mathlib.Core.Bool.{Bool, true, false}
use mathlib.Core.Logic.{◌≢◌}
use mathlib.Core.List.{List, [], ◌∷◌, map}
use lib.Dec.{ltb}
use lib.ListN.{length, length-map, length-set, get_or, take, set, get_or-map}
use lib.Seq.{length-take-le, get_or-take, get_or-set_same, get_or-set_other, ext_get_or}
use lib.IntN.{ℤ, pos}
use borrow.Author.Tests.{ltb-true, ltb-false}
use Rattle.integers.specs.All.{All}
use Rattle.lists.specs.Each.{tabulate}
use Rattle.lists.proofs.Each.{length-tabulate, get_or-tabulate}
use Rattle.model.specs.Tasks.{Effect, add_effect}
use Rattle.model.specs.Steps.{integer_at, natural_at}
use Rattle.source_step.specs.Sizes.{EFFECTS}
use Rattle.source_step.specs.Layout.{BLOCK, MANY, KIND, TARGET, OPERAND, COUNT, TERM, sum_first, CONSTANT, WEIGHT, LOWER, UPPER}
use Rattle.source_step.specs.Row.{effect_count_at, kind_at, target_at, operand_at, term_count_at, constant_at, variable_at, weight_at, terms_at, effect_at, effects_at}
use Rattle.source_step.proofs.Sound.{tabulate-same}
use Rattle.source_ready.specs.Made.{BlankFrom, Bounded, BlockIs, EffectPut, EffectsPut}

abbrev effect_of : List Effect → ℕ → Effect
effect_of fs e = get_or fs e (add_effect 0 (pos 0))

-- a fact of each element, by its number
all-number : {A : Type 0} (P : A → Type 0) (xs : List A) → All P xs → (i : ℕ) (d : A) → i < length xs → P (get_or xs i d)
all-number P [] h i d l = absurd (omega arith)
all-number P (x ∷ xs) (h, hs) zero d l = h
all-number P (x ∷ xs) (h, hs) (suc i) d l = all-number P xs hs i d (omega arith)

-- ---- what the first so many of some places say, by number
module _ {A B : Type 0} (says : A → B) (d : A) (count : ℕ) (places : List A) (few : count ≤ length places) where
  pub said-counted : length (map says (take count places)) ≡ count
  said-counted = length-map (take count places) says ∙ length-take-le count places few

  pub said_at : (i : ℕ) → i < count → get_or (map says (take count places)) i (says d) ≡ says (get_or places i d)
  said_at i l = get_or-map says (take count places) i d ∙ ap says (get_or-take count places i d l)

  -- what is known of all is known of the one at a place
  pub said_of : (P : B → Type 0) → All P (map says (take count places)) → (i : ℕ) → i < count → P (says (get_or places i d))
  said_of P h i l = subst P (said_at i l) (all-number P (map says (take count places)) h i (says d) (omega (arith, said-counted)))

-- ---- rows that have the same numbers in block e
record SameBlock (e : ℕ) (marks : List ℕ) (numbers : List ℤ) (marks' : List ℕ) (numbers' : List ℤ) : Type 0 where
  pub same_marks : (j : ℕ) → KIND + BLOCK * e ≤ j → j < KIND + BLOCK * (e + 1) → natural_at marks' j ≡ natural_at marks j
  pub same_numbers : (j : ℕ) → CONSTANT + BLOCK * e ≤ j → j < CONSTANT + BLOCK * (e + 1) → integer_at numbers' j ≡ integer_at numbers j

-- the block is what it was
module _ {e : ℕ} {marks : List ℕ} {numbers : List ℤ} {marks' : List ℕ} {numbers' : List ℤ} (S : SameBlock e marks numbers marks' numbers') where
  kind-same : kind_at marks' e ≡ kind_at marks e
  kind-same = S.same_marks (KIND + BLOCK * e) (omega arith) (omega arith)

  target-same : target_at marks' e ≡ target_at marks e
  target-same = S.same_marks (TARGET + BLOCK * e) (omega arith) (omega arith)

  operand_same : operand_at marks' e ≡ operand_at marks e
  operand_same = S.same_marks (OPERAND + BLOCK * e) (omega arith) (omega arith)

  count_same : term_count_at marks' e ≡ term_count_at marks e
  count_same = ap (min 4) (S.same_marks (COUNT + BLOCK * e) (omega arith) (omega arith))

  constant-same : constant_at numbers' e ≡ constant_at numbers e
  constant-same = S.same_numbers (CONSTANT + BLOCK * e) (omega arith) (omega arith)

  weight-same : (i : ℕ) → i < 4 → weight_at numbers' e i ≡ weight_at numbers e i
  weight-same i l = S.same_numbers (WEIGHT + BLOCK * e + i) (omega arith) (omega arith)

  terms-same : terms_at marks' numbers' e ≡ terms_at marks numbers e
  terms-same =
      ap (λ (k : ℕ). tabulate k (λ i. (variable_at marks' e i, weight_at numbers' e i))) count_same
      ∙ tabulate-same (term_count_at marks e) _ _
      (λ i l. ap₂ (λ (x : ℕ) (y : ℤ). (x, y)) (S.same_marks (TERM + BLOCK * e + i) (omega arith) (omega arith)) (weight-same i (omega arith)))

  lower-same : integer_at numbers' (LOWER + BLOCK * e) ≡ integer_at numbers (LOWER + BLOCK * e)
  lower-same = S.same_numbers (LOWER + BLOCK * e) (omega arith) (omega arith)

  upper-same : integer_at numbers' (UPPER + BLOCK * e) ≡ integer_at numbers (UPPER + BLOCK * e)
  upper-same = S.same_numbers (UPPER + BLOCK * e) (omega arith) (omega arith)

  effect-same : effect_at marks' numbers' e ≡ effect_at marks numbers e
  effect-same = rw (kind-same, target-same, operand_same, constant-same, terms-same) refl

  bounded-stays : Bounded e marks numbers → Bounded e marks' numbers'
  bounded-stays B = record {
    constant = rw constant-same B.constant;
    weights = λ i l. rw (weight-same i l) (B.weights i l);
    divides = λ l. rw constant-same (B.divides (omega (arith, kind-same)));
  }

  block-stays : {n : ℕ} {lower upper : List ℤ} {f : Effect} → BlockIs e n lower upper f marks numbers → BlockIs e n lower upper f marks' numbers'
  block-stays B = record {
    effect = effect-same ∙ B.effect;
    bounded = bounded-stays B.bounded;
    target_declared = rw target-same B.target_declared;
    lower_at = rw target-same (lower-same ∙ B.lower_at);
    upper_at = rw target-same (upper-same ∙ B.upper_at);
  }

-- one that is 0
blank-bounded : {k : ℕ} {marks : List ℕ} {numbers : List ℤ} → BlankFrom k marks numbers → (e : ℕ) → k ≤ e → e < EFFECTS
    → Bounded e marks numbers
blank-bounded b e h room = record {
  constant = rw (b.numbers_blank (CONSTANT + BLOCK * e) (omega arith)) (omega arith);
  weights = λ i l. rw (b.numbers_blank (WEIGHT + BLOCK * e + i) (omega arith)) (omega arith);
  divides = λ l. absurd (omega (arith, b.marks_blank (KIND + BLOCK * e) (omega arith) (omega arith)));
}

-- ---- e of the effects are written
pub record SoFar (n : ℕ) (lower upper : List ℤ) (fs : List Effect) (marks₀ : List ℕ) (numbers₀ : List ℤ) (marks : List ℕ) (numbers : List ℤ)
    (e : ℕ) : Type 0 where
  pub few : length fs ≤ EFFECTS
  pub bound : e ≤ length fs
  pub many : natural_at marks MANY ≡ length fs
  pub blocks : (j : ℕ) → j < e → BlockIs j n lower upper (effect_of fs j) marks numbers
  pub blank : BlankFrom e marks numbers
  pub marks_kept : (j : ℕ) → j < MANY → natural_at marks j ≡ natural_at marks₀ j
  pub named : (j : ℕ) → sum_first ≤ j → natural_at marks j ≡ natural_at marks₀ j
  pub numbers_kept : (j : ℕ) → j < CONSTANT → integer_at numbers j ≡ integer_at numbers₀ j

module _ {n : ℕ} {lower upper : List ℤ} {fs : List Effect} {marks₀ : List ℕ} {numbers₀ : List ℤ} where
  pub none-put : length fs ≤ EFFECTS → BlankFrom 0 marks₀ numbers₀ → (count : ℕ) → length fs ≡ count
      → SoFar n lower upper fs (set marks₀ MANY count) numbers₀ (set marks₀ MANY count) numbers₀ 0
  none-put few b count c = record {
    few = few;
    bound = omega arith;
    many = get_or-set_same marks₀ MANY count 0 (omega (arith, b.marks_long)) ∙ sym c;
    blocks = λ j l. absurd (omega arith);
    blank = record {
      marks_long = length-set marks₀ MANY count ∙ b.marks_long;
      numbers_long = b.numbers_long;
      marks_blank = λ j l m. get_or-set_other marks₀ MANY j count 0 (λ q. omega arith) ∙ b.marks_blank j l m;
      numbers_blank = b.numbers_blank;
    };
    marks_kept = λ j l. refl;
    named = λ j l. refl;
    numbers_kept = λ j l. refl;
  }

  module _ {marks : List ℕ} {numbers : List ℤ} {e : ℕ} (S : SoFar n lower upper fs marks₀ numbers₀ marks numbers e) where
    pub one-put : {marks' : List ℕ} {numbers' : List ℤ} → e < length fs → EffectPut e n lower upper (effect_of fs e) marks numbers marks' numbers'
        → SoFar n lower upper fs marks₀ numbers₀ marks' numbers' (e + 1)
    one-put {marks'} {numbers'} l p = record {
      few = S.few;
      bound = omega arith;
      many = p.marks_kept MANY (omega arith) ∙ S.many;
      blocks = λ j m. go j m (ℕ_discrete j e);
      blank = p.blank;
      marks_kept = λ j m. p.marks_kept j (omega arith) ∙ S.marks_kept j m;
      named = λ j m. p.named j m ∙ S.named j m;
      numbers_kept = λ j m. p.numbers_kept j (omega arith) ∙ S.numbers_kept j m;
    }
      where
        go : (j : ℕ) → j < e + 1 → Dec (j ≡ e) → BlockIs j n lower upper (effect_of fs j) marks' numbers'
        go j m (yes q) = rw q p.block
        go j m (no q) =
            let b : j < e = omega arith in
            block-stays (record { same_marks = λ i x y. p.marks_kept i (omega arith); same_numbers = λ i x y. p.numbers_kept i (omega arith) }) (S.blocks j b)

    -- THE LAW: the rows before are those at the start, but for the count
    pub all-put : (before : List ℕ) (count : ℕ) → marks₀ ≡ set before MANY count → length fs ≤ e → EffectsPut n lower upper fs before numbers₀ marks numbers
    all-put before count is h = record {
      are = record {
        effects =
            ext_get_or (add_effect 0 (pos 0)) (effects_at marks numbers) fs (length-tabulate _ _ ∙ counted)
            (λ j l. let m : j < effect_count_at marks = omega (arith, length-tabulate (effect_count_at marks) (effect_at marks numbers)) in
            get_or-tabulate (effect_count_at marks) (effect_at marks numbers) j (add_effect 0 (pos 0)) m ∙ (S.blocks j (within j m)).effect);
        bounded = λ j l. bounded j l (ltb j e) refl;
        target_declared = λ j l. (S.blocks j (within j l)).target_declared;
        lower_at = λ j l. (S.blocks j (within j l)).lower_at;
        upper_at = λ j l. (S.blocks j (within j l)).upper_at;
      };
      marks_kept = λ j l. S.marks_kept j l ∙ before_at j (λ q. omega arith);
      named = λ j l. S.named j l ∙ before_at j (λ q. omega arith);
      numbers_kept = S.numbers_kept;
    }
      where
        counted : effect_count_at marks ≡ length fs
        counted = omega (arith, S.many, S.few)

        within : (j : ℕ) → j < effect_count_at marks → j < e
        within j l = omega (arith, counted)

        bounded : (j : ℕ) → j < EFFECTS → (b : Bool) → ltb j e ≡ b → Bounded j marks numbers
        bounded j l true q = (S.blocks j (ltb-true j e q)).bounded
        bounded j l false q = blank-bounded S.blank j (ltb-false j e q) l

        before_at : (j : ℕ) → j ≢ MANY → natural_at marks₀ j ≡ natural_at before j
        before_at j q = ap (λ (z : List ℕ). natural_at z j) is ∙ get_or-set_other before MANY j count 0 q
