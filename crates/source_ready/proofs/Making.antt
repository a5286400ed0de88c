-- The parts of the rows of an action, one after the other, are its rows.
-- Assumes nothing.
use mathlib.Core.Path.{◌≡◌, refl, sym, ap, ap₂, ◌∙◌}
use Prim.Native.Nat.{ℕ, zero, suc, ◌+◌, ◌*◌, ◌≤◌, ◌<◌}
use native.Mathlib.Omega.{arith}
use mathlib.Core.Bool.{Bool, true, false, ◌&&◌}
use mathlib.Core.List.{List, [], ◌∷◌, ◌++◌}
use lib.Dec.{leb, ltb}
use lib.ListN.{length, length-take, get_or, take, drop, replicate, get_or-append, get_or-eq_default}
use lib.Seq.{get_or-take}
use lib.IntN.{ℤ, pos, nat_abs}
use lib.Signed.{le_z}
use borrow.Author.Tests.{ltb-true, ltb-false, lt-ltb}
use Rattle.integers.specs.All.{All}
use Rattle.integers.specs.Relation.{related, between}
use Rattle.integers.proofs.Parts.{ints, abs}
use Rattle.lists.specs.Each.{tabulate}
use Rattle.lists.specs.Loops.{every}
use Rattle.lists.proofs.Each.{length-tabulate, get_or-tabulate}
use Rattle.lists.proofs.Loops.{and_left, and_right, every-at}
use Rattle.model.specs.Tasks.{NumericCondition, SourceAction}
use Rattle.model.specs.Limits.{source_limits}
use Rattle.model.specs.Steps.{integer_at, natural_at, measure, conditions_hold}
use Rattle.file_parts.specs.Layout.{condition_count}
use Rattle.file_parts.specs.Row.{condition_in, conditions_in}
use Rattle.file_actions.specs.declared.Effects.{Effects}
use Rattle.file_actions.specs.Views.{plain_is}
use Rattle.file_actions.specs.Within.{ConditionsWithin}
use Rattle.source_step.specs.Layout.{NUMBERS, sum_first, sum_count}
use Rattle.source_step.specs.Parts.{values_between, modes_below}
use Rattle.source_step.proofs.Sound.{tabulate-same}
use Rattle.source_step.proofs.Steps.{effects-near}
use Rattle.source_step.specs.Row.{values_in, modes_in, modes_after, sum_first_at, sum_count_at, sums_hold_from, sums_hold, ValuesNear}
use Rattle.source_sums.specs.Asked.{Asked}
use Rattle.source_ready.specs.Narrowed.{OnVariable, ModesIndexed, NoModes, RangesPut, ModesPut}
use Rattle.source_ready.specs.Made.{BlankFrom, EffectsPut, Named, RowFits, RowMade}
use Rattle.source_ready.proofs.Tests.{and-right-first, all-tabulate}

-- zeros
pub zeros-at : {A : Type 0} (k : ℕ) (d : A) (j : ℕ) → get_or (replicate k d) j d ≡ d
zeros-at zero d j = refl
zeros-at (suc k) d zero = refl
zeros-at (suc k) d (suc j) = zeros-at k d j

-- every test of n passes where each does
every-passes : (n : ℕ) (f : ℕ → Bool) → ((i : ℕ) → i < n → f i ≡ true) → every (λ b. b) (tabulate n f) ≡ true
unfolding tabulate
every-passes zero f h = refl
every-passes (suc n) f h = ap₂ ◌&&◌ (h 0 (omega arith)) (every-passes n (λ k. f (suc k)) (λ i l. h (suc i) (omega arith)))

each-passes : (n : ℕ) (f : ℕ → Bool) → every (λ b. b) (tabulate n f) ≡ true → (i : ℕ) → i < n → f i ≡ true
each-passes n f h i l = sym (get_or-tabulate n f i true l) ∙ every-at (λ b. b) (tabulate n f) i true h (omega (arith, length-tabulate n f, l))

-- ---- the rows before the effects are written
no-modes : {marks : List ℕ} → Named marks → NoModes marks
no-modes h j l = h.blank j (omega arith)

pub blank : {lower upper : List ℤ} {cs : List (NumericCondition ℕ)} {m : ℕ} {sizes : List ℕ} {ps es : List (ℕ × ℕ)} {marks₀ : List ℕ} {numbers₀ : List ℤ}
    {marks₁ : List ℕ} {numbers₁ : List ℤ} → Named marks₀ → numbers₀ ≡ replicate NUMBERS (pos 0) → RangesPut lower upper cs numbers₀ numbers₁
    → ModesPut m sizes ps es marks₀ marks₁ → BlankFrom 0 marks₁ numbers₁
blank h f r p = record {
  marks_long = p.long;
  numbers_long = r.long;
  marks_blank = λ j l b. p.rest j (omega arith) ∙ h.blank j b;
  numbers_blank = λ j l. r.rest j (omega arith) ∙ ap (λ (l : List ℤ). integer_at l j) f ∙ zeros-at NUMBERS (pos 0) j;
}

-- the conditions of two lists hold where those of each do
conditions-append : (xs ys : List (NumericCondition ℕ)) (v : ℕ → ℤ) → conditions_hold (xs ++ ys) v ≡ (conditions_hold xs v && conditions_hold ys v)
conditions-append [] ys v = refl
conditions-append (c ∷ xs) ys v =
    let holds = related c.relation (measure c.measured v) c.constant in
    ap (λ (b : Bool). holds && b) (conditions-append xs ys v) ∙ and-right-first holds (conditions_hold xs v) (conditions_hold ys v)

module _ {n m : ℕ} {lower upper : List ℤ} {sizes : List ℕ} {parts : List ℕ} {constants : List ℤ} {effects : Effects}
    (fit : RowFits n m lower upper sizes parts constants effects) where
  abbrev a : SourceAction
  a = plain_is parts constants effects

  value-near : (x : List ℤ) → values_between n lower upper x ≡ true → ValuesNear n x
  value-near x h j = go (ltb j n) refl
    where
      go : (p : Bool) → ltb j n ≡ p → nat_abs (integer_at (take n x) j) ≤ 10000
      go true e =
          let l : j < n = ltb-true j n e in
          let b = each-passes n (λ i. between (integer_at lower i) (integer_at upper i) (integer_at x i)) h j l in
          let p = and_left (le_z (integer_at lower j) (integer_at x j)) (le_z (integer_at x j) (integer_at upper j)) b in
          let q = and_right (le_z (integer_at lower j) (integer_at x j)) (le_z (integer_at x j) (integer_at upper j)) b in
          rw (get_or-take n x j (pos 0) l)
          (omega (ints, p, q, abs (integer_at x j), abs (integer_at lower j), abs (integer_at upper j), fit.lowers_near j l, fit.uppers_near j l))
      go false e =
          let l : n ≤ j = ltb-false j n e in
          rw (get_or-eq_default (take n x) (pos 0) {n = j} (omega (arith, length-take n x))) (omega arith)

  -- what the parts ask
  pub ranges-ask : ConditionsWithin source_limits 8 parts constants
  ranges-ask = record {
    few = fit.row.conditions.few;
    declared = λ i l. omega (arith, fit.row.conditions.declared i l, fit.few);
    in_range = fit.row.conditions.in_range;
  }

  few-modes : length (take m sizes) ≤ 4
  few-modes = omega (arith, length-take m sizes, fit.sizes_fit.few)

  pub modes-ask : ModesIndexed parts
  modes-ask = record {
    conditions = record { few = omega (arith, fit.row.mode_conditions.few); each = λ i l. omega (arith, fit.row.mode_conditions.declared i l, few-modes) };
    effects = record {
      few = omega (arith, fit.row.mode_effects.few, few-modes);
      each = λ i l. omega (arith, fit.row.mode_effects.declared i l, few-modes);
    };
  }

  module _ {marks₀ : List ℕ} {numbers₀ : List ℤ} {marks₁ : List ℕ} {numbers₁ : List ℤ} {marks₂ : List ℕ} {numbers₂ : List ℤ}
      (named₀ : Named marks₀) (r : RangesPut lower upper (conditions_in parts constants) numbers₀ numbers₁)
      (p : ModesPut m sizes a.mode_conditions a.mode_effects marks₀ marks₁)
      (e : EffectsPut n lower upper a.effects marks₁ numbers₁ marks₂ numbers₂) where
    made : (i y : ℕ) → i < 4 → y * natural_at marks₂ (8 + i) + natural_at marks₂ (12 + i) ≡ y * natural_at marks₁ (8 + i) + natural_at marks₁ (12 + i)
    made i y l = ap₂ (λ (a b : ℕ). y * a + b) (e.marks_kept (8 + i) (omega arith)) (e.marks_kept (12 + i) (omega arith))

    declared : All (OnVariable n) (conditions_in parts constants)
    declared = all-tabulate (OnVariable n) (natural_at parts condition_count) (condition_in parts constants) fit.row.conditions.declared

    values-row : (x : List ℤ) → values_in n numbers₂ x ≡ (values_between n lower upper x && conditions_hold (conditions_in parts constants) (integer_at (take n x)))
    values-row x =
        ap (every (λ b. b)) (tabulate-same n (λ i. between (integer_at numbers₂ i) (integer_at numbers₂ (8 + i)) (integer_at x i))
        (λ i. between (integer_at numbers₁ i) (integer_at numbers₁ (8 + i)) (integer_at x i))
        (λ i l. let f = fit.few in ap₂ (λ (c d : ℤ). between c d (integer_at x i)) (e.numbers_kept i (omega arith)) (e.numbers_kept (8 + i) (omega arith))))
        ∙ r.values n fit.few declared x

    -- the marks name the sums that they named before
    first-same : sum_first_at marks₂ ≡ sum_first_at marks₀
    first-same = e.named sum_first (omega arith) ∙ p.rest sum_first (omega arith)

    count_same : sum_count_at marks₂ ≡ sum_count_at marks₀
    count_same = e.named sum_count (omega arith) ∙ p.rest sum_count (omega arith)

    values-near : (x : List ℤ) → values_in n numbers₂ x ≡ true → ValuesNear n x
    values-near x h = value-near x
        (and_left (values_between n lower upper x) (conditions_hold (conditions_in parts constants) (integer_at (take n x))) (sym (values-row x) ∙ h))

    -- the ranges ask the C, the sums that are named the K
    module _ (ks : List (NumericCondition ℕ)) (sums : List ℤ) (asked : Asked marks₀ ks sums) where
      sums-row : (x : List ℤ) (b : Bool) → values_in n numbers₂ x ≡ b → (b && sums_hold n marks₂ sums x) ≡ (b && conditions_hold ks (integer_at (take n x)))
      sums-row x true q = ap₂ (sums_hold_from n sums x) first-same count_same ∙ asked.asks n x fit.few (values-near x q)
      sums-row x false q = refl

      conditions-row : (x : List ℤ) → (values_in n numbers₂ x && sums_hold n marks₂ sums x)
          ≡ (values_between n lower upper x && conditions_hold (conditions_in parts constants ++ ks) (integer_at (take n x)))
      conditions-row x =
          let v = integer_at (take n x) in
          let own = conditions_hold (conditions_in parts constants) v in
          sums-row x (values_in n numbers₂ x) refl
          ∙ ap (λ (b : Bool). b && conditions_hold ks v) (values-row x)
          ∙ sym (and-right-first (values_between n lower upper x) own (conditions_hold ks v))
          ∙ ap (λ (b : Bool). values_between n lower upper x && b) (sym (conditions-append (conditions_in parts constants) ks v))

    modes-row : (x : List ℕ) → modes_in m marks₂ x ≡ modes_in m marks₁ x
    modes-row x =
        ap (every (λ b. b)) (tabulate-same m (λ i. leb (natural_at marks₂ i) (natural_at x i) && leb (natural_at x i) (natural_at marks₂ (4 + i)))
        (λ i. leb (natural_at marks₁ i) (natural_at x i) && leb (natural_at x i) (natural_at marks₁ (4 + i)))
        (λ i l. let f = fit.sizes_fit.few in
        ap₂ (λ (c d : ℕ). leb c (natural_at x i) && leb (natural_at x i) d) (e.marks_kept i (omega arith)) (e.marks_kept (4 + i) (omega arith))))

    after-row : (x : List ℕ) → modes_after m marks₂ x ≡ modes_after m marks₁ x
    after-row x =
        ap (λ (y : List ℕ). y ++ drop m x) (tabulate-same m (λ i. natural_at x i * natural_at marks₂ (8 + i) + natural_at marks₂ (12 + i))
        (λ i. natural_at x i * natural_at marks₁ (8 + i) + natural_at marks₁ (12 + i))
        (λ i l. let f = fit.sizes_fit.few in made i (natural_at x i) (omega arith)))

    stays-below : (x : List ℕ) → modes_below m sizes x ≡ true → modes_below m sizes (modes_after m marks₂ x) ≡ true
    stays-below x h = every-passes m (λ i. ltb (natural_at (modes_after m marks₂ x) i) (natural_at sizes i)) (λ i l.
        let after : ℕ → ℕ = λ (j : ℕ). natural_at x j * natural_at marks₂ (8 + j) + natural_at marks₂ (12 + j) in
        let f = fit.sizes_fit.few in
        let b : natural_at x i < natural_at sizes i
        = ltb-true (natural_at x i) (natural_at sizes i) (each-passes m (λ j. ltb (natural_at x j) (natural_at sizes j)) h i l) in
        let is : natural_at (modes_after m marks₂ x) i ≡ natural_at x i * natural_at marks₁ (8 + i) + natural_at marks₁ (12 + i)
        = get_or-append (tabulate m after) (drop m x) 0 i (omega (arith, length-tabulate m after, l))
        ∙ get_or-tabulate m after i 0 l ∙ made i (natural_at x i) (omega arith) in
        rw is (lt-ltb _ _ (p.stays (no-modes named₀) fit.sets_modes i l (natural_at x i) b)))

    -- THE LAW
    pub row_made : RowMade n m lower upper sizes marks₀ marks₂ numbers₂ a
    row_made = record {
      row = λ ks sums asked. record {
        usable = record {
          near = values-near;
          keeps = λ i l. rw (e.marks_kept (8 + i) (omega arith), e.marks_kept (12 + i) (omega arith)) (p.keeps (no-modes named₀) fit.sets_modes i l);
          effects = record {
            constants = λ j l. (e.are.bounded j l).constant;
            weights = λ j i l h. (e.are.bounded j l).weights i h;
            divides = λ j l. (e.are.bounded j l).divides;
          };
          sums_there = omega (arith, first-same, count_same, asked.there);
          sums_small = asked.small;
        };
        values = conditions-row ks sums asked;
        modes = λ x. modes-row x ∙ p.modes (no-modes named₀) fit.asks_modes x;
        sets = λ x l. after-row x ∙ p.sets (no-modes named₀) fit.sets_modes x l;
        sets_below = λ x l h. stays-below x h;
        effects = e.are.effects;
        fits = λ x h. effects-near n (integer_at (take n x)) (value-near x h) a.effects fit.effects_ok;
        target_declared = e.are.target_declared;
        lower_at = e.are.lower_at;
        upper_at = e.are.upper_at;
      };
    }
