-- What a row of sums asks: a condition asks of its own entries alone, so that those put behind the others change none; and one condition more asks
-- what those before it do, and that it holds.
-- Assumes nothing.
use mathlib.Core.Path.{◌≡◌, refl, sym, ap, ap₂, ◌∙◌}
use mathlib.Core.Bool.{Bool, true, false, ◌&&◌}
use mathlib.Core.List.{List, [], ◌∷◌, ◌++◌}
use Prim.Native.Nat.{ℕ, zero, suc, ◌+◌, ◌*◌, ◌-◌, ◌≤◌, ◌<◌}
use native.Mathlib.Nat.{zero-add}
use native.Mathlib.Numerals.{add-one}
use native.Mathlib.Omega.{arith}
use lib.Dec.{ltb}
use lib.ListN.{length, get_or, take, replicate, length-append, get_or-append}
use lib.Seq.{get_or-append-add}
use lib.IntN.{ℤ, pos}
use borrow.Author.Tests.{ltb-true, ltb-false}
use Rattle.integers.specs.Relation.{related, between}
use Rattle.lists.specs.Each.{tabulate}
use Rattle.lists.specs.Loops.{every}
use Rattle.model.specs.Tasks.{NumericCondition}
use Rattle.model.specs.Steps.{integer_at, measure, weigh, conditions_hold}
use Rattle.model.proofs.Arrays.{replicated}
use Rattle.file_actions.specs.declared.SumConditions.{SumConditions}
use Rattle.file_actions.specs.Views.{sums_is}
use Rattle.source_step.specs.Sizes.{VARIABLES, SUMS}
use Rattle.source_step.specs.Layout.{NUMBERS, sum_least, sum_most}
use Rattle.source_step.specs.Row.{weights_in, sum_at, sum_holds, sum_first_at, sum_count_at, sums_hold_from, WeightsSmall}
use Rattle.source_step.proofs.Sound.{tabulate-same}
use Rattle.source_sums.specs.Asked.{Weighs, Asks, Asked}
use Rattle.source_sums.specs.Put.{Blank, SameBelow, SumPut}
use Rattle.source_sums.proofs.Weighing.{weights-same, sum_near}

-- ---- a row without any sum
pub blank-start : Blank 0 (replicate NUMBERS (pos 0))
blank-start = record {
  long = refl;
  blank = λ i l m. replicated NUMBERS i;
  small = λ j v l m. rw (replicated NUMBERS (VARIABLES * j + v)) (omega arith);
}

-- ---- the first sums of a row are as they were
pub same_start : (count : ℕ) (sums : List ℤ) → SameBelow count sums sums
same_start count sums = record { weights = λ i l. refl; leasts = λ j l. refl; mosts = λ j l. refl }

module _ {count : ℕ} {sums sums' : List ℤ} (h : SameBelow count sums sums') where
  pub same-fewer : (n : ℕ) → n ≤ count → SameBelow n sums sums'
  same-fewer n l = record {
    weights = λ i m. h.weights i (omega arith);
    leasts = λ j m. h.leasts j (omega arith);
    mosts = λ j m. h.mosts j (omega arith);
  }

  pub same_then : {sums'' : List ℤ} → SameBelow count sums' sums'' → SameBelow count sums sums''
  same_then g = record {
    weights = λ i m. g.weights i m ∙ h.weights i m;
    leasts = λ j m. g.leasts j m ∙ h.leasts j m;
    mosts = λ j m. g.mosts j m ∙ h.mosts j m;
  }

  -- they weigh what they did, and ask it
  pub same-weights : (j : ℕ) → j < count → weights_in sums' j ≡ weights_in sums j
  same-weights j l = weights-same sums sums' j (λ v m. h.weights (VARIABLES * j + v) (omega arith))

  same-holds : (n : ℕ) (values : List ℤ) (j : ℕ) → j < count → sum_holds n sums' values j ≡ sum_holds n sums values j
  same-holds n values j l =
      ap₂ (λ (a b : ℤ). between a b (sum_at n sums' values j)) (h.leasts j l) (h.mosts j l)
      ∙ ap (λ (ts : List (ℕ × ℤ)). between (integer_at sums (sum_least + j)) (integer_at sums (sum_most + j)) (weigh ts (integer_at (take n values))))
      (same-weights j l)

  pub same-asks : (from : ℕ) (ks : List (NumericCondition ℕ)) → from + length ks ≤ count → Asks from ks sums → Asks from ks sums'
  same-asks from ks l a n values few near =
      ap (every (λ b. b)) (tabulate-same (length ks) (λ i. sum_holds n sums' values (from + i)) (λ i. sum_holds n sums values (from + i))
      (λ i m. same-holds n values (from + i) (omega arith)))
      ∙ a n values few near

-- ---- more sums behind those that are measured
pub weighs-more : {from : ℕ} {sums sums' : List ℤ} (terms more : List (List (ℕ × ℤ)))
    → Weighs 0 terms sums → length terms ≡ from → SameBelow from sums sums' → Weighs from more sums'
    → Weighs 0 (terms ++ more) sums'
weighs-more {from} {sums} {sums'} terms more h e before put i l f = rw (zero-add i) (go (ltb i from) refl)
  where
    go : (b : Bool) → ltb i from ≡ b → weigh (weights_in sums' i) f ≡ weigh (get_or (terms ++ more) i []) f
    go true t =
        let n : i < from = ltb-true i from t in
        ap (λ (ts : List (ℕ × ℤ)). weigh ts f) (same-weights before i n)
        ∙ (rw (zero-add i) at (h i (omega arith) f)) ∙ ap (λ (ts : List (ℕ × ℤ)). weigh ts f) (sym (get_or-append terms more [] i (omega arith)))
    go false t =
        let n : from ≤ i = ltb-false i from t in
        let k = i - from in
        let s : from + k ≡ i = omega arith in
        let m : k < length more = omega (arith, length-append terms more) in
        let q : length terms + k ≡ i = omega arith in
        ap (λ (j : ℕ). weigh (weights_in sums' j) f) (sym s) ∙ put k m f
        ∙ ap (λ (ts : List (ℕ × ℤ)). weigh ts f) (sym (get_or-append-add terms more k []) ∙ ap (λ (j : ℕ). get_or (terms ++ more) j []) q)

-- ---- conditions asked one by one
and_assoc : (a b c : Bool) → ((a && b) && c) ≡ (a && (b && c))
and_assoc true b c = refl
and_assoc false b c = refl

and-true : (b : Bool) → (b && true) ≡ b
and-true true = refl
and-true false = refl

-- what the first n of some tests and those behind ask
every_more : (n : ℕ) (f : ℕ → Bool) → every (λ b. b) (tabulate (n + 1) f) ≡ (every (λ b. b) (tabulate n f) && f n)
unfolding tabulate
every_more n f = rw (add-one n) (go n f)
  where
    go : (n : ℕ) (f : ℕ → Bool) → every (λ b. b) (tabulate (suc n) f) ≡ (every (λ b. b) (tabulate n f) && f n)
    go zero f = and-true (f 0)
    go (suc n) f = ap (λ (b : Bool). f 0 && b) (go n (λ i. f (suc i))) ∙ sym (and_assoc (f 0) (every (λ b. b) (tabulate n (λ i. f (suc i)))) (f (suc n)))

conditions-more : (ks : List (NumericCondition ℕ)) (k : NumericCondition ℕ) (v : ℕ → ℤ)
    → conditions_hold (ks ++ k ∷ []) v ≡ (conditions_hold ks v && related k.relation (measure k.measured v) k.constant)
conditions-more [] k v = and-true (related k.relation (measure k.measured v) k.constant)
conditions-more (c ∷ ks) k v =
    ap (λ (b : Bool). related c.relation (measure c.measured v) c.constant && b) (conditions-more ks k v)
    ∙ sym (and_assoc (related c.relation (measure c.measured v) c.constant) (conditions_hold ks v)
    (related k.relation (measure k.measured v) k.constant))

-- none ask nothing
pub asks_none : (from : ℕ) (sums : List ℤ) → Asks from [] sums
unfolding tabulate
asks_none from sums n values few near = refl

-- one more behind them
pub asks-more : (from i : ℕ) (ks : List (NumericCondition ℕ)) (k : NumericCondition ℕ) (sums sums' : List ℤ) → length ks ≡ i → from + i < SUMS
    → SumPut (from + i) k sums sums' → Asks from ks sums → Asks from (ks ++ k ∷ []) sums'
asks-more from i ks k sums sums' long room put a n values few near =
    let v = integer_at (take n values) in
    let j = from + i in
    let here : sum_holds n sums' values j ≡ related k.relation (measure k.measured v) k.constant =
    put.range.asks (sum_at n sums' values j) (sum_near n sums' values j room put.blank.small near)
    ∙ ap (λ (z : ℤ). related k.relation z k.constant) (put.weighs v) in
    ap (sums_hold_from n sums' values from) (length-append ks (k ∷ []) ∙ ap (λ (m : ℕ). m + 1) long)
    ∙ every_more i (λ m. sum_holds n sums' values (from + m))
    ∙ ap₂ ◌&&◌
    (ap (sums_hold_from n sums' values from) (sym long) ∙ same-asks put.before from ks (omega arith) a n values few near)
    here
    ∙ sym (conditions-more ks k v)

-- ---- those that marks name
pub asked-by-name : (marks : List ℕ) (sums : List ℤ) (own : SumConditions) (first : ℕ) → sum_first_at marks ≡ first → sum_count_at marks ≡ own.count
    → own.count ≡ length (sums_is own) → first + own.count ≤ SUMS → WeightsSmall sums → Asks first (sums_is own) sums → Asked marks (sums_is own) sums
asked-by-name marks sums own first first_is count_is long there small a = record {
  there = omega arith;
  small = small;
  asks = λ n values few near. ap₂ (sums_hold_from n sums values) first_is (count_is ∙ long) ∙ a n values few near;
}

pub asked-none : (marks : List ℕ) (sums : List ℤ) → sum_first_at marks ≡ 0 → sum_count_at marks ≡ 0 → WeightsSmall sums → Asked marks [] sums
asked-none marks sums first_is count_is small = record {
  there = omega arith;
  small = small;
  asks = λ n values few near. ap₂ (sums_hold_from n sums values) first_is count_is ∙ asks_none 0 sums n values few near;
}
