-- Weights put into the row, term by term: each term makes one entry grow by its weight, so that the entries with the terms that are left weigh what
-- the whole does.
-- Assumes nothing.
use mathlib.Core.Path.{◌≡◌, refl, sym, ap, ◌∙◌, subst}
use mathlib.Core.Bool.{Bool, true, false}
use mathlib.Core.List.{List}
use Prim.Native.Nat.{ℕ, ◌+◌, ◌*◌, ◌≤◌, ◌<◌}
use native.Mathlib.Omega.{arith}
use lib.Dec.{eqb, ltb}
use lib.ListN.{length, get_or, take, set, length-map, length-take, length-set}
use lib.Seq.{take_all, get_or-set_same, get_or-set_other}
use lib.IntN.{ℤ, pos, nat_abs, ◌+ℤ◌, ◌*ℤ◌}
use borrow.Author.Tests.{eqb-true, eqb-false, ltb-true, ltb-false}
use mir.Syntax.{w64}
use mir.Val.{SFits}
use Rattle.integers.proofs.Parts.{ints, abs, add, add_assoc}
use Rattle.model.specs.Steps.{integer_at, weigh}
use Rattle.model.proofs.StepBounds.{abs-sum}
use Rattle.file_actions.specs.declared.Term.{Term}
use Rattle.file_actions.specs.Views.{sum_room, term_room, term_is, terms_is}
use Rattle.source_step.specs.Sizes.{VARIABLES, SUMS}
use Rattle.source_step.specs.Layout.{NUMBERS}
use Rattle.source_step.specs.Row.{weights_in, most_weight, WeightsSmall}
use Rattle.source_step.proofs.Rows.{Row, row-terms, Left, left-next, left-none}
use Rattle.source_sums.specs.Put.{Blank, PartSmall, TermSmall, TermsPut}
use Rattle.source_sums.proofs.Own.{all-at}
use Rattle.source_step.proofs.Weighing.{nothing-before, nothing-behind, weights-none, weights-grown}

-- ---- terms by number; what stands for one behind them all
abbrev pub no_term : Term
no_term = record { variable = 0; weight = pos 0 }

abbrev pub term_at : List Term → ℕ → Term
term_at terms i = get_or terms i no_term

row-sum : (count : ℕ) (terms : List Term) → length terms ≡ term_room → count ≤ term_room → Row (terms_is count terms) count (λ i. term_is (term_at terms i))
row-sum count terms long few =
    let size : length (terms_is count terms) ≤ term_room = omega (arith, length-map (take count terms) term_is, length-take count terms) in
    subst (λ (ts : List (ℕ × ℤ)). Row ts count (λ i. term_is (term_at terms i))) (take_all term_room (terms_is count terms) size)
    (row-terms term_room count count terms no_term long (omega arith))

-- ---- the first i terms are put as sum j
pub record Putting (j count : ℕ) (terms : List Term) (sums₀ sums : List ℤ) (i : ℕ) : Type 0 where
  pub within : i ≤ count
  pub long : length sums ≡ NUMBERS
  pub behind : (k : ℕ) → VARIABLES * (j + 1) ≤ k → k < VARIABLES * SUMS → integer_at sums k ≡ pos 0
  pub before : (k : ℕ) → k < VARIABLES * j → integer_at sums k ≡ integer_at sums₀ k
  pub ranges : (k : ℕ) → VARIABLES * SUMS ≤ k → integer_at sums k ≡ integer_at sums₀ k
  pub near : (k : ℕ) → VARIABLES * j ≤ k → k < VARIABLES * SUMS → nat_abs (integer_at sums k) ≤ i * 10_000
  pub left : (f : ℕ → ℤ) → Left (terms_is count terms) count (λ n. term_is (term_at terms n)) i (λ ts. weigh (weights_in sums j) f +ℤ weigh ts f)
      (weigh (terms_is count terms) f)

pub put-start : {j : ℕ} {sums : List ℤ} (count : ℕ) (terms : List Term) → j < sum_room → length terms ≡ term_room → count ≤ term_room → Blank j sums
    → Putting j count terms sums sums 0
put-start {j} {sums} count terms room long few h = record {
  within = omega arith;
  long = h.long;
  behind = λ k l m. h.blank k (omega arith) m;
  before = λ k l. refl;
  ranges = λ k l. refl;
  near = λ k l m. rw (h.blank k l m) (omega arith);
  left = λ f. record {
    row = row-sum count terms long few;
    bound = omega arith;
    same = ap (λ (z : ℤ). z +ℤ weigh (terms_is count terms) f) (weights-none sums j f (λ v l. h.blank (VARIABLES * j + v) (omega arith) (omega arith)))
        ∙ nothing-before (weigh (terms_is count terms) f);
  };
}

module _ {j count : ℕ} {terms : List Term} {sums₀ sums : List ℤ} {i : ℕ} (h : Putting j count terms sums₀ sums i) (room : j < sum_room) where
  module _ (l : i < count) (few : count ≤ term_room) (all_small : TermSmall count terms) where
    abbrev x : ℕ
    x = (term_at terms i).variable

    abbrev w : ℤ
    w = (term_at terms i).weight

    -- its entry, and that with the term
    abbrev at : ℕ
    at = VARIABLES * j + x

    abbrev more : ℤ
    more = integer_at sums at +ℤ w

    small : PartSmall (x, w)
    small =
        let r = (h.left (λ v. pos 0)).row in
        subst PartSmall (r.at i (term_is no_term) l) (all-at PartSmall (terms_is count terms) i (term_is no_term) all_small (omega (arith, r.size)))

    pub entry-below : at < VARIABLES * SUMS
    entry-below = omega (arith, room, small.0)

    pub more-fits : SFits w64 more
    more-fits = omega (
      ints,
      add (integer_at sums at) w,
      abs (integer_at sums at),
      abs w,
      h.near at (omega arith) entry-below,
      small.1,
      h.within,
      few,
    )

    pub put_next : Putting j count terms sums₀ (set sums at more) (i + 1)
    put_next = record {
      within = omega arith;
      long = length-set sums at more ∙ h.long;
      behind = λ k m n. other k (λ s. omega (arith, small.0)) ∙ h.behind k m n;
      before = λ k m. other k (λ s. omega arith) ∙ h.before k m;
      ranges = λ k m. other k (λ s. omega (arith, entry-below)) ∙ h.ranges k m;
      near = λ k m n. nears k m n (eqb k at) refl;
      left = λ f. left-next (h.left f) (λ ts. weigh (weights_in (set sums at more) j) f +ℤ weigh ts f) l (λ rest.
          ap (λ (z : ℤ). z +ℤ weigh rest f) (grown f) ∙ add_assoc (weigh (weights_in sums j) f) (f x *ℤ w) (weigh rest f));
    }
      where
        other : (k : ℕ) → (k ≡ at → ⊥) → integer_at (set sums at more) k ≡ integer_at sums k
        other k n = get_or-set_other sums at k more (pos 0) n

        same : integer_at (set sums at more) at ≡ more
        same = get_or-set_same sums at more (pos 0) (omega (arith, h.long, entry-below))

        nears : (k : ℕ) → VARIABLES * j ≤ k → k < VARIABLES * SUMS → (b : Bool) → eqb k at ≡ b → nat_abs (integer_at (set sums at more) k) ≤ (i + 1) * 10_000
        nears k m n true t =
            let e : k ≡ at = eqb-true k at t in
            rw (e, same) (omega (arith, abs-sum (integer_at sums at) w, h.near at (omega arith) entry-below, small.1))
        nears k m n false t = rw (other k (eqb-false k at t)) (omega (arith, h.near k m n))

        grown : (f : ℕ → ℤ) → weigh (weights_in (set sums at more) j) f ≡ weigh (weights_in sums j) f +ℤ f x *ℤ w
        grown f = weights-grown sums (set sums at more) j x w f small.0 same (λ v n. other (VARIABLES * j + v) (λ s. n (omega arith)))

  pub put-end : count ≤ term_room → WeightsSmall sums₀ → count ≤ i → TermsPut j (terms_is count terms) sums₀ sums
  put-end few small l = record {
    blank = record { long = h.long; blank = h.behind; small = λ k v m n. smalls k v m n (ltb k j) refl };
    before = h.before;
    ranges = h.ranges;
    weighs = λ f. sym (nothing-behind (weigh (weights_in sums j) f)) ∙ left-none (h.left f) l;
  }
    where
      smalls : (k v : ℕ) → k < SUMS → v < VARIABLES → (b : Bool) → ltb k j ≡ b → nat_abs (integer_at sums (VARIABLES * k + v)) ≤ most_weight
      smalls k v m n true t =
          let below : k < j = ltb-true k j t in
          rw (h.before (VARIABLES * k + v) (omega arith)) (small k v m n)
      smalls k v m n false t =
          let above : j ≤ k = ltb-false k j t in
          omega (arith, h.near (VARIABLES * k + v) (omega arith) (omega arith), h.within)
