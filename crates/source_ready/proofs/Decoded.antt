-- An effect as it was decoded, written by its head and as many of its terms as count.
-- Assumes nothing.
use mathlib.Core.Path.{◌≡◌, refl, sym, ap, ◌∙◌, subst⁻¹}
use Prim.Native.Nat.{ℕ, zero, suc, min, ◌≤◌, ◌<◌}
use native.Mathlib.Omega.{arith}
use mathlib.Core.Bool.{Bool, true, false, cond}
use mathlib.Core.List.{List}
use lib.Dec.{eqb}
use lib.ListN.{length}
use lib.Seq.{ext_get_or, take_all}
use lib.IntN.{ℤ, pos, nat_abs}
use borrow.Author.Tests.{eqb-true, eqb-false}
use Rattle.integers.specs.All.{All}
use Rattle.lists.specs.Each.{tabulate}
use Rattle.lists.proofs.Each.{length-tabulate, get_or-tabulate}
use Rattle.model.specs.Tasks.{Effect, add_effect, linear_effect, quotient_effect, residue_effect}
use Rattle.model.specs.Limits.{source_limits}
use Rattle.model.specs.TaskOk.{AmountOk, EffectOk}
use Rattle.file_actions.specs.declared.Term.{Term}
use Rattle.file_actions.specs.declared.NumericEffect.{NumericEffect}
use Rattle.file_actions.specs.Views.{term_room, terms_is, numeric_is}
use Rattle.source_step.specs.Sizes.{EFFECTS}
use Rattle.source_step.specs.Row.{effect_of_kind}
use Rattle.source_step.proofs.Rows.{Row, row-terms}
use Rattle.source_ready.specs.declared.Head.{Head}
use Rattle.source_ready.specs.Made.{term_at, TermsPut, HeadOf, HeadPut, terms_of_kind, BlankFrom, EffectPut}
use Rattle.source_ready.proofs.Effects.{effect-put}

-- the terms of a decoded action
row_is_lem : {A : Type 0} {xs : List A} {k : ℕ} {f : ℕ → A} (d : A) → Row xs k f → tabulate k f ≡ xs
row_is_lem {A} {xs} {k} {f} d r =
    ext_get_or d (tabulate k f) xs (length-tabulate k f ∙ sym r.size)
    (λ i l. let m : i < k = omega (arith, length-tabulate k f, l) in get_or-tabulate k f i d m ∙ sym (r.at i d m))

all-at : {A : Type 0} (P : A → Type 0) (n : ℕ) (f : ℕ → A) → All P (tabulate n f) → (i : ℕ) → i < n → P (f i)
unfolding tabulate
all-at P zero f h i l = absurd (omega arith)
all-at P (suc n) f (h, hs) zero l = h
all-at P (suc n) f (h, hs) (suc i) l = all-at P n (λ k. f (suc k)) hs i (omega arith)

listed : (count : ℕ) (terms : List Term) (k : ℕ) → length terms ≡ 4 → k ≡ min 4 count → length (terms_is count terms) ≤ 4
    → tabulate k (term_at terms) ≡ terms_is count terms
listed count terms k long few l = row_is_lem (0, pos 0) (row-terms term_room count k terms (record { variable = 0; weight = pos 0 }) long few)
    ∙ take_all term_room (terms_is count terms) l

-- ---- what the rules ask of an effect, by its head
module _ (n : ℕ) (h : Head) (terms : List (ℕ × ℤ)) where
  abbrev made : Effect
  made = effect_of_kind h.kind h.target h.operand h.constant terms

  record Asked : Type 0 where
    pub declared : h.target < n
    pub near : nat_abs h.constant ≤ 10000
    pub divisor : 2 ≤ h.kind → 1 ≤ nat_abs h.constant
    pub amounts : h.kind ≡ 1 → (length terms ≤ 4) × All (AmountOk source_limits n) terms

  asked : EffectOk source_limits n made → Asked
  unfolding effect_of_kind
  asked o = go (eqb h.kind 0) (eqb h.kind 1) (eqb h.kind 2) refl refl o
    where
      go : (a b d : Bool) → eqb h.kind 0 ≡ a → eqb h.kind 1 ≡ b
          → EffectOk source_limits n (cond a (add_effect h.target h.constant) (cond b (linear_effect h.target h.constant terms)
          (cond d (quotient_effect h.target h.operand h.constant) (residue_effect h.target h.operand h.constant)))) → Asked
      go true b d p q o = record { declared = o.0; near = o.1.1; divisor = λ l. o.1.0; amounts = λ e. absurd (omega (arith, eqb-true h.kind 0 p)) }
      go false true d p q o = record
          { declared = o.0; near = o.1; divisor = λ l. absurd (omega (arith, eqb-true h.kind 1 q)); amounts = λ e. (o.2, o.3.0) }
      go false false true p q o = record { declared = o.0; near = o.2.1; divisor = λ l. o.2.0; amounts = λ e. absurd (eqb-false h.kind 1 q e) }
      go false false false p q o = record { declared = o.0; near = o.2.1; divisor = λ l. o.2.0; amounts = λ e. absurd (eqb-false h.kind 1 q e) }

-- only an L has terms
termless : (kind target operand : ℕ) (c : ℤ) (xs ys : List (ℕ × ℤ)) → eqb kind 1 ≡ false
    → effect_of_kind kind target operand c xs ≡ effect_of_kind kind target operand c ys
unfolding effect_of_kind
termless kind target operand c xs ys e = rw e refl

-- no more terms count than there is room for
pub terms-few : (kind terms k : ℕ) → k ≡ terms_of_kind kind terms → k ≤ 4
terms-few kind terms k e = go (eqb kind 1) e
  where
    go : (b : Bool) → k ≡ cond b (min 4 terms) 0 → k ≤ 4
    go true q = omega arith
    go false q = omega arith

-- ---- an effect of an action in block e: its terms, as many as count, then its head
module _ {e : ℕ} (room : e < EFFECTS) {n : ℕ} {lower upper : List ℤ} {marks : List ℕ} {numbers : List ℤ} {marks₁ : List ℕ} {numbers₁ : List ℤ} {marks' : List ℕ}
    {numbers' : List ℤ} (place : NumericEffect) (long : length place.terms ≡ 4) {head : Head} (H : HeadOf place.effect head) {k : ℕ}
    (few : k ≡ terms_of_kind head.kind place.term_count) (b : BlankFrom e marks numbers) (o : EffectOk source_limits n (numeric_is place))
    (t : TermsPut e k (term_at place.terms) marks numbers marks₁ numbers₁) (h : HeadPut e n lower upper head k marks₁ numbers₁ marks' numbers') where
  abbrev terms : List (ℕ × ℤ)
  terms = terms_is place.term_count place.terms

  asks : Asked n head terms
  asks = asked n head terms (subst⁻¹ (EffectOk source_limits n) (H.is terms) o)

  -- THE LAW
  pub decoded-put : EffectPut e n lower upper (numeric_is place) marks numbers marks' numbers'
  decoded-put = go (eqb head.kind 1) refl
    where
      go : (l : Bool) → eqb head.kind 1 ≡ l → EffectPut e n lower upper (numeric_is place) marks numbers marks' numbers'
      go true q =
          let linear : head.kind ≡ 1 = eqb-true head.kind 1 q in
          let counted : k ≡ min 4 place.term_count = few ∙ rw q refl in
          let is : tabulate k (term_at place.terms) ≡ terms = listed place.term_count place.terms k long counted (asks.amounts linear).0 in
          let all : All (AmountOk source_limits n) (tabulate k (term_at place.terms)) = rw is (asks.amounts linear).1 in
          effect-put room k (term_at place.terms) b t h refl (omega arith) asks.near
          (λ i l. (all-at (AmountOk source_limits n) k (term_at place.terms) all i l).1.1)
          (numeric_is place) asks.divisor asks.declared (ap (effect_of_kind head.kind head.target head.operand head.constant) is ∙ H.is terms)
      go false q =
          let none : k ≡ 0 = few ∙ rw q refl in
          effect-put room k (term_at place.terms) b t h refl (omega arith) asks.near (λ i l. absurd (omega arith))
          (numeric_is place) asks.divisor asks.declared (termless head.kind head.target head.operand head.constant _ terms q ∙ H.is terms)
