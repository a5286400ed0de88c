-- A walk by the rows of a task, from a state within its bounds, is the task's own: it is judged and priced alike, and ends within the bounds.
-- Assumes nothing.
use mathlib.Core.Path.{◌≡◌, refl, sym, ap, ◌∙◌}
use Prim.Native.Nat.{ℕ, suc, ◌+◌, ◌<◌}
use native.Mathlib.Omega.{arith}
use native.Mathlib.Nat.{add-zero}
use mathlib.Core.Bool.{Bool, true, false, cond, false≢true}
use mathlib.Core.List.{List, [], ◌∷◌}
use lib.Dec.{ltb}
use lib.ListN.{length}
use borrow.Author.Tests.{lt-ltb, ltb-true}
use Rattle.answers.specs.Answer.{Answer, given, refused}
use Rattle.model.specs.Tasks.{SourceTask, State}
use Rattle.model.specs.Steps.{step_source}
use Rattle.model.specs.Expansion.{price_from}
use Rattle.model.specs.Judging.{judge, prices_from}
use Rattle.std.specs.Prelude.{Result, Ok, Err, ⊤}
use Rattle.answers.specs.declared.Refusal.{Refusal}
use Rattle.answers.specs.declared.Reason.{Reason}
use Rattle.answers.specs.declared.Reason.TheVariants.{NoAction, DoesNotApply}
use Rattle.source_step.specs.Step.{Kept}
use Rattle.source_walk.specs.Answers.{on_progress}
use Rattle.source_step.proofs.Trying.{kept_same, kept_then}
use Rattle.source_step.specs.Table.{Table, declared_by, takes_by, after_by, price_by, RowsOf, Inside}
use Rattle.source_step.proofs.Tables.{price-agrees, step-agrees, inside-after, kept-after}
use Rattle.source_walk.specs.Walk.{most, first_passing, Walk, cost_by, walk_from}

-- ---- what a plan prices to, from the sum so far and what is left of the plan
abbrev from_sum : Bool → ℕ → ℕ → Answer ℕ → Answer ℕ
from_sum limited sum passing rest = cond (cond limited (ltb most sum) false) (refused 9 passing) rest

-- what a plan with this price comes to; where the price is limited, and past the limit, 9 with the first step that passes it
abbrev pub within_price : Bool → ℕ → ℕ → Answer ℕ
within_price limited price passing = from_sum limited price passing (given price)

pub from-none : (limited : Bool) (rest : Answer ℕ) → rest ≡ from_sum limited 0 0 rest
from-none true rest = refl
from-none false rest = refl

one_more : (limited : Bool) (sum more passing i : ℕ) (rest : Answer ℕ)
    → from_sum limited sum passing (from_sum limited (sum + more) i rest) ≡ from_sum limited (sum + more) (first_passing passing sum (sum + more) i) rest
one_more false sum more passing i rest = refl
one_more true sum more passing i rest = go (ltb most sum) (ltb most (sum + more)) refl refl
  where
    go : (a b : Bool) → ltb most sum ≡ a → ltb most (sum + more) ≡ b
        → cond a (refused 9 passing) (cond b (refused 9 i) rest) ≡ cond b (refused 9 (cond a passing (cond b i passing))) rest
    go true true e f = refl
    go true false e f = let h = ltb-true most sum e in absurd (false≢true (sym f ∙ lt-ltb most (sum + more) (omega arith)))
    go false true e f = refl
    go false false e f = refl

not_through : (r : Refusal) → ◌≡◌ {A = Result ⊤ Refusal} (Err r) (Ok tt) → ⊥
not_through r e = cc

module _ {t : SourceTask} {T : Table} (R : RowsOf t T) where
  count-is : length t.actions ≡ T.count
  count-is = sym R.ready.counted

  abbrev stops : Reason → ℕ → ℕ → ℕ → State → Walk
  stops reason i price passing x = record { progress = Err (record { reason = reason; place = i }); price = price; passing = passing; state = x }

  module _ (priced : Bool) where
    -- ---- where it ends
    abbrev EndsIn : State → State → Type 0
    EndsIn x y = Inside R y × Kept T.variables T.modes x.values x.modes y.values y.modes

    pub walk_ends : (p : List ℕ) (i price passing : ℕ) (x : State) → Inside R x → EndsIn x (walk_from T priced i price passing p x).state
    unfolding walk_from
    walk_ends [] i price passing x I = (I, kept_same)
    walk_ends (k ∷ ks) i price passing x I = go (ltb k T.count) refl (takes_by T x k) refl (λ c d J. walk_ends ks (suc i) c d (after_by T x k) J)
        (price + cost_by T priced x k) (first_passing passing price (price + cost_by T priced x k) i)
      where
        go : (a : Bool) → ltb k T.count ≡ a → (b : Bool) → takes_by T x k ≡ b
            → ((c d : ℕ) → Inside R (after_by T x k) → EndsIn (after_by T x k) (walk_from T priced (suc i) c d ks (after_by T x k)).state)
            → (c d : ℕ) → EndsIn x (cond a (cond b (walk_from T priced (suc i) c d ks (after_by T x k)) (stops DoesNotApply i price passing x))
            (stops NoAction i price passing x)).state
        go true e true f ih c d =
            let l : k < T.count = ltb-true k T.count e in
            let (J, K) = ih c d (inside-after R x I k l f) in
            (J, kept_then (kept-after R x I k l f) K)
        go true e false f ih c d = (I, kept_same)
        go false e b f ih c d = (I, kept_same)

    -- ---- what judging gives, for any goal
    module _ (goal : State → Bool) where
      abbrev judging : ℕ → List ℕ → State → Answer (ℕ × State)
      judging = judge (length t.actions) (step_source t) goal

      abbrev Judges : ℕ → ℕ → List ℕ → State → Walk → Type 0
      Judges i j p x w = judging i p (declared_by T x) ≡ on_progress w.progress (judging j [] (declared_by T w.state))

      pub walk-judges : (p : List ℕ) (i price passing : ℕ) (x : State) → Inside R x → Judges i (i + length p) p x (walk_from T priced i price passing p x)
      unfolding judge walk_from
      walk-judges [] i price passing x I = ap (λ (j : ℕ). judging j [] (declared_by T x)) (sym (add-zero i))
      walk-judges (k ∷ ks) i price passing x I = go (ltb k T.count) refl (takes_by T x k) refl (λ c d J. walk-judges ks (suc i) c d (after_by T x k) J)
          (price + cost_by T priced x k) (first_passing passing price (price + cost_by T priced x k) i)
        where
          go : (a : Bool) → ltb k T.count ≡ a → (b : Bool) → takes_by T x k ≡ b
              → ((c d : ℕ) → Inside R (after_by T x k)
              → Judges (suc i) (suc i + length ks) ks (after_by T x k) (walk_from T priced (suc i) c d ks (after_by T x k)))
              → (c d : ℕ) → Judges i (i + suc (length ks)) (k ∷ ks) x
              (cond a (cond b (walk_from T priced (suc i) c d ks (after_by T x k)) (stops DoesNotApply i price passing x))
              (stops NoAction i price passing x))
          go true e true f ih c d =
              let l : k < T.count = ltb-true k T.count e in
              let w = walk_from T priced (suc i) c d ks (after_by T x k) in
              let there : suc i + length ks ≡ i + suc (length ks) = omega arith in
              rw (count-is, e, step-agrees R x I k l, f)
              (ih c d (inside-after R x I k l f) ∙ ap (λ (j : ℕ). on_progress w.progress (judging j [] (declared_by T w.state))) there)
          go true e false f ih c d = rw (count-is, e, step-agrees R x I k (ltb-true k T.count e), f) refl
          go false e b f ih c d = rw (count-is, e) refl

  -- ---- what pricing gives, where the steps go through
  abbrev pricing : Bool → ℕ → ℕ → List ℕ → State → Answer ℕ
  pricing = prices_from (step_source t) (price_from t.actions)

  abbrev Prices : Bool → ℕ → ℕ → ℕ → List ℕ → State → Walk → Type 0
  Prices limited i sum passing p x w = from_sum limited sum passing (pricing limited i sum p (declared_by T x)) ≡ within_price limited w.price w.passing

  pub walk-prices : (limited : Bool) (p : List ℕ) (i sum passing : ℕ) (x : State) → Inside R x → (walk_from T true i sum passing p x).progress ≡ Ok tt
      → Prices limited i sum passing p x (walk_from T true i sum passing p x)
  unfolding prices_from walk_from
  walk-prices limited [] i sum passing x I h = refl
  walk-prices limited (k ∷ ks) i sum passing x I h =
      go (ltb k T.count) refl (takes_by T x k) refl (λ c d J. walk-prices limited ks (suc i) c d (after_by T x k) J) h
    where
      go : (a : Bool) → ltb k T.count ≡ a → (b : Bool) → takes_by T x k ≡ b
          → ((c d : ℕ) → Inside R (after_by T x k) → (walk_from T true (suc i) c d ks (after_by T x k)).progress ≡ Ok tt
          → Prices limited (suc i) c d ks (after_by T x k) (walk_from T true (suc i) c d ks (after_by T x k)))
          → (cond a (cond b (walk_from T true (suc i) (sum + price_by T x k) (first_passing passing sum (sum + price_by T x k) i) ks (after_by T x k))
          (stops DoesNotApply i sum passing x)) (stops NoAction i sum passing x)).progress ≡ Ok tt
          → Prices limited i sum passing (k ∷ ks) x
          (cond a (cond b (walk_from T true (suc i) (sum + price_by T x k) (first_passing passing sum (sum + price_by T x k) i) ks (after_by T x k))
          (stops DoesNotApply i sum passing x)) (stops NoAction i sum passing x))
      go true e true f ih h =
          let l : k < T.count = ltb-true k T.count e in
          let y = after_by T x k in
          rw (price-agrees R x k l, step-agrees R x I k l, f)
          (one_more limited sum (price_by T x k) passing i (pricing limited (suc i) (sum + price_by T x k) ks (declared_by T y))
          ∙ ih (sum + price_by T x k) (first_passing passing sum (sum + price_by T x k) i) (inside-after R x I k l f) h)
      go true e false f ih h = absurd (not_through _ h)
      go false e b f ih h = absurd (not_through _ h)
