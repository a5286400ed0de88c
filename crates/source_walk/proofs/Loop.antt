-- The loop over the steps of a plan: what is left of it comes to what the whole comes to.
-- Assumes nothing.
use mathlib.Core.Path.{◌≡◌, refl, sym, ap, ap₂, ◌∙◌}
use Prim.Native.Nat.{ℕ, suc, ◌+◌, ◌*◌, ◌≤◌, ◌<◌}
use native.Mathlib.Omega.{arith}
use native.Mathlib.Numerals.{add-one}
use mathlib.Core.Bool.{Bool, true, false}
use mathlib.Core.List.{List, ◌∷◌}
use lib.ListN.{length, get_or, drop, drop_of_length-le, length-append, length-drop}
use lib.Seq.{drop-cons}
use lib.IntN.{ℤ}
use borrow.Author.Tests.{lt-ltb, le-ltb}
use Rattle.lists.specs.Each.{tabulate}
use Rattle.lists.proofs.Each.{length-tabulate}
use Rattle.model.specs.Tasks.{State}
use Rattle.model.specs.Steps.{natural_at}
use Rattle.std.specs.Prelude.{Option, Some, None, Result, Ok, Err}
use Rattle.answers.specs.declared.Refusal.{Refusal}
use Rattle.answers.specs.declared.Reason.TheVariants.{NoAction, DoesNotApply}
use Rattle.source_step.specs.Step.{state}
use Rattle.source_step.specs.Row.{modes_after}
use Rattle.source_step.specs.Ready.{marks_of, numbers_of, sums_of}
use Rattle.source_step.specs.Table.{Table, takes_by, after_by, goal_by, Usables}
use Rattle.source_walk.specs.declared.Walked.{Walked}
use Rattle.source_walk.specs.Answers.{last_verdict}
use Rattle.source_walk.specs.Walk.{first_passing, Walk, cost_by, walk_from, walk_is, TurnOf, judge_walk, judged_is}

pub long_after : (m : ℕ) (marks modes : List ℕ) → m ≤ 4 → length modes ≡ 4 → length (modes_after m marks modes) ≡ 4
long_after m marks modes h l =
    let f : ℕ → ℕ = λ i. natural_at modes i * natural_at marks (8 + i) + natural_at marks (12 + i) in
    length-append (tabulate m f) (drop m modes) ∙ omega (arith, length-tabulate m f, length-drop m modes)

module _ (T : Table) (priced : Bool) (p : List ℕ) (x₀ : State) where
  -- i steps were taken at a price, and led to this state
  pub record Going (values : List ℤ) (modes : List ℕ) (i price passing : ℕ) : Type 0 where
    pub same : walk_from T priced 0 0 0 p x₀ ≡ walk_from T priced i price passing (drop i p) (state values modes)
    pub bound : i ≤ length p
    pub few : price ≤ i * 40_000_000_000
    pub long : length modes ≡ 4

pub begins : (T : Table) (priced : Bool) (p : List ℕ) (values : List ℤ) (modes : List ℕ) → length modes ≡ 4
    → Going T priced p (state values modes) values modes 0 0 0
begins T priced p values modes l = record { same = refl; bound = omega arith; few = omega arith; long = l }

module _ {T : Table} {priced : Bool} {p : List ℕ} {x₀ : State} {values : List ℤ} {modes : List ℕ} {i price passing : ℕ}
    (g : Going T priced p x₀ values modes i price passing) where
  abbrev x : State
  x = state values modes

  pub over : length p ≤ i → record { progress = Ok tt; price = price; passing = passing; state = state values modes } ≡ walk_from T priced 0 0 0 p x₀
  unfolding walk_from
  over h = sym (g.same ∙ ap (λ (ks : List ℕ). walk_from T priced i price passing ks x) (drop_of_length-le p h))

  module _ (k : ℕ) (e : k ≡ get_or p i 0) (h : i < length p) where
    at-step : walk_from T priced 0 0 0 p x₀ ≡ walk_from T priced i price passing (k ∷ drop (suc i) p) x
    at-step = g.same ∙ ap (λ (ks : List ℕ). walk_from T priced i price passing ks x) (drop-cons p i 0 h ∙ ap (λ (j : ℕ). j ∷ drop (suc i) p) (sym e))

    pub no-action : T.count ≤ k
        → record {
          progress = Err (record { reason = NoAction; place = i });
          price = price;
          passing = passing;
          state = state values modes;
        } ≡ walk_from T priced 0 0 0 p x₀
    unfolding walk_from
    no-action l = sym (at-step ∙ rw (le-ltb k T.count l) refl)

    -- the step was tried
    abbrev Tried : Option ℕ → List ℤ → List ℕ → Type 0
    Tried = TurnOf priced T.variables T.modes (marks_of T.marks k) (numbers_of T.numbers k) (sums_of T.numbers) values modes

    module _ (l : k < T.count) {values' : List ℤ} {modes' : List ℕ} where
      pub not-applied : Tried None values' modes'
          → record {
            progress = Err (record { reason = DoesNotApply; place = i });
            price = price;
            passing = passing;
            state = state values' modes';
          } ≡ walk_from T priced 0 0 0 p x₀
      unfolding walk_from
      not-applied t =
          let off : takes_by T x k ≡ false = sym t.stepped.is in
          let stays : state values' modes' ≡ x = ap₂ state (t.stepped.values_are ∙ rw off refl) (t.stepped.modes_are ∙ rw off refl) in
          ap (λ (y : State). record { progress = Err (record { reason = DoesNotApply; place = i }); price = price; passing = passing; state = y }) stays
          ∙ sym (at-step ∙ rw (lt-ltb k T.count l, off) refl)

      pub goes : Usables T → (cost : ℕ) → Tried (Some cost) values' modes' → {passing' : ℕ} → passing' ≡ first_passing passing price (price + cost) i
          → Going T priced p x₀ values' modes' (i + 1) (price + cost) passing'
      unfolding walk_from
      goes u cost t {passing'} q =
          let on : takes_by T x k ≡ true = sym t.stepped.is in
          let moves : modes' ≡ modes_after T.modes (marks_of T.marks k) modes = t.stepped.modes_are ∙ rw on refl in
          let after : after_by T x k ≡ state values' modes' = sym (ap₂ state (t.stepped.values_are ∙ rw on refl) moves) in
          let costs : cost_by T priced x k ≡ cost = sym t.price in
          record {
            same = at-step ∙ rw (lt-ltb k T.count l, on, costs, after, ← q, add-one i) refl;
            bound = omega arith;
            few = omega (arith, g.few, t.few);
            long = ap length moves ∙ long_after T.modes (marks_of T.marks k) modes u.modes_few g.long;
          }

-- ---- the walk judged
pub judged-from : (T : Table) (p : List ℕ) {steps : ℕ} {w : Walked} {v : Result ℕ Refusal} {met : Bool} {x : State} {W : Walk}
    → v ≡ last_verdict w.progress met steps → met ≡ goal_by T x → steps ≡ length p → walk_is w x ≡ W
    → judged_is (record { verdict = v; price = w.price; passing = w.passing }) x ≡ judge_walk T (length p) W
judged-from T p {steps} {w} {v} {met} {x} {W} e g s f = rw (e, g, s) (ap (judge_walk T (length p)) f)
