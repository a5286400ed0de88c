-- One turn of projecting by source steps: what a plan comes to from a place on, by the source action that stands there.
-- Assumes nothing.
use mathlib.Core.Path.{◌≡◌, refl, sym, ap, ◌∙◌}
use Prim.Native.Nat.{ℕ, zero, suc, ◌≤◌, ◌<◌}
use native.Mathlib.Omega.{arith}
use mathlib.Core.Bool.{Bool, true, false, cond}
use mathlib.Core.Option.{none, some}
use mathlib.Core.List.{List, [], ◌∷◌}
use lib.Dec.{ltb}
use lib.ListN.{length, get_or, drop, length-drop}
use lib.Seq.{drop-cons}
use lib.IntN.{ℤ}
use borrow.Author.Tests.{lt-ltb, ltb-true}
use Rattle.answers.specs.Answer.{Answer, given, refused, then}
use Rattle.model.specs.Tasks.{State}
use Rattle.model.specs.Systems.{provided}
use Rattle.model.specs.Following.{if_any, strayed, past_macro, into_macro, project_over}
use Rattle.model.proofs.FollowingBound.{bounds-agree}
use Rattle.source_step.specs.Step.{state}
use Rattle.source_step.specs.Row.{Stepped}
use Rattle.source_step.specs.Ready.{marks_of, numbers_of, sums_of}
use Rattle.source_step.specs.Table.{Table, takes_by, after_by, step_by, goal_by}
use Rattle.plan_project.specs.Sources.{entry_at, source_in, Below, OpenedBy}
use Rattle.plan_project.specs.Following.{strayed_at, turned, step_in, opens_in, numbers_in, dead_end_in, project_by}

-- ---- the table at a number
pub small-entry : (sources : List ℕ) (k : ℕ) → entry_at sources k < 32 → k < 3200
small-entry sources k = go (ltb k 3200) refl
  where
    go : (b : Bool) → ltb k 3200 ≡ b → cond b (get_or sources k 0) 32 < 32 → k < 3200
    go true e h = ltb-true k 3200 e
    go false e h = absurd (omega arith)

module _ (sources : List ℕ) (k : ℕ) {a : ℕ} (e : a ≡ entry_at sources k) where
  pub its-source : a < 32 → source_in sources k ≡ some a
  its-source l = rw (← e, lt-ltb a 32 l) refl

  pub no_source : {count : ℕ} → Below count sources → count ≤ a → source_in sources k ≡ none
  no_source {count} B h = go (ltb a 32) refl
    where
      go : (b : Bool) → ltb a 32 ≡ b → source_in sources k ≡ none
      go true f = let w = B k a (its-source (ltb-true a 32 f)) in absurd (omega arith)
      go false f = rw (← e, f) refl

module _ (T : Table) (total : ℕ) (sources : List ℕ) (opening : ℕ → ℕ) where
  abbrev project : ℕ → ℕ → List ℕ → State → Answer (List ℕ)
  project = project_by T total sources opening

  -- ---- the definition, unfolded once
  pub at-the-end : (most i : ℕ) (x : State) → project_by T total sources opening most i [] x ≡ cond (goal_by T x) (given []) (refused 13 i)
  unfolding project_over
  at-the-end zero i x = refl
  at-the-end (suc most) i x = refl

  abbrev at_action : ℕ → ℕ → List ℕ → State → ℕ → Answer (List ℕ)
  at_action most i rest x a =
      if_any (step_in T x a)
      (λ y. past_macro total (numbers_in T opening x a) i rest (λ j later. then (project most j later y) (λ p. given (a ∷ p))))
      (cond (opens_in T x a) (into_macro total (dead_end_in T opening x a) i rest) (refused 12 i))

  at-a-number : (most i k : ℕ) (rest : List ℕ) (x : State)
      → project (suc most) i (k ∷ rest) x ≡ if_any (source_in sources k) (at_action most i (k ∷ rest) x) (strayed total i (k ∷ rest))
  unfolding project_over
  at-a-number most i k rest x = refl

  -- any bound will do that is no less than the length of the plan
  pub bounds : (most more i : ℕ) (q : List ℕ) (x : State) → length q ≤ most → length q ≤ more
      → project_by T total sources opening most i q x ≡ project_by T total sources opening more i q x
  bounds = bounds-agree total (step_in T) (goal_by T) (source_in sources) (numbers_in T opening) (dead_end_in T opening) (opens_in T) (λ s a. omega arith)

  module _ (q : List ℕ) (i k : ℕ) (is : k ≡ get_or q i 0) (h : i < length q) (x : State) where
    here : project (length q) i (drop i q) x ≡ if_any (source_in sources k) (at_action (length (drop (suc i) q)) i (drop i q) x) (strayed total i (drop i q))
    here =
        let c : drop i q ≡ k ∷ drop (suc i) q = drop-cons q i 0 h ∙ ap (λ (j : ℕ). j ∷ drop (suc i) q) (sym is) in
        bounds (length q) (length (drop i q)) i (drop i q) x (omega (arith, length-drop i q)) (omega arith)
        ∙ ap (λ (l : List ℕ). project (length l) i l x) c
        ∙ at-a-number (length (drop (suc i) q)) i k (drop (suc i) q) x
        ∙ ap (λ (l : List ℕ). if_any (source_in sources k) (at_action (length (drop (suc i) q)) i l x) (strayed total i l)) (sym c)

    -- no source action has the number at place i of the plan
    pub strays-here : source_in sources k ≡ none → project_by T total sources opening (length q) i (drop i q) x ≡ strayed_at total q i
    strays-here e = here ∙ rw e refl

-- ---- the source action at a place
step_is : (T : Table) (x : State) (a : ℕ) {b : Bool} {values' : List ℤ} {modes' : List ℕ}
    → Stepped T.variables T.modes (marks_of T.marks a) (numbers_of T.numbers a) (sums_of T.numbers) x.values x.modes b values' modes'
    → step_by T x a ≡ provided b (state values' modes')
step_is T x a S = rw (S.is, S.values_are, S.modes_are) (there (takes_by T x a))
  where
    there : (c : Bool) → provided c (after_by T x a) ≡ provided c (state (cond c (after_by T x a).values x.values) (cond c (after_by T x a).modes x.modes))
    there true = refl
    there false = refl

any-provided : {A B : Type 0} (b : Bool) (y : A) (f : A → B) (z : B) → if_any (provided b y) f z ≡ cond b (f y) z
any-provided true y f z = refl
any-provided false y f z = refl

module _ (T : Table) (total : ℕ) (sources : List ℕ) (opening : ℕ → ℕ) (O : OpenedBy opening sources) (q : List ℕ) (i k : ℕ) (is : k ≡ get_or q i 0)
    (h : i < length q) (x : State)
    (a : ℕ) (e : source_in sources k ≡ some a) (l : a < T.count) {b : Bool} {values' : List ℤ} {modes' : List ℕ}
    (S : Stepped T.variables T.modes (marks_of T.marks a) (numbers_of T.numbers a) (sums_of T.numbers) x.values x.modes b values' modes')
  where
    abbrev pub Behind : ℕ → List ℕ → Answer (List ℕ)
    Behind j later = then (project_by T total sources opening (length (drop (suc i) q)) j later (state values' modes')) (λ p. given (a ∷ p))

    -- it was tried, and its numbers are those of its strokes
    pub turns : project_by T total sources opening (length q) i (drop i q) x
        ≡ turned T.variables T.modes (marks_of T.marks a) (numbers_of T.numbers a) (sums_of T.numbers) x.values x.modes
        total i q k b Behind
    turns = here T total sources opening q i k is h x ∙ rw (e, lt-ltb a T.count l, step_is T x a S, O k a e) (any-provided b (state values' modes') _ _)
