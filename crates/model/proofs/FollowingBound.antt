-- The bound on the recursion of projecting by source steps: any that is no less than the length of the plan gives the same answer.
-- Assumes nothing.
use mathlib.Core.Path.{◌≡◌, refl, sym, ap, subst}
use Prim.Native.Nat.{ℕ, zero, suc, ◌+◌, ◌≤◌}
use native.Mathlib.Omega.{arith}
use mathlib.Core.Bool.{Bool, true, false, cond}
use mathlib.Core.Option.{Option, none, some}
use mathlib.Core.List.{List, [], ◌∷◌}
use lib.ListN.{length, length-drop, drop}
use lib.Dec.{T, eqb, eqb→eq}
use Rattle.answers.specs.Answer.{Answer, given, refused, then}
use Rattle.model.specs.Tasks.{SourceTask, State}
use Rattle.model.specs.Steps.{lower_bounds, upper_bounds, step_source, source_goal_holds}
use Rattle.model.specs.Stages.{source_number}
use Rattle.model.specs.Lowering.{lower_task}
use Rattle.model.specs.Following.{agreeing, if_any, strayed, strayed_after, into_macro, project_over, macro_numbers, dead_end_numbers, opens, project_from}

module _ {S : Type 0} (count : ℕ) (step : S → ℕ → Option S) (goal : S → Bool) (source_number : ℕ → Option ℕ) (numbers dead_end : S → ℕ → List ℕ) (opens_at : S → ℕ → Bool)
    (Some-number : (s : S) (a : ℕ) → 1 ≤ length (numbers s a)) where
  abbrev project : ℕ → ℕ → List ℕ → S → Answer (List ℕ)
  project = project_over count step goal source_number numbers dead_end opens_at

  at-the-end : (most i : ℕ) (s : S) → project most i [] s ≡ cond (goal s) (given []) (refused 13 i)
  unfolding project_over
  at-the-end zero i s = refl
  at-the-end (suc most) i s = refl

  pub bounds-agree : (most more i : ℕ) (q : List ℕ) (s : S) → length q ≤ most → length q ≤ more → project most i q s ≡ project more i q s
  unfolding project_over
  bounds-agree zero more i [] s l h = sym (at-the-end more i s)
  bounds-agree zero more i (k ∷ q) s l h = absurd (omega arith)
  bounds-agree (suc most) more i [] s l h = sym (at-the-end more i s)
  bounds-agree (suc most) zero i (k ∷ q) s l h = absurd (omega arith)
  bounds-agree (suc most) (suc more) i (k ∷ q) s l h = at (source_number k) (bounds-agree most more)
    where
      after : ℕ → ℕ → Option S → Answer (List ℕ)
      after bound a o = if_any o (λ y. cond (eqb (agreeing (numbers s a) (k ∷ q)) (length (numbers s a)))
          (then (project bound (i + agreeing (numbers s a) (k ∷ q)) (drop (agreeing (numbers s a) (k ∷ q)) (k ∷ q)) y) (λ p. given (a ∷ p)))
          (strayed_after count i (k ∷ q) (agreeing (numbers s a) (k ∷ q))))
          (cond (opens_at s a) (into_macro count (dead_end s a) i (k ∷ q)) (refused 12 i))

      past : (a : ℕ) (y : S) (d : ℕ) (b : Bool) → eqb d (length (numbers s a)) ≡ b → ((j : ℕ) (rest : List ℕ) (s : S) → length rest ≤ most → length rest ≤ more → project most j rest s ≡ project more j rest s)
          → cond b (then (project most (i + d) (drop d (k ∷ q)) y) (λ p. given (a ∷ p))) (strayed_after count i (k ∷ q) d) ≡ cond b (then (project more (i + d) (drop d (k ∷ q)) y) (λ p. given (a ∷ p))) (strayed_after count i (k ∷ q) d)
      past a y d true e ih = let w : d ≡ length (numbers s a) = eqb→eq d (length (numbers s a)) (subst T (sym e) tt) in
          ap (λ (v : Answer (List ℕ)). then v (λ p. given (a ∷ p))) (ih (i + d) (drop d (k ∷ q)) y (omega (arith, length-drop d (k ∷ q), Some-number s a)) (omega (arith, length-drop d (k ∷ q), Some-number s a)))
      past a y d false e ih = refl

      on : (a : ℕ) (o : Option S) → ((j : ℕ) (rest : List ℕ) (s : S) → length rest ≤ most → length rest ≤ more → project most j rest s ≡ project more j rest s) → after most a o ≡ after more a o
      on a none ih = refl
      on a (some y) ih = past a y (agreeing (numbers s a) (k ∷ q)) (eqb (agreeing (numbers s a) (k ∷ q)) (length (numbers s a))) refl ih

      at : (o : Option ℕ) → ((j : ℕ) (rest : List ℕ) (s : S) → length rest ≤ most → length rest ≤ more → project most j rest s ≡ project more j rest s)
          → if_any o (λ a. after most a (step s a)) (strayed count i (k ∷ q)) ≡ if_any o (λ a. after more a (step s a)) (strayed count i (k ∷ q))
      at none ih = refl
      at (some a) ih = on a (step s a) ih

-- of a task
pub any-bound-will-do : (t : SourceTask) (most i : ℕ) (q : List ℕ) (x : State) → length q ≤ most → project_from t most i q x ≡ project_from t (length q) i q x
any-bound-will-do t most i q x l =
    bounds-agree (length (lower_task t).actions) (step_source t) (source_goal_holds t) (source_number (lower_bounds t) (upper_bounds t) t.actions)
    (macro_numbers t) (dead_end_numbers t) (opens t)
    (λ s a. omega arith) most (length q) i q x l (omega arith)
