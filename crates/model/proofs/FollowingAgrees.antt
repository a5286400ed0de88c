-- Judging goes the same way over two systems that go together, and over a step whose guard never bites; so does projecting told by source steps.
-- Assumes nothing.
use mathlib.Core.Path.{◌≡◌, refl, ap, ◌∙◌, fun_ext}
use Prim.Native.Nat.{ℕ, zero, suc, ◌+◌, ◌≤◌}
use native.Mathlib.Omega.{arith}
use mathlib.Core.Bool.{Bool, true, false, cond}
use mathlib.Core.Option.{Option, none, some}
use mathlib.Core.List.{List, [], ◌∷◌}
use lib.ListN.{length}
use lib.Dec.{ltb}
use Rattle.answers.specs.Answer.{Answer, given, refused, then}
use Rattle.model.specs.Systems.{bind, guarded}
use Rattle.model.specs.Judging.{if_applies, judge}
use Rattle.model.specs.Following.{if_any, strayed, past_macro, into_macro, project_over}
use Rattle.model.proofs.NumberedPairing.{Agree}
use Rattle.model.proofs.FollowingWalks.{judged_as}

module _ {X Y : Type 0} (Sim : X → Y → Type 0) (step_x : X → ℕ → Option X) (step_y : Y → ℕ → Option Y) (steps : (x : X) (y : Y) (k : ℕ) → Sim x y → Agree Sim (step_x x k) (step_y y k))
    (goal_x : X → Bool) (goal_y : Y → Bool) (goals : (x : X) (y : Y) → Sim x y → goal_x x ≡ goal_y y) where
  -- what two judges refuse
  pub judges-agree : (count : ℕ) (c q : List ℕ) (i : ℕ) (x : X) (y : Y) → Sim x y → judged_as count step_x goal_x c i q x ≡ judged_as count step_y goal_y c i q y
  unfolding judge
  judges-agree count c [] i x y s = rw (goals x y s) (go (goal_y y))
    where
      go : (b : Bool) → then (cond {A = Answer (ℕ × X)} b (given (i, x)) (refused 13 i)) (λ v. given c) ≡ then (cond {A = Answer (ℕ × Y)} b (given (i, y)) (refused 13 i)) (λ v. given c)
      go true = refl
      go false = refl
  judges-agree count c (k ∷ q) i x y s = go (ltb k count) (step_x x k) (step_y y k) (steps x y k s) (judges-agree count c q (suc i))
    where
      go : (b : Bool) (o : Option X) (o' : Option Y) → Agree Sim o o' → ((x : X) (y : Y) → Sim x y → judged_as count step_x goal_x c (suc i) q x ≡ judged_as count step_y goal_y c (suc i) q y)
          → then (cond b (if_applies o i (judge count step_x goal_x (suc i) q)) (refused 11 i)) (λ v. given c) ≡ then (cond b (if_applies o' i (judge count step_y goal_y (suc i) q)) (refused 11 i)) (λ v. given c)
      go false o o' a ih = refl
      go true none none a ih = refl
      go true none (some y) a ih = absurd a
      go true (some x) none a ih = absurd a
      go true (some x) (some y) a ih = ih x y a

  -- what projecting by source steps answers
  pub projections-agree : (count : ℕ) (source_number : ℕ → Option ℕ)
      (numbers_x : X → ℕ → List ℕ) (numbers_y : Y → ℕ → List ℕ) → ((x : X) (y : Y) (a : ℕ) → Sim x y → numbers_x x a ≡ numbers_y y a)
      → (opens_x : X → ℕ → Bool) (opens_y : Y → ℕ → Bool) → ((x : X) (y : Y) (a : ℕ) → Sim x y → opens_x x a ≡ opens_y y a)
      → (dead_end_x : X → ℕ → List ℕ) (dead_end_y : Y → ℕ → List ℕ)
      → ((x : X) (y : Y) (a : ℕ) → Sim x y → step_y y a ≡ none → opens_y y a ≡ true → dead_end_x x a ≡ dead_end_y y a)
      → (most i : ℕ) (q : List ℕ) (x : X) (y : Y) → Sim x y
      → project_over count step_x goal_x source_number numbers_x dead_end_x opens_x most i q x ≡ project_over count step_y goal_y source_number numbers_y dead_end_y opens_y most i q y
  unfolding project_over
  projections-agree count source_number numbers_x numbers_y n opens_x opens_y o dead_end_x dead_end_y d zero i [] x y s = ap (λ (b : Bool). cond b (given []) (refused 13 i)) (goals x y s)
  projections-agree count source_number numbers_x numbers_y n opens_x opens_y o dead_end_x dead_end_y d zero i (k ∷ q) x y s = refl
  projections-agree count source_number numbers_x numbers_y n opens_x opens_y o dead_end_x dead_end_y d (suc most) i [] x y s = ap (λ (b : Bool). cond b (given []) (refused 13 i)) (goals x y s)
  projections-agree count source_number numbers_x numbers_y n opens_x opens_y o dead_end_x dead_end_y d (suc most) i (k ∷ q) x y s = at (source_number k) (λ j rest. projections-agree count source_number numbers_x numbers_y n opens_x opens_y o dead_end_x dead_end_y d most j rest)
    where
      project_x : ℕ → List ℕ → X → Answer (List ℕ)
      project_x = project_over count step_x goal_x source_number numbers_x dead_end_x opens_x most

      project_y : ℕ → List ℕ → Y → Answer (List ℕ)
      project_y = project_over count step_y goal_y source_number numbers_y dead_end_y opens_y most

      after_x : ℕ → Option X → List ℕ → Answer (List ℕ) → Answer (List ℕ)
      after_x a o ns = if_any o (λ z. past_macro count ns i (k ∷ q) (λ j rest. then (project_x j rest z) (λ p. given (a ∷ p))))

      after_y : ℕ → Option Y → List ℕ → Answer (List ℕ) → Answer (List ℕ)
      after_y a o ns = if_any o (λ z. past_macro count ns i (k ∷ q) (λ j rest. then (project_y j rest z) (λ p. given (a ∷ p))))

      -- where action a doesn't apply
      shut : List ℕ → Bool → Answer (List ℕ)
      shut ds b = cond b (into_macro count ds i (k ∷ q)) (refused 12 i)

      both-shut : (a : ℕ) → step_y y a ≡ none → shut (dead_end_x x a) (opens_x x a) ≡ shut (dead_end_y y a) (opens_y y a)
      both-shut a e = ap (shut (dead_end_x x a)) (o x y a s) ∙ go (opens_y y a) refl
        where
          go : (b : Bool) → opens_y y a ≡ b → shut (dead_end_x x a) b ≡ shut (dead_end_y y a) b
          go true f = ap (λ (ds : List ℕ). shut ds true) (d x y a s e f)
          go false f = refl

      on : (a : ℕ) (ns : List ℕ) (u : Option X) (v : Option Y) → step_y y a ≡ v → Agree Sim u v
          → ((j : ℕ) (rest : List ℕ) (x : X) (y : Y) → Sim x y → project_x j rest x ≡ project_y j rest y)
          → after_x a u ns (shut (dead_end_x x a) (opens_x x a)) ≡ after_y a v ns (shut (dead_end_y y a) (opens_y y a))
      on a ns none none e h ih = both-shut a e
      on a ns none (some y) e h ih = absurd h
      on a ns (some x) none e h ih = absurd h
      on a ns (some x) (some y) e h ih =
          ap (λ (f : ℕ → List ℕ → Answer (List ℕ)). past_macro count ns i (k ∷ q) (λ j rest. then (f j rest) (λ p. given (a ∷ p)))) (fun_ext (λ j. fun_ext (λ rest. ih j rest x y h)))

      at : (number-of-k : Option ℕ) → ((j : ℕ) (rest : List ℕ) (x : X) (y : Y) → Sim x y → project_x j rest x ≡ project_y j rest y)
          → if_any number-of-k (λ a. after_x a (step_x x a) (numbers_x x a) (shut (dead_end_x x a) (opens_x x a))) (strayed count i (k ∷ q))
          ≡ if_any number-of-k (λ a. after_y a (step_y y a) (numbers_y y a) (shut (dead_end_y y a) (opens_y y a))) (strayed count i (k ∷ q))
      at none ih = refl
      at (some a) ih = ap (λ (ns : List ℕ). after_x a (step_x x a) ns (shut (dead_end_x x a) (opens_x x a))) (n x y a s) ∙ on a (numbers_y y a) (step_x x a) (step_y y a) refl (steps x y a s) ih

-- a test that no state fails within the limit changes no verdict
module _ {X : Type 0} (count : ℕ) (step : X → ℕ → Option X) (goal : X → Bool) (ok : X → Bool) (Inv : ℕ → X → Type 0) (limit : ℕ)
    (up : (i : ℕ) (x y : X) (k : ℕ) → Inv i x → step x k ≡ some y → Inv (suc i) y) (fine : (i : ℕ) (x : X) → i ≤ limit → Inv i x → ok x ≡ true) where
  pub guarded-judge : (q : List ℕ) (i : ℕ) (x : X) → i + length q ≤ limit → Inv i x → judge count (guarded ok step) goal i q x ≡ judge count step goal i q x
  unfolding judge
  guarded-judge [] i x l v = refl
  guarded-judge (k ∷ q) i x l v = go (step x k) refl (λ y. guarded-judge q (suc i) y (omega arith))
    where
      go : (o : Option X) → step x k ≡ o → ((y : X) → Inv (suc i) y → judge count (guarded ok step) goal (suc i) q y ≡ judge count step goal (suc i) q y)
          → cond (ltb k count) (if_applies (bind o (λ y. cond (ok x) (cond (ok y) (some y) none) none)) i (judge count (guarded ok step) goal (suc i) q)) (refused 11 i)
          ≡ cond (ltb k count) (if_applies o i (judge count step goal (suc i) q)) (refused 11 i)
      go none e ih = refl
      go (some y) e ih = rw (fine i x (omega arith) v, fine (suc i) y (omega arith) (up i x y k v e)) (ap (λ (a : Answer (ℕ × X)). cond (ltb k count) a (refused 11 i)) (ih y (up i x y k v e)))
