-- Wherever each source step becomes one forced walk from rest, to rest or to a dead end: judging a restricted plan and keeping its source numbers
-- is comparing the plan, source step by source step, with the walks.
-- Assumes nothing.
use mathlib.Core.Path.{◌≡◌, refl, sym, ap, ap₂, ◌∙◌, subst}
use mathlib.Core.Logic.{inl, inr}
use Prim.Native.Nat.{ℕ, zero, suc, ◌+◌, ◌≤◌, ◌<◌}
use native.Mathlib.Omega.{arith}
use mathlib.Core.Bool.{Bool, true, false, cond}
use mathlib.Core.Option.{Option, none, some}
use mathlib.Core.List.{List, [], ◌∷◌, ◌++◌}
use lib.ListN.{length, length-drop, drop}
use lib.Dec.{T, eqb, eqb→eq}
use borrow.Author.Tests.{lt-ltb, eq-eqb}
use Rattle.integers.specs.All.{All}
use Rattle.answers.specs.Answer.{Answer, given, refused, then}
use Rattle.model.specs.Systems.{keep}
use Rattle.model.specs.Walks.{Forced, Stuck, Outcome, not_opened, hangs, completes, Lowers}
use Rattle.model.specs.Judging.{judge}
use Rattle.model.specs.Following.{agreeing, if_any, strayed, strayed_after, past_macro, into_macro, project_over}
use Rattle.model.proofs.Pairing.{none-not-some, keep-quiet}
use Rattle.model.proofs.FollowingWalks.{agreeing-whole, agreeing-few, agreeing-first, next_place, then-made, judged_as, strays, judge-step, judge-along, judge-leaves}

module _ {S X : Type 0} (source_step_of : S → ℕ → Option S) (step : X → ℕ → Option X) (Rest : X → Type 0) (at_rest : S → X) (Good : S → Type 0)
    (opening : ℕ → ℕ) (source_number : ℕ → Option ℕ) (stage_steps : S → ℕ → List ℕ) (price : S → ℕ → ℕ) (dead_end : S → ℕ → List ℕ)
    (count : ℕ) (source_goal : S → Bool) (goal : X → Bool) (opens : S → ℕ → Bool) where
  -- what is asked of a source system and its lowering, of R's count of actions, of the two goals, and of `opens`
  pub record Projects : Type 0 where
    pub lowers : Lowers source_step_of step Rest at_rest Good opening source_number stage_steps price dead_end
    pub counted : (x : X) (k : ℕ) (y : X) → step x k ≡ some y → k < count
    pub goal_rests : (x : X) → T (goal x) → Rest x
    pub goals_agree : (s : S) → goal (at_rest s) ≡ source_goal s
    -- what applies at rest has a source number, and is that action's opening
    pub from_rest : (s : S) (k : ℕ) (y : X) → step (at_rest s) k ≡ some y → (a : ℕ) × (source_number k ≡ some a)
    pub numbers : (k a : ℕ) → source_number k ≡ some a → (opening a ≡ k) × (k < count)
    -- `opens` says, of an action that doesn't apply, whether its opening does
    pub hanging : (s : S) → Good s → (a : ℕ) (y : X) → source_step_of s a ≡ none → step (at_rest s) (opening a) ≡ some y → opens s a ≡ true
    pub unopened : (s : S) → Good s → (a : ℕ) → ((y : X) → ¬ (step (at_rest s) (opening a) ≡ some y)) → opens s a ≡ false

  module _ (P : Projects) where
    abbrev numbers_of : S → ℕ → List ℕ
    numbers_of s a = opening a ∷ stage_steps s a

    abbrev dead_end_of : S → ℕ → List ℕ
    dead_end_of s a = opening a ∷ dead_end s a

    abbrev projected : ℕ → ℕ → List ℕ → S → Answer (List ℕ)
    projected = project_over count source_step_of source_goal source_number numbers_of dead_end_of opens

    abbrev kept : List ℕ → ℕ → List ℕ → X → Answer (List ℕ)
    kept = judged_as count step goal

    -- one source step and what follows
    abbrev onward : ℕ → ℕ → S → ℕ → List ℕ → Answer (List ℕ)
    onward most a y j rest = then (projected most j rest y) (λ p. given (a ∷ p))

    abbrev answer : S → ℕ → ℕ → ℕ → List ℕ → ℕ → Option S → Answer (List ℕ)
    answer s most i k q a o =
        if_any o (λ y. past_macro count (numbers_of s a) i (k ∷ q) (onward most a y)) (cond (opens s a) (into_macro count (dead_end_of s a) i (k ∷ q)) (refused 12 i))

    module _ (s : S) (g : Good s) (most i k : ℕ) (q : List ℕ) (a : ℕ) (number-of-k : source_number k ≡ some a) where
      opened : (c : List ℕ) (y : X) → step (at_rest s) (opening a) ≡ some y → kept c i (k ∷ q) (at_rest s) ≡ kept c (suc i) q y
      opened c y e = ap (λ (v : Answer (ℕ × X)). then v (λ w. given c)) (judge-step count step goal Rest P.counted i k q (at_rest s) y (subst (λ (n : ℕ). step (at_rest s) n ≡ some y) (P.numbers k a number-of-k).0 e))

      not_opened_lem : (c : List ℕ) → source_step_of s a ≡ none → ((y : X) → ¬ (step (at_rest s) (opening a) ≡ some y)) → kept c i (k ∷ q) (at_rest s) ≡ answer s most i k q a (source_step_of s a)
      not_opened_lem c n off = strays count step goal Rest c i k q (at_rest s) (λ y e. off y (subst (λ (n : ℕ). step (at_rest s) n ≡ some y) (sym (P.numbers k a number-of-k).0) e))
          ∙ rw (lt-ltb k count (P.numbers k a number-of-k).1, n, P.unopened s g a off) refl

      hung : (c : List ℕ) (y z : X) → source_step_of s a ≡ none → step (at_rest s) (opening a) ≡ some y → Forced step Rest y (dead_end s a) z → Stuck step Rest z → kept c i (k ∷ q) (at_rest s) ≡ answer s most i k q a (source_step_of s a)
      hung c y z n e f st = opened c y e ∙ judge-leaves count step goal Rest P.counted P.goal_rests c (dead_end s a) q (suc i) y z f (inr st)
          ∙ ap (λ (j : ℕ). strayed count j (drop (agreeing (dead_end s a) q) q)) (next_place i (agreeing (dead_end s a) q))
          ∙ sym (ap (answer s most i k q a) n
          ∙ ap (λ (b : Bool). cond b (into_macro count (dead_end_of s a) i (k ∷ q)) (refused 12 i)) (P.hanging s g a y n e)
          ∙ ap (strayed_after count i (k ∷ q)) (agreeing-first (opening a) k (dead_end s a) q (P.numbers k a number-of-k).0))

      completed : (s' : S) (y : X) → source_step_of s a ≡ some s' → Good s' → step (at_rest s) (opening a) ≡ some y → Forced step Rest y (stage_steps s a) (at_rest s') → All (λ (n : ℕ). source_number n ≡ none) (stage_steps s a) → length q ≤ most
          → ((j : ℕ) (rest : List ℕ) → length rest ≤ most → kept (keep source_number rest) j rest (at_rest s') ≡ projected most j rest s') → kept (keep source_number (k ∷ q)) i (k ∷ q) (at_rest s) ≡ answer s most i k q a (source_step_of s a)
      completed s' y es g' e f qu l ih = opened (keep source_number (k ∷ q)) y e ∙ go (eqb (suc (agreeing ks q)) (suc (length ks))) refl ∙ sym (ap (answer s most i k q a) es ∙ ap there (agreeing-first (opening a) k ks q (P.numbers k a number-of-k).0))
        where
          ks : List ℕ
          ks = stage_steps s a

          there : ℕ → Answer (List ℕ)
          there d = cond (eqb d (suc (length ks))) (onward most a s' (i + d) (drop d (k ∷ q))) (strayed_after count i (k ∷ q) d)

          whole : agreeing ks q ≡ length ks → kept (keep source_number (k ∷ q)) (suc i) q y ≡ onward most a s' (i + suc (agreeing ks q)) (drop (agreeing ks q) q)
          whole w = rw w (
              ap₂ (λ (c : List ℕ) (v : Answer (ℕ × X)). then v (λ w. given c)) keeps (ap (λ (r : List ℕ). judge count step goal (suc i) r y) (sym parts) ∙ judge-along count step goal Rest P.counted ks rest (suc i) y (at_rest s') f)
              ∙ then-made (judge count step goal (suc i + length ks) rest (at_rest s')) (keep source_number rest) (λ p. a ∷ p)
              ∙ ap (λ (v : Answer (List ℕ)). then v (λ p. given (a ∷ p))) (ih (suc i + length ks) rest (omega (arith, length-drop (length ks) q)))
              ∙ ap (λ (j : ℕ). onward most a s' j rest) (next_place i (length ks)))
            where
              rest : List ℕ
              rest = drop (length ks) q

              parts : ks ++ rest ≡ q
              parts = agreeing-whole ks q w

              keeps : keep source_number (k ∷ q) ≡ a ∷ keep source_number rest
              keeps = rw number-of-k (ap (λ (r : List ℕ). a ∷ r) (ap (keep source_number) (sym parts) ∙ keep-quiet source_number ks rest qu))

          go : (b : Bool) → eqb (suc (agreeing ks q)) (suc (length ks)) ≡ b → kept (keep source_number (k ∷ q)) (suc i) q y ≡ cond b (onward most a s' (i + suc (agreeing ks q)) (drop (agreeing ks q) q)) (strayed count (i + suc (agreeing ks q)) (drop (agreeing ks q) q))
          go true w = let same : suc (agreeing ks q) ≡ suc (length ks) = eqb→eq (suc (agreeing ks q)) (suc (length ks)) (subst T (sym w) tt) in whole (omega arith)
          go false w = judge-leaves count step goal Rest P.counted P.goal_rests (keep source_number (k ∷ q)) ks q (suc i) y (at_rest s') f (inl (off (λ e. subst T (sym (eq-eqb (suc (agreeing ks q)) (suc (length ks)) (ap suc e)) ∙ w) tt)))
              ∙ ap (λ (j : ℕ). strayed count j (drop (agreeing ks q) q)) (next_place i (agreeing ks q))
            where
              off : ¬ (agreeing ks q ≡ length ks) → agreeing ks q < length ks
              off n = omega (arith, n, agreeing-few ks q)

    at-end : (i : ℕ) (s : S) → kept [] i [] (at_rest s) ≡ cond (source_goal s) (given []) (refused 13 i)
    unfolding judge
    at-end i s = rw (P.goals_agree s) (go (source_goal s))
      where
        go : (b : Bool) → then (cond {A = Answer (ℕ × X)} b (given (i, at_rest s)) (refused 13 i)) (λ v. given []) ≡ cond {A = Answer (List ℕ)} b (given []) (refused 13 i)
        go true = refl
        go false = refl

    -- from rest: what judging the plan refuses, or else its source numbers. The bound is enough where it is no less than the plan's length
    pub judging-is-following : (most i : ℕ) (q : List ℕ) (s : S) → Good s → length q ≤ most → kept (keep source_number q) i q (at_rest s) ≡ projected most i q s
    unfolding judge project_over
    judging-is-following zero i [] s g l = at-end i s
    judging-is-following zero i (k ∷ q) s g l = absurd (omega arith)
    judging-is-following (suc most) i [] s g l = at-end i s
    judging-is-following (suc most) i (k ∷ q) s g l = go (source_number k) refl (λ j rest y g' l'. judging-is-following most j rest y g' l')
      where
        go : (o : Option ℕ) → source_number k ≡ o → ((j : ℕ) (rest : List ℕ) (y : S) → Good y → length rest ≤ most → kept (keep source_number rest) j rest (at_rest y) ≡ projected most j rest y)
            → kept (keep source_number (k ∷ q)) i (k ∷ q) (at_rest s) ≡ if_any o (λ a. answer s most i k q a (source_step_of s a)) (strayed count i (k ∷ q))
        go none e ih = strays count step goal Rest (keep source_number (k ∷ q)) i k q (at_rest s) (λ y w. none-not-some e (P.from_rest s k y w).1)
        go (some a) e ih = on (P.lowers.outcomes s g a)
          where
            on : Outcome source_step_of step Rest at_rest Good opening source_number stage_steps price dead_end s a → kept (keep source_number (k ∷ q)) i (k ∷ q) (at_rest s) ≡ answer s most i k q a (source_step_of s a)
            on (not_opened n off) = not_opened_lem s g most i k q a e (keep source_number (k ∷ q)) n off
            on (hangs y z n w f st) = hung s g most i k q a e (keep source_number (k ∷ q)) y z n w f st
            on (completes s' y es g' w f _ qu _) = completed s g most i k q a e s' y es g' w f qu (omega arith) (λ j rest. ih j rest s' g')
