-- Judging a plan along a forced walk: it goes on behind the walk where the plan has all of it, and is refused where the plan leaves it.
-- Assumes nothing.
use mathlib.Core.Path.{◌≡◌, refl, sym, ap, ap₂, ◌∙◌, subst}
use mathlib.Core.Logic.{◌⊎◌, inl, inr}
use Prim.Native.Nat.{ℕ, zero, suc, ◌+◌, ◌≤◌, ◌<◌, min}
use native.Mathlib.Nat.{add-zero, zero-add}
use native.Mathlib.Omega.{arith}
use mathlib.Core.Bool.{Bool, true, false, cond}
use mathlib.Core.Option.{Option, none, some}
use mathlib.Core.List.{List, [], ◌∷◌, ◌++◌}
use lib.ListN.{length, drop}
use lib.Dec.{T, eqb, eqb→eq, eqb_refl, ltb}
use borrow.Author.Tests.{lt-ltb, eq-eqb}
use Rattle.answers.specs.Answer.{Answer, given, refused, then}
use Rattle.model.specs.Walks.{Forced, Stuck}
use Rattle.model.specs.Judging.{judge}
use Rattle.model.specs.Following.{agreeing, strayed, strayed_after}

-- ---- the common front
pub agreeing-whole : (ks q : List ℕ) → agreeing ks q ≡ length ks → ks ++ drop (length ks) q ≡ q
agreeing-whole [] q e = refl
agreeing-whole (k ∷ ks) [] e = absurd (omega arith)
agreeing-whole (k ∷ ks) (j ∷ q) e = go (eqb k j) refl e (agreeing-whole ks q)
  where
    go : (b : Bool) → eqb k j ≡ b → cond b (suc (agreeing ks q)) zero ≡ suc (length ks) → (agreeing ks q ≡ length ks → ks ++ drop (length ks) q ≡ q) → k ∷ (ks ++ drop (length ks) q) ≡ j ∷ q
    go true s e ih = ap₂ (λ (n : ℕ) (l : List ℕ). n ∷ l) (eqb→eq k j (subst T (sym s) tt)) (ih (omega arith))
    go false s e ih = absurd (omega arith)

pub agreeing-front : (ks ls q : List ℕ) → min (agreeing (ks ++ ls) q) (length ks) ≡ agreeing ks q
agreeing-front [] ls q = omega arith
agreeing-front (k ∷ ks) ls [] = omega arith
agreeing-front (k ∷ ks) ls (j ∷ q) = go (eqb k j) (agreeing-front ks ls q)
  where
    go : (b : Bool) → min (agreeing (ks ++ ls) q) (length ks) ≡ agreeing ks q → min (cond b (suc (agreeing (ks ++ ls) q)) zero) (suc (length ks)) ≡ cond b (suc (agreeing ks q)) zero
    go true h = omega arith
    go false h = omega arith

pub agreeing-few : (ks q : List ℕ) → agreeing ks q ≤ length ks
agreeing-few [] q = omega arith
agreeing-few (k ∷ ks) [] = omega arith
agreeing-few (k ∷ ks) (j ∷ q) = go (eqb k j) (agreeing-few ks q)
  where
    go : (b : Bool) → agreeing ks q ≤ length ks → cond b (suc (agreeing ks q)) zero ≤ suc (length ks)
    go true h = omega arith
    go false h = omega arith

pub agreeing-there : (ks q : List ℕ) → agreeing ks q ≤ length q
agreeing-there [] q = omega arith
agreeing-there (k ∷ ks) [] = omega arith
agreeing-there (k ∷ ks) (j ∷ q) = go (eqb k j) (agreeing-there ks q)
  where
    go : (b : Bool) → agreeing ks q ≤ length q → cond b (suc (agreeing ks q)) zero ≤ suc (length q)
    go true h = omega arith
    go false h = omega arith

-- two lists one behind the other: past the first, or short of its end
pub agreeing-past : (ks ls q : List ℕ) → agreeing ks q ≡ length ks → agreeing (ks ++ ls) q ≡ length ks + agreeing ls (drop (length ks) q)
agreeing-past [] ls q e = sym (zero-add (agreeing ls q))
agreeing-past (k ∷ ks) ls [] e = absurd (omega arith)
agreeing-past (k ∷ ks) ls (j ∷ q) e = go (eqb k j) e (agreeing-past ks ls q)
  where
    go : (b : Bool) → cond b (suc (agreeing ks q)) zero ≡ suc (length ks) → (agreeing ks q ≡ length ks → agreeing (ks ++ ls) q ≡ length ks + agreeing ls (drop (length ks) q))
        → cond b (suc (agreeing (ks ++ ls) q)) zero ≡ suc (length ks) + agreeing ls (drop (length ks) q)
    go true e ih = let h : agreeing (ks ++ ls) q ≡ length ks + agreeing ls (drop (length ks) q) = ih (omega arith) in omega arith
    go false e ih = absurd (omega arith)

pub agreeing-short : (ks ls q : List ℕ) → agreeing ks q < length ks → agreeing (ks ++ ls) q ≡ agreeing ks q
agreeing-short ks ls q l = omega (arith, agreeing-front ks ls q)

-- a first number that is the plan's
pub agreeing-first : (n k : ℕ) (ks q : List ℕ) → n ≡ k → agreeing (n ∷ ks) (k ∷ q) ≡ suc (agreeing ks q)
agreeing-first n k ks q e = ap (λ (b : Bool). cond b (suc (agreeing ks q)) zero) (eq-eqb n k e)

-- the place after d steps more
pub next_place : (i d : ℕ) → suc i + d ≡ i + suc d
next_place i d = omega arith

-- ---- judging
-- a constant result, and what is made of it
pub then-made : {A B C : Type 0} (v : Answer A) (b : B) (f : B → C) → then v (λ w. given (f b)) ≡ then (then v (λ w. given b)) (λ c. given (f c))
then-made (given v) b f = refl
then-made (refused number place) b f = refl

-- what the judge refuses, or else c
abbrev pub judged_as : {X : Type 0} → ℕ → (X → ℕ → Option X) → (X → Bool) → List ℕ → ℕ → List ℕ → X → Answer (List ℕ)
judged_as count step goal c i q x = then (judge count step goal i q x) (λ v. given c)

module _ {X : Type 0} (count : ℕ) (step : X → ℕ → Option X) (goal : X → Bool) (Rest : X → Type 0) where
  none-applies : (x : X) (k : ℕ) → ((y : X) → ¬ (step x k ≡ some y)) → step x k ≡ none
  none-applies x k n = go (step x k) refl
    where
      go : (o : Option X) → step x k ≡ o → o ≡ none
      go none e = refl
      go (some y) e = absurd (n y e)

  pub strays : (c : List ℕ) (i k : ℕ) (q : List ℕ) (x : X) → ((y : X) → ¬ (step x k ≡ some y)) → judged_as count step goal c i (k ∷ q) x ≡ strayed count i (k ∷ q)
  unfolding judge
  strays c i k q x n = rw (none-applies x k n) (go (ltb k count))
    where
      go : (b : Bool) → then (cond {A = Answer (ℕ × X)} b (refused 12 i) (refused 11 i)) (λ v. given c) ≡ cond b (refused 12 i) (refused 11 i)
      go true = refl
      go false = refl

  module _ (counted : (x : X) (k : ℕ) (y : X) → step x k ≡ some y → k < count) where
    pub judge-step : (i k : ℕ) (q : List ℕ) (x y : X) → step x k ≡ some y → judge count step goal i (k ∷ q) x ≡ judge count step goal (suc i) q y
    unfolding judge
    judge-step i k q x y e = rw (lt-ltb k count (counted x k y e), e) refl

    -- the plan has the whole walk
    pub judge-along : (ks q : List ℕ) (i : ℕ) (x z : X) → Forced step Rest x ks z → judge count step goal i (ks ++ q) x ≡ judge count step goal (i + length ks) q z
    judge-along [] q i x z e = ap₂ (λ (n : ℕ) (u : X). judge count step goal n q u) (sym (add-zero i)) e
    judge-along (k ∷ ks) q i x z (y, b, o, e, f) =
        judge-step i k (ks ++ q) x y e ∙ judge-along ks q (suc i) y z f ∙ ap (λ (n : ℕ). judge count step goal n q z) (next_place i (length ks))

    module _ (goal-rests : (x : X) → T (goal x) → Rest x) where
      -- off rest the plan can't end
      ends-early : (c : List ℕ) (i : ℕ) (x : X) → ¬ (Rest x) → judged_as count step goal c i [] x ≡ refused 13 i
      unfolding judge
      ends-early c i x b = go (goal x) refl
        where
          go : (g : Bool) → goal x ≡ g → then (cond {A = Answer (ℕ × X)} g (given (i, x)) (refused 13 i)) (λ v. given c) ≡ refused 13 i
          go true e = absurd (b (goal-rests x (subst T (sym e) tt)))
          go false e = refl

      stuck-strays : (c : List ℕ) (i : ℕ) (q : List ℕ) (x : X) → Stuck step Rest x → judged_as count step goal c i q x ≡ strayed count i q
      stuck-strays c i [] x (b, n) = ends-early c i x b
      stuck-strays c i (k ∷ q) x (b, n) = strays c i k q x (n k)

      -- the plan leaves the walk before its end, or the walk ends where nothing applies
      pub judge-leaves : (c ks q : List ℕ) (i : ℕ) (x z : X) → Forced step Rest x ks z → (agreeing ks q < length ks) ⊎ Stuck step Rest z → judged_as count step goal c i q x ≡ strayed_after count i q (agreeing ks q)
      judge-leaves c [] q i x z e (inl l) = absurd (omega arith)
      judge-leaves c [] q i x z e (inr st) = stuck-strays c i q x (subst (Stuck step Rest) (sym e) st) ∙ ap (λ (n : ℕ). strayed count n q) (sym (add-zero i))
      judge-leaves c (k ∷ ks) [] i x z (y, b, o, e, f) h = ends-early c i x b ∙ ap (λ (n : ℕ). refused 13 n) (sym (add-zero i))
      judge-leaves c (k ∷ ks) (j ∷ q) i x z (y, b, o, e, f) h = go (eqb k j) refl h (judge-leaves c ks q (suc i) y z f)
        where
          earlier : (suc (agreeing ks q) < suc (length ks)) ⊎ Stuck step Rest z → (agreeing ks q < length ks) ⊎ Stuck step Rest z
          earlier (inl l) = inl (omega arith)
          earlier (inr st) = inr st

          go : (a : Bool) → eqb k j ≡ a → (cond a (suc (agreeing ks q)) zero < suc (length ks)) ⊎ Stuck step Rest z
              → ((agreeing ks q < length ks) ⊎ Stuck step Rest z → judged_as count step goal c (suc i) q y ≡ strayed_after count (suc i) q (agreeing ks q))
              → judged_as count step goal c i (j ∷ q) x ≡ strayed_after count i (j ∷ q) (cond a (suc (agreeing ks q)) zero)
          go true s h ih =
              ap (λ (a : Answer (ℕ × X)). then a (λ v. given c)) (judge-step i j q x y (subst (λ (n : ℕ). step x n ≡ some y) (eqb→eq k j (subst T (sym s) tt)) e))
              ∙ ih (earlier h) ∙ ap (λ (n : ℕ). strayed count n (drop (agreeing ks q) q)) (next_place i (agreeing ks q))
          go false s h ih = strays c i j q x (λ u w. off (o j u w)) ∙ ap (λ (n : ℕ). strayed count n (j ∷ q)) (sym (add-zero i))
            where
              off : j ≡ k → ⊥
              off w = subst T s (subst (λ (n : ℕ). T (eqb k n)) (sym w) (eqb_refl k))
