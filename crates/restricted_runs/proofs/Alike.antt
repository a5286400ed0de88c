-- Numbers of a plan that are alike: one is, and so are all that a run agrees with.
-- Assumes nothing.
use mathlib.Core.Path.{◌≡◌, refl, sym, ap, ◌∙◌}
use Prim.Native.Nat.{ℕ, zero, suc, ◌+◌, ◌-◌, ◌≤◌, ◌<◌}
use native.Mathlib.Nat.{add-zero}
use native.Mathlib.Omega.{arith}
use mathlib.Core.Bool.{Bool, true, false, cond}
use mathlib.Core.List.{List, [], ◌∷◌}
use lib.Dec.{eqb, ltb}
use lib.ListN.{length, get_or, drop, replicate, length-drop}
use lib.Seq.{get_or-drop}
use borrow.Author.Tests.{eqb-true, eq-eqb, ltb-true, ltb-false}
use Rattle.model.specs.Plans.{plan_numbers}
use Rattle.model.specs.Following.{agreeing}
use Rattle.restricted_runs.specs.Runs.{Alike, Counted}

-- ---- of a run of one number
agreeing-at : (c k : ℕ) (xs : List ℕ) (j : ℕ) → j < agreeing (replicate c k) xs → get_or xs j 0 ≡ k
agreeing-at zero k xs j h = absurd (omega arith)
agreeing-at (suc c) k [] j h = absurd (omega arith)
agreeing-at (suc c) k (x ∷ xs) j h = go (agreeing-at c k xs) (eqb k x) refl j h
  where
    go : ((j : ℕ) → j < agreeing (replicate c k) xs → get_or xs j 0 ≡ k) → (b : Bool) → eqb k x ≡ b → (j : ℕ)
        → j < cond b (suc (agreeing (replicate c k) xs)) zero → get_or (x ∷ xs) j 0 ≡ k
    go rest true q zero h = sym (eqb-true k x q)
    go rest true q (suc j) h = rest j (omega arith)
    go rest false q j h = absurd (omega arith)

agreeing-le : (c k : ℕ) (xs : List ℕ) → agreeing (replicate c k) xs ≤ length xs
agreeing-le zero k xs = omega arith
agreeing-le (suc c) k [] = omega arith
agreeing-le (suc c) k (x ∷ xs) = go (eqb k x) (agreeing-le c k xs)
  where
    go : (b : Bool) → agreeing (replicate c k) xs ≤ length xs → cond b (suc (agreeing (replicate c k) xs)) zero ≤ suc (length xs)
    go true h = omega arith
    go false h = omega arith

agreeing-some : (c k : ℕ) (xs : List ℕ) → 0 < c → 0 < length xs → get_or xs 0 0 ≡ k → 0 < agreeing (replicate c k) xs
agreeing-some zero k xs h l e = absurd (omega arith)
agreeing-some (suc c) k [] h l e = absurd (omega arith)
agreeing-some (suc c) k (x ∷ xs) h l e = rw (eq-eqb k x (sym e)) (omega arith)

-- ---- from a step on
module _ (k : ℕ) (plan : List ℕ) (from : ℕ) where
  pub alike-none : Alike k plan from 0
  alike-none j h = absurd (omega arith)

  pub alike-one : get_or (plan_numbers plan) from 0 ≡ k → Alike k plan from 1
  alike-one e j h = let z : from + j ≡ from = omega arith in ap (λ (i : ℕ). get_or (plan_numbers plan) i 0) z ∙ e

  pub alike_then : (m n : ℕ) → Alike k plan from m → Alike k plan (from + m) n → Alike k plan from (m + n)
  alike_then m n p q j h = go (ltb j m) refl
    where
      go : (b : Bool) → ltb j m ≡ b → get_or (plan_numbers plan) (from + j) 0 ≡ k
      go true e = p j (ltb-true j m e)
      go false e =
          let l : m ≤ j = ltb-false j m e in
          let z : from + j ≡ from + m + (j - m) = omega arith in
          ap (λ (i : ℕ). get_or (plan_numbers plan) i 0) z ∙ q (j - m) (omega arith)

-- ---- as many as a plan has
module _ {k : ℕ} {plan : List ℕ} {from steps : ℕ} (more : from < steps) (takes : get_or (plan_numbers plan) from 0 ≡ k) where
  pub counted-one : Counted k plan from steps 1
  counted-one = record {
    some = omega arith;
    there = omega arith;
    alike = alike-one k plan from takes;
  }

  pub counted-run : (left r : ℕ) → left ≡ steps - from → steps ≡ length (plan_numbers plan)
      → r ≡ agreeing (replicate left k) (drop from (plan_numbers plan)) → Counted k plan from steps r
  counted-run left r l s e =
      let n : length (drop from (plan_numbers plan)) ≡ length (plan_numbers plan) - from = length-drop from (plan_numbers plan) in
      record {
        some = omega (
          arith,
          agreeing-some left k (drop from (plan_numbers plan)) (omega arith) (omega (arith, n))
              (get_or-drop from (plan_numbers plan) 0 0 ∙ ap (λ (i : ℕ). get_or (plan_numbers plan) i 0) (add-zero from) ∙ takes),
        );
        there = omega (arith, agreeing-le left k (drop from (plan_numbers plan)), n);
        alike = λ j h. sym (get_or-drop from (plan_numbers plan) j 0) ∙ agreeing-at left k (drop from (plan_numbers plan)) j (omega (arith, e));
      }
