-- The steps of a plan that its bytes were counted to have: they are its numbers, at most 1,000,000, and as many as half its bytes.
-- Assumes nothing.
use mathlib.Core.Path.{◌≡◌, refl}
use Prim.Native.Nat.{ℕ, ◌*◌, ◌%◌, ◌≤◌}
use native.Mathlib.Omega.{arith}
use mathlib.Core.Bool.{Bool, true, false, cond}
use mathlib.Core.List.{List}
use lib.Dec.{eqb, ltb}
use lib.ListN.{length}
use borrow.Author.Tests.{ltb-false}
use Rattle.answers.specs.Answer.{Answer, given, refused, then}
use Rattle.lists.specs.Numbers.{halves}
use Rattle.lists.proofs.Numbers.{length-halves}
use Rattle.model.specs.Plans.{read_plan, plan_numbers}
use Rattle.plan_bytes.specs.Counted.{count_of}

pub steps_of : (plan : List ℕ) (n : ℕ) → given n ≡ count_of plan → (read_plan plan ≡ given (plan_numbers plan)) × (n ≡ length (plan_numbers plan))
unfolding read_plan
steps_of plan n = go (eqb (length plan % 2) 1) (ltb 2_000_000 (length plan))
  where
    go : (a b : Bool) → given n ≡ then (cond a (refused 10 (length plan)) (cond b (refused 10 (length plan)) (given (plan_numbers plan)))) (λ p. given (length p))
        → (cond a (refused 10 (length plan)) (cond b (refused 10 (length plan)) (given (plan_numbers plan))) ≡ given (plan_numbers plan)) × (n ≡ length (plan_numbers plan))
    go true b e = let z : ◌≡◌ {A = ℕ} 0 1 = cc in absurd (omega arith)
    go false true e = let z : ◌≡◌ {A = ℕ} 0 1 = cc in absurd (omega arith)
    go false false e = (refl, cc)

pub few-steps : (plan : List ℕ) (n : ℕ) → given n ≡ count_of plan → n ≤ 1_000_000
unfolding read_plan
few-steps plan n = go (eqb (length plan % 2) 1) (ltb 2_000_000 (length plan)) refl
  where
    go : (a b : Bool) → ltb 2_000_000 (length plan) ≡ b → given n ≡ then (cond a (refused 10 (length plan)) (cond b (refused 10 (length plan)) (given (plan_numbers plan)))) (λ p. given (length p)) → n ≤ 1_000_000
    go true b q e = let z : ◌≡◌ {A = ℕ} 0 1 = cc in absurd (omega arith)
    go false true q e = let z : ◌≡◌ {A = ℕ} 0 1 = cc in absurd (omega arith)
    go false false q e = let s : n ≡ length (plan_numbers plan) = cc in omega (arith, ltb-false 2_000_000 (length plan) q, length-halves plan)

pub no_steps : (plan : List ℕ) (number place : ℕ) → refused number place ≡ count_of plan → read_plan plan ≡ refused number place
no_steps plan number place = go (read_plan plan)
  where
    go : (o : Answer (List ℕ)) → refused number place ≡ then o (λ p. given (length p)) → o ≡ refused number place
    go (given p) e = let z : ◌≡◌ {A = ℕ} 0 1 = cc in absurd (omega arith)
    go (refused a b) e = cc

-- a plan's bytes are at least twice its steps
pub halves_long : (plan : List ℕ) → 2 * length (halves plan) ≤ length plan
halves_long plan = omega (arith, length-halves plan)
