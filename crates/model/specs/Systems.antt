-- Plans over a step that may not apply: `step x k` is the state after action k in state x, or none where k doesn't apply there.
-- Assumes nothing.
use Rattle.std.specs.Prelude.{ℕ, zero, suc, ◌+◌, Bool, true, false, cond, List, [], ◌∷◌, ◌++◌}
use Rattle.std.proofs.Math.Option.{Option, none, some}

abbrev pub bind : {A B : Type 0} → Option A → (A → Option B) → Option B
bind none f = none
bind (some a) f = f a

abbrev pub or_empty : {A : Type 0} → Option A → (A → List ℕ) → List ℕ
or_empty none f = []
or_empty (some a) f = f a

abbrev pub or_zero : {A : Type 0} → Option A → (A → ℕ) → ℕ
or_zero none f = zero
or_zero (some a) f = f a

-- a, where the test holds
abbrev pub provided : {A : Type 0} → Bool → A → Option A
provided true a = some a
provided false a = none

-- the steps of a plan, one after the other
abbrev pub run_plan : {X : Type 0} → (X → ℕ → Option X) → List ℕ → X → Option X
run_plan step [] x = some x
run_plan step (k ∷ ks) x = bind (step x k) (run_plan step ks)

-- a step that also asks that the state before and the state after pass a test
abbrev pub guarded : {X : Type 0} → (X → Bool) → (X → ℕ → Option X) → X → ℕ → Option X
guarded ok step x k = bind (step x k) (λ y. cond (ok x) (cond (ok y) (some y) none) none)

-- the numbers that have another by `rename`, so renamed, in their order; the rest is dropped
abbrev pub keep : (ℕ → Option ℕ) → List ℕ → List ℕ
keep rename [] = []
keep rename (k ∷ ks) = or_empty (rename k) (λ a. a ∷ []) ++ keep rename ks

-- ---- what each step of a plan becomes: action a in state s the number `opening a`, then the numbers `stage_steps s a`
abbrev pub expand_from : {S : Type 0} → (S → ℕ → Option S) → (ℕ → ℕ) → (S → ℕ → List ℕ) → List ℕ → S → List ℕ
expand_from step opening stage_steps [] s = []
expand_from step opening stage_steps (a ∷ p) s = opening a ∷ (stage_steps s a ++ or_empty (step s a) (expand_from step opening stage_steps p))

-- the sum of what each step of a plan costs, over the state before it
abbrev pub total_price : {S : Type 0} → (S → ℕ → Option S) → (S → ℕ → ℕ) → List ℕ → S → ℕ
total_price step price [] s = zero
total_price step price (a ∷ p) s = price s a + or_zero (step s a) (total_price step price p)

-- ---- "for each source step its single action or its opening, then, while control is not 0, the one action that applies"
-- the one action of `count` that applies, and the state after it
abbrev pub or_next : {X : Type 0} → Option X → ℕ → Option (ℕ × X) → Option (ℕ × X)
or_next none n r = r
or_next (some y) n r = some (n, y)

abbrev pub sole_applying : {X : Type 0} → (X → ℕ → Option X) → X → ℕ → Option (ℕ × X)
sole_applying step x zero = none
sole_applying step x (suc n) = or_next (step x n) n (sole_applying step x n)

-- the next step of a plan and the steps behind it, where one is left
abbrev pub next_step : List ℕ → (ℕ → List ℕ → List ℕ) → List ℕ
next_step [] f = []
next_step (a ∷ p) f = f a p

-- from state x, at most so many actions in all: at rest the opening of the plan's next step, elsewhere the one action that applies
abbrev pub follow_plan : {X : Type 0} → (X → ℕ → Option X) → (X → Bool) → (ℕ → ℕ) → ℕ → ℕ → List ℕ → X → List ℕ
follow_plan step at_rest opening count zero p x = []
follow_plan step at_rest opening count (suc most) p x = cond (at_rest x)
    (next_step p (λ a rest. opening a ∷ or_empty (step x (opening a)) (follow_plan step at_rest opening count most rest)))
    (or_empty (sole_applying step x count) (λ n. n.0 ∷ follow_plan step at_rest opening count most p n.1))
