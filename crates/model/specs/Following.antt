-- What projecting answers, told by source steps alone: a restricted plan is compared with the numbers that each source step becomes, and is
-- refused at the first that differs. No restricted state is needed for it. (proofs/Following: this is what judging the plan against R gives.)
-- Assumes nothing.
use Rattle.std.specs.Prelude.{ℕ, zero, suc, ◌+◌, Bool, true, false, cond, ◌&&◌, List, [], ◌∷◌, length, drop, eqb, ltb}
use Rattle.std.proofs.Math.Option.{Option, none, some}
use Rattle.std.proofs.Math.ListN.{get_elem?}
use Rattle.answers.specs.Answer.{Answer, given, refused, then}
use Rattle.model.specs.Tasks.{Effect, add_effect, linear_effect, quotient_effect, residue_effect, SourceTask, State}
use Rattle.model.specs.Steps.{integer_at, natural_at, modes_hold, conditions_hold, step_source, source_goal_holds}
use Rattle.model.specs.Lowering.{lower_task}
use Rattle.model.specs.Expansion.{opening_of, source_number_of, stage_steps_of, dead_end_steps_of}

-- the length of the common front of two lists
abbrev pub agreeing : List ℕ → List ℕ → ℕ
agreeing [] ys = zero
agreeing (a ∷ xs) [] = zero
agreeing (a ∷ xs) (b ∷ ys) = cond (eqb a b) (suc (agreeing xs ys)) zero

abbrev pub if_any : {A B : Type 0} → Option A → (A → B) → B → B
if_any none f b = b
if_any (some a) f b = f a

-- What a judge of a task of `count` actions answers at step i, where the goal isn't met and the next number, if there is one, doesn't apply:
-- 13 where the plan ends, 11 or 12 where it goes on
abbrev pub strayed : {A : Type 0} → ℕ → ℕ → List ℕ → Answer A
strayed count i [] = refused 13 i
strayed count i (k ∷ ks) = cond (ltb k count) (refused 12 i) (refused 11 i)

-- the same d steps later
abbrev pub strayed_after : {A : Type 0} → ℕ → ℕ → List ℕ → ℕ → Answer A
strayed_after count i q d = strayed count (i + d) (drop d q)

-- the numbers ns, all of which apply one after the other and none besides: where the plan has them all, what follows; else astray
abbrev pub past_macro : {A : Type 0} → ℕ → List ℕ → ℕ → List ℕ → (ℕ → List ℕ → Answer A) → Answer A
past_macro count ns i q onward =
    cond (eqb (agreeing ns q) (length ns)) (onward (i + agreeing ns q) (drop (agreeing ns q) q)) (strayed_after count i q (agreeing ns q))

-- the numbers ns, all of which apply one after the other, and behind them nothing: astray, at the latest there
abbrev pub into_macro : {A : Type 0} → ℕ → List ℕ → ℕ → List ℕ → Answer A
into_macro count ns i q = strayed_after count i q (agreeing ns q)

-- Projecting from restricted step i on, at rest, in source state s. Action a becomes the numbers `macro_numbers s a`; where it doesn't apply,
-- `opens s a` says whether its opening does all the same, and `dead_end s a` are the numbers up to where nothing does. `most` bounds the
-- recursion: the length of the plan suffices
module _ {S : Type 0} (count : ℕ) (step : S → ℕ → Option S) (goal : S → Bool) (source_number : ℕ → Option ℕ)
    (macro_numbers dead_end : S → ℕ → List ℕ) (opens : S → ℕ → Bool) where
  unfoldable pub project_over : ℕ → ℕ → List ℕ → S → Answer (List ℕ)
  project_over zero i [] s = cond (goal s) (given []) (refused 13 i)
  project_over zero i (k ∷ q) s = refused 0 0
  project_over (suc most) i [] s = cond (goal s) (given []) (refused 13 i)
  project_over (suc most) i (k ∷ q) s =
      if_any (source_number k) (λ a.
      if_any (step s a)
      (λ y. past_macro count (macro_numbers s a) i (k ∷ q) (λ j rest. then (project_over most j rest y) (λ p. given (a ∷ p))))
      (cond (opens s a) (into_macro count (dead_end s a) i (k ∷ q)) (refused 12 i)))
      (strayed count i (k ∷ q))

-- ---- of a whole task
-- effects that make their action a macro
abbrev pub makes_macro : List Effect → Bool
makes_macro [] = false
makes_macro (add_effect t c ∷ []) = false
makes_macro (linear_effect t w ts ∷ []) = true
makes_macro (quotient_effect t y c ∷ []) = true
makes_macro (residue_effect t y c ∷ []) = true
makes_macro (e ∷ f ∷ es) = true

module _ (t : SourceTask) where
  -- the numbers in R that source action a becomes in state x
  abbrev pub macro_numbers : State → ℕ → List ℕ
  macro_numbers x a = opening_of t a ∷ stage_steps_of t x a

  -- the same where one of its results is out of bounds
  abbrev pub dead_end_numbers : State → ℕ → List ℕ
  dead_end_numbers x a = opening_of t a ∷ dead_end_steps_of t x a

  -- source action a becomes a macro, and its P and C hold in x
  abbrev pub opens : State → ℕ → Bool
  opens x a =
      if_any (get_elem? t.actions a)
      (λ act. makes_macro act.effects && (modes_hold act.mode_conditions (natural_at x.modes) && conditions_hold act.conditions (integer_at x.values)))
      false

  abbrev pub project_from : ℕ → ℕ → List ℕ → State → Answer (List ℕ)
  project_from = project_over (length (lower_task t).actions) (step_source t) (source_goal_holds t) (source_number_of t) macro_numbers dead_end_numbers opens
