-- What a source step becomes, by its strokes: its numbers, how many they are, and how many restricted actions there are in all.
-- Assumes nothing.
use mathlib.Core.Path.{◌≡◌, refl, sym, ap, ap₂, ◌∙◌}
use Prim.Native.Nat.{ℕ, suc, ◌+◌, ◌-◌}
use native.Mathlib.Omega.{arith}
use native.Mathlib.Numerals.{add-one}
use mathlib.Core.Bool.{true, false, ◌&&◌}
use mathlib.Core.Option.{Option, some}
use mathlib.Core.List.{List, [], ◌∷◌}
use lib.ListN.{length, take, get_elem?, length-append}
use lib.IntN.{ℤ}
use Rattle.model.specs.Tasks.{SourceAction, SourceTask, State}
use Rattle.model.specs.Steps.{integer_at, natural_at, modes_hold, conditions_hold, within_bounds, results, lower_bounds, upper_bounds}
use Rattle.model.specs.InTask.{Distinct, targets}
use Rattle.model.specs.Systems.{or_empty}
use Rattle.model.specs.Stages.{Stage, macro, opening, lower_actions, stages_of}
use Rattle.model.specs.Lowering.{lower_task}
use Rattle.model.specs.Expansion.{opened_values, stage_walk}
use Rattle.model.specs.Following.{makes_macro, macro_numbers, dead_end_numbers, opens}
use Rattle.model.specs.NamedSystems.{stages_price}
use Rattle.model.proofs.DeadEnd.{first_outside, entered, dead-end-is-a-front}
use Rattle.model.proofs.MacroPlace.{macro-length}
use Rattle.model.proofs.LoweredOk.{lowered-length}
use Rattle.plan_strokes.specs.Strokes.{strokes_of, macro_steps, step_numbers, price_of_strokes}
use Rattle.plan_strokes.proofs.Walks.{walk_is_lem, steps-length, stages-many, front-price}
use Rattle.plan_project.specs.Following.{strokes_walked, dead_end_walk}

-- ---- the numbers of a step
pub strokes-length : (o : ℕ) (zs : List ℤ) → length (step_numbers o zs) ≡ price_of_strokes zs
strokes-length o zs = omega (arith, steps-length (o + 1) zs)

module _ (t : SourceTask) (x : State) (k : ℕ) (a : SourceAction) (e : get_elem? t.actions k ≡ some a) where
  abbrev v : ℕ → ℤ
  v = integer_at x.values

  abbrev number : ℕ
  number = opening (lower_bounds t) (upper_bounds t) t.actions k

  pub opens-is : opens t x k
      ≡ (makes_macro a.effects && (modes_hold a.mode_conditions (natural_at x.modes) && conditions_hold a.conditions (integer_at x.values)))
  opens-is = rw e refl

  module _ (once : Distinct (targets a.effects)) where
    pub macro-numbers : macro_numbers t x k
        ≡ step_numbers (opening (lower_bounds t) (upper_bounds t) t.actions k) (strokes_of a.effects (integer_at x.values))
    macro-numbers =
        ap (λ (l : List ℕ). number ∷ l)
        (ap (λ (b : Option SourceAction). or_empty b (λ c. stage_walk (suc number) (stages_of (lower_bounds t) (upper_bounds t) c.effects) (opened_values c v))) e
        ∙ walk_is_lem (lower_bounds t) (upper_bounds t) a v once (suc number)
        ∙ ap (λ (b : ℕ). macro_steps b (strokes_of a.effects v)) (sym (add-one number)))

    -- where one of its results is out of bounds: those up to where it hangs
    pub dead_end_lem : makes_macro a.effects ≡ true → within_bounds (lower_bounds t) (upper_bounds t) (results a.effects (integer_at x.values)) ≡ false
        → dead_end_numbers t x k
        ≡ dead_end_walk (opening (lower_bounds t) (upper_bounds t) t.actions k) (length a.effects)
        (first_outside (lower_bounds t) (upper_bounds t) (results a.effects (integer_at x.values))) (strokes_of a.effects (integer_at x.values))
    dead_end_lem several out =
        dead-end-is-a-front t x k a e several once out
        ∙ ap₂ take (ap (λ (j : ℕ). stages_price (take j stages) (opened_values a v)) far ∙ priced) macro-numbers
      where
        stages : List Stage
        stages = stages_of (lower_bounds t) (upper_bounds t) a.effects

        zs : List ℤ
        zs = strokes_of a.effects v

        walked : ℕ
        walked = strokes_walked (length zs) (length a.effects) (first_outside (lower_bounds t) (upper_bounds t) (results a.effects v))

        far : entered t x k a e several once out ≡ walked
        far = omega (arith, stages-many (lower_bounds t) (upper_bounds t) a v once)

        priced : stages_price (take walked stages) (opened_values a v) ≡ price_of_strokes (take walked zs) - 1
        priced = omega (arith, front-price (lower_bounds t) (upper_bounds t) a v once walked)

-- ---- how many restricted actions there are
module _ (lower upper : ℕ → ℤ) where
  past-the-last : (s : ℕ) (acts : List SourceAction) → opening lower upper acts (length acts) ≡ length (lower_actions lower upper s acts)
  past-the-last s [] = refl
  past-the-last s (a ∷ acts) =
      ap₂ ◌+◌ (sym (macro-length lower upper s a)) (past-the-last (s + length (stages_of lower upper a.effects)) acts)
      ∙ sym (length-append (macro lower upper s a) (lower_actions lower upper (s + length (stages_of lower upper a.effects)) acts))

pub all-actions : (t : SourceTask) → opening (lower_bounds t) (upper_bounds t) t.actions (length t.actions) ≡ length (lower_task t).actions
all-actions t = past-the-last (lower_bounds t) (upper_bounds t) 1 t.actions ∙ sym (lowered-length t)
