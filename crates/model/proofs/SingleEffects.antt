-- "Actions with one effect keep their stages, and tasks without a multiple effect keep their lowered bytes": where no action has several effects, and
-- no condition is on a sum, the lowered task and its bytes are those of document 01 by itself (specs/OneEffect); and an action that has not several
-- becomes the same macro whatever the others have.
-- Assumes nothing.
use mathlib.Core.Path.{◌≡◌, refl, ap, ap₂, ◌∙◌}
use Prim.Native.Nat.{ℕ, zero, suc, ◌+◌}
use native.Mathlib.Omega.{arith}
use mathlib.Core.Bool.{Bool, false, cond}
use mathlib.Core.List.{List, [], ◌∷◌, ◌++◌, append-nil, map}
use lib.ListN.{length}
use lib.IntN.{ℤ}
use Rattle.integers.specs.All.{All}
use Rattle.answers.specs.Answer.{Answer, given, then}
use Rattle.model.specs.Tasks.{Measured, variable, weighted_sum, NumericCondition, Effect, add_effect, linear_effect, quotient_effect, residue_effect}
use Rattle.model.specs.Tasks.{SourceAction, RestrictedAction, SourceTask, RestrictedTask}
use Rattle.model.specs.Steps.{lower_bounds, upper_bounds, source_start}
use Rattle.model.specs.Stages.{Stage}
use Rattle.model.specs.Stages.{first_stage, stages_actions, on_source_variables, stages_of, added_bound, opening_additions, macro, lower_actions}
use Rattle.model.specs.Stages.{stage_count, several, hold_count}
use Rattle.model.specs.FourRelations.{all_in_four_relations, in_four}
use Rattle.model.specs.Sums.{sum_in, sums_in, sums_of_actions, sums_of, sums_of_source, kept_variable, on_kept, kept, keeping_all}
use Rattle.model.specs.Sums.{sum_values, keep_sums}
use Rattle.model.specs.Lowering.{numbered_all, resting_helpers, lower_measuring, lower_task, encode_file, lower_file}
use Rattle.model.specs.Decoding.{read_source}
use Rattle.model.specs.Judging.{lower_bytes}
use Rattle.model.specs.OneEffect.{the_effect, additions_of_one, stages_of_one, bound_of_one, macro_of_one, lower_actions_of_one, stage_count_of_one, lower_task_of_one, Single}
use Rattle.model.proofs.ReadingLaws.{clash}
use Rattle.model.proofs.LoweredSums.{sums-in-file-order}

additions-kept : (es : List Effect) → several es ≡ false → opening_additions es ≡ additions_of_one (the_effect es)
additions-kept [] h = refl
additions-kept (add_effect t c ∷ []) h = refl
additions-kept (linear_effect t w ts ∷ []) h = refl
additions-kept (quotient_effect t y c ∷ []) h = refl
additions-kept (residue_effect t y c ∷ []) h = refl
additions-kept (e ∷ f ∷ es) h = absurd (clash h)

module _ (lower upper : ℕ → ℤ) where
  -- "Actions with one effect keep their stages"
  pub stages-kept : (es : List Effect) → several es ≡ false → stages_of lower upper es ≡ stages_of_one lower upper (the_effect es)
  stages-kept [] h = refl
  stages-kept (add_effect t c ∷ []) h = refl
  stages-kept (linear_effect t w ts ∷ []) h = refl
  stages-kept (quotient_effect t y c ∷ []) h = refl
  stages-kept (residue_effect t y c ∷ []) h = refl
  stages-kept (e ∷ f ∷ es) h = absurd (clash h)

  bound-kept : (es : List Effect) → several es ≡ false → added_bound lower upper es ≡ bound_of_one lower upper (the_effect es)
  bound-kept [] h = refl
  bound-kept (add_effect t c ∷ []) h = refl
  bound-kept (linear_effect t w ts ∷ []) h = refl
  bound-kept (quotient_effect t y c ∷ []) h = refl
  bound-kept (residue_effect t y c ∷ []) h = refl
  bound-kept (e ∷ f ∷ es) h = absurd (clash h)

  -- and with them all of their macro
  pub macro-kept : (s : ℕ) (a : SourceAction) → Single a → macro lower upper s a ≡ macro_of_one lower upper s a
  macro-kept s a h = λ i. record {
    control = zero;
    mode_conditions = a.mode_conditions;
    conditions = on_source_variables a.conditions ++ bound-kept a.effects h i;
    mode_effects = a.mode_effects;
    next_control = first_stage s (stages-kept a.effects h i);
    additions = additions-kept a.effects h i;
  } ∷ stages_actions s (stages-kept a.effects h i)

  actions-kept : (s : ℕ) (acts : List SourceAction) → All Single acts → lower_actions lower upper s acts ≡ lower_actions_of_one lower upper s acts
  actions-kept s [] h = refl
  actions-kept s (a ∷ acts) (h, hs) = ap₂ ◌++◌ (macro-kept s a h)
      (ap (λ (ds : List Stage). lower_actions lower upper (s + length ds) acts) (stages-kept a.effects h)
      ∙ actions-kept (s + length (stages_of_one lower upper (the_effect a.effects))) acts hs)

  count_kept : (acts : List SourceAction) → All Single acts → stage_count lower upper acts ≡ stage_count_of_one lower upper acts
  count_kept [] h = refl
  count_kept (a ∷ acts) (h, hs) = ap₂ ◌+◌ (ap length (stages-kept a.effects h)) (count_kept acts hs)

-- ---- a task without a multiple effect
pub no-hold : (acts : List SourceAction) → All Single acts → hold_count acts ≡ 0
no-hold [] h = refl
no-hold (a ∷ acts) (h, hs) = ap (λ (b : Bool). cond b 3 (hold_count acts)) h ∙ no-hold acts hs

-- ---- a task without a condition on a sum
front-none : {A : Type 0} (xs ys : List A) → xs ++ ys ≡ [] → xs ≡ []
front-none [] ys e = refl
front-none (x ∷ xs) ys e = absurd (omega (arith, ap length e))

rest-none : {A : Type 0} (xs ys : List A) → xs ++ ys ≡ [] → ys ≡ []
rest-none [] ys e = e
rest-none (x ∷ xs) ys e = absurd (omega (arith, ap length e))

conditions-stay : (cs : List (NumericCondition ℕ)) (j : ℕ) → sums_in cs ≡ [] → on_kept j cs ≡ cs
conditions-stay [] j e = refl
conditions-stay (c ∷ cs) j e = λ i. record {
  measured = own c.measured (front-none (sum_in c.measured) (sums_in cs) e) i;
  relation = c.relation;
  constant = c.constant;
} ∷ conditions-stay cs (j + length (sum_in c.measured)) (rest-none (sum_in c.measured) (sums_in cs) e) i
  where
    own : (m : Measured ℕ) → sum_in m ≡ [] → variable (kept_variable j m) ≡ m
    own (variable i) e = refl
    own (weighted_sum ts) e = absurd (omega (arith, ap length e))

actions-stay : (first j : ℕ) (acts : List RestrictedAction) → sums_of_actions acts ≡ [] → keeping_all first [] j acts ≡ map in_four acts
actions-stay first j [] e = refl
actions-stay first j (a ∷ acts) e = ap₂ ◌∷◌ (ap in_four stays)
    (actions-stay first (j + length (sums_in a.conditions)) acts (rest-none (sums_in a.conditions) (sums_of_actions acts) e))
  where
    stays : kept first [] j a ≡ a
    stays = λ i. record {
      mode_conditions = a.mode_conditions;
      conditions = conditions-stay a.conditions j (front-none (sums_in a.conditions) (sums_of_actions acts) e) i;
      mode_effects = a.mode_effects;
      additions = append-nil a.additions i;
    }

-- keeping its sums then only writes it in four relations
pub no-sum-kept : (r : RestrictedTask) → sums_of r ≡ [] → keep_sums r ≡ record {
  starts = r.starts;
  modes = r.modes;
  actions = map in_four r.actions;
  goal_modes = r.goal_modes;
  goal_conditions = all_in_four_relations r.goal_conditions;
}
no-sum-kept r e = λ i. record {
  starts = starts-stay i;
  modes = r.modes;
  actions = stay i;
  goal_modes = r.goal_modes;
  goal_conditions = all_in_four_relations (conditions-stay r.goal_conditions (length r.starts + length (sums_of_actions r.actions)) goal i);
}
  where
    goal : sums_in r.goal_conditions ≡ []
    goal = rest-none (sums_of_actions r.actions) (sums_in r.goal_conditions) e

    starts-stay : (keep_sums r).starts ≡ r.starts
    starts-stay = ap (λ (sums : List (List (ℕ × ℤ))). r.starts ++ sum_values sums r.starts) e ∙ append-nil r.starts

    stay : (keep_sums r).actions ≡ map in_four r.actions
    stay = ap (λ (sums : List (List (ℕ × ℤ))). keeping_all (length r.starts) sums (length r.starts) r.actions) e
        ∙ actions-stay (length r.starts) (length r.starts) r.actions (front-none (sums_of_actions r.actions) (sums_in r.goal_conditions) e)

-- ---- a task without either
pub lowered-task-kept : (t : SourceTask) → All Single t.actions → sums_of_source t ≡ [] → lower_task t ≡ lower_task_of_one t
lowered-task-kept t h k = no-sum-kept (lower_measuring t) (sums-in-file-order t ∙ k) ∙ (λ i. record {
  starts = (source_start t).values ++ resting_helpers (no-hold t.actions h i);
  modes = t.modes ++ ((suc (count_kept (lower_bounds t) (upper_bounds t) t.actions h i), 0) ∷ []);
  actions = map in_four (numbered_all (length t.variables) (length t.modes) (actions-kept (lower_bounds t) (upper_bounds t) 1 t.actions h i));
  goal_modes = t.goal_modes ++ ((length t.modes, 0) ∷ []);
  goal_conditions = all_in_four_relations t.goal_conditions;
})

-- "tasks without a multiple effect keep their lowered bytes"
pub lowered-bytes-kept : (t : SourceTask) → All Single t.actions → sums_of_source t ≡ [] → lower_file t ≡ encode_file (lower_task_of_one t)
lowered-bytes-kept t h k = ap encode_file (lowered-task-kept t h k)

-- of a file, by the call that lowers it
pub lowered-file-kept : (file : List ℕ) (t : SourceTask) → read_source file ≡ given t → All Single t.actions → sums_of_source t ≡ []
    → lower_bytes file ≡ given (encode_file (lower_task_of_one t))
lowered-file-kept file t e h k = ap (λ (r : Answer SourceTask). then r (λ u. given (lower_file u))) e ∙ ap given (lowered-bytes-kept t h k)
