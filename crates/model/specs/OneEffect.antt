-- Document 01 by itself, where an action has one numeric effect or none and no condition is on a sum: how it reads an action, and its lowering, in
-- which R has no helpers but A and B. What keeps of it in such files is said in proofs/SingleEffects and proofs/SingleReading.
-- Assumes nothing.
use Rattle.std.specs.Prelude.{◌≡◌, ℕ, zero, suc, ◌+◌, false, cond, List, [], ◌∷◌, ◌++◌, map, eqb, length, ℤ, pos, ◌-ℤ◌}
use Rattle.std.proofs.Math.Option.{Option, none, some}
use Rattle.std.specs.Int.Signed.{lt_z}
use Rattle.integers.specs.Relation.{at_most, at_least}
use Rattle.commands.specs.Table.{letter_l, letter_t, letter_q, letter_r, plus_sign}
use Rattle.commands.specs.declared.Command.{Command}
use Rattle.commands.specs.Encoding.{byte_of}
use Rattle.model.specs.Tasks.{NumericCondition, Effect, add_effect, linear_effect, quotient_effect, residue_effect, SourceAction, SourceTask, RestrictedTask}
use Rattle.model.specs.Rules.{constant}
use Rattle.model.specs.Decoding.{those, actions_of, goal_of, operand, amount_of, variables_of, modes_of, conditions_of, mode_conditions_of, mode_effects_of}
use Rattle.model.specs.Steps.{lower_bounds, upper_bounds, source_start}
use Rattle.model.specs.Stages.{Name, source, helper_a, helper_b, NamedAction, Stage, when, drain, refill, divide, empty, clear, move, drain_terms, add_to_a}
use Rattle.model.specs.Stages.{first_stage, stages_actions, on_source_variables, several}
use Rattle.model.specs.FourRelations.{all_in_four_relations, in_four}
use Rattle.model.specs.Lowering.{numbered_all}

-- ---- document 01's reading of an action: its first numeric effect, an L with the T behind it
abbrev pub effect_of_one : List Command → Option Effect
effect_of_one [] = none
effect_of_one (c ∷ cs) =
    cond (eqb (byte_of c) plus_sign) (some (add_effect (operand c 0) (constant (operand c 1))))
    (cond (eqb (byte_of c) letter_l) (some (linear_effect (operand c 0) (constant (operand c 1)) (map amount_of (those letter_t cs))))
    (cond (eqb (byte_of c) letter_q) (some (quotient_effect (operand c 0) (operand c 1) (constant (operand c 2))))
    (cond (eqb (byte_of c) letter_r) (some (residue_effect (operand c 0) (operand c 1) (constant (operand c 2))))
    (effect_of_one cs))))

abbrev pub one_or_none : Option Effect → List Effect
one_or_none none = []
one_or_none (some e) = e ∷ []

abbrev pub action_of_one : List Command → SourceAction
action_of_one cs = record {
  mode_conditions = mode_conditions_of cs;
  conditions = conditions_of cs;
  mode_effects = mode_effects_of cs;
  effects = one_or_none (effect_of_one cs);
}

abbrev pub task_of_one : List Command → SourceTask
task_of_one cs = record {
  variables = variables_of cs;
  modes = modes_of cs;
  actions = map action_of_one (actions_of cs);
  goal_modes = mode_conditions_of (goal_of cs);
  goal_conditions = conditions_of (goal_of cs);
}

-- ---- the lowering of tasks whose actions have one numeric effect or none
abbrev pub the_effect : List Effect → Option Effect
the_effect [] = none
the_effect (e ∷ es) = some e

-- what the opening or the single action adds: c, or "A += w0 where w0 is not 0"
abbrev pub additions_of_one : Option Effect → List (Name × ℤ)
additions_of_one none = []
additions_of_one (some (add_effect t c)) = (source t, c) ∷ []
additions_of_one (some (linear_effect t w ts)) = add_to_a w
additions_of_one (some (quotient_effect t y c)) = []
additions_of_one (some (residue_effect t y c)) = []

module _ (lower upper : ℕ → ℤ) where
  -- the stages, in order; none where the action stays one action
  abbrev pub stages_of_one : Option Effect → List Stage
  stages_of_one none = []
  stages_of_one (some (add_effect t c)) = []
  stages_of_one (some (linear_effect t w ts)) = drain_terms ts (clear t ∷ move t helper_a (lower t) (upper t) ∷ [])
  stages_of_one (some (quotient_effect t y c)) =
      drain y (pos 1) ∷ refill y ∷ divide c ∷ empty helper_a ∷ clear t ∷ move t helper_b (lower t) (upper t) ∷ []
  stages_of_one (some (residue_effect t y c)) =
      drain y (pos 1) ∷ refill y ∷ divide c ∷ empty helper_b ∷ clear t ∷ move t helper_a (lower t) (upper t) ∷ []

  -- "with one bound more: c > 0 variable ≤ upper − c; c < 0 variable ≥ lower − c"
  abbrev pub bound_of_one : Option Effect → List (NumericCondition Name)
  bound_of_one none = []
  bound_of_one (some (add_effect t c)) = cond (lt_z (pos 0) c) (when (source t) at_most (upper t -ℤ c)) (when (source t) at_least (lower t -ℤ c)) ∷ []
  bound_of_one (some (linear_effect t w ts)) = []
  bound_of_one (some (quotient_effect t y c)) = []
  bound_of_one (some (residue_effect t y c)) = []

  abbrev pub opening_of_one : ℕ → SourceAction → NamedAction
  opening_of_one s a = record {
    control = zero;
    mode_conditions = a.mode_conditions;
    conditions = on_source_variables a.conditions ++ bound_of_one (the_effect a.effects);
    mode_effects = a.mode_effects;
    next_control = first_stage s (stages_of_one (the_effect a.effects));
    additions = additions_of_one (the_effect a.effects);
  }

  abbrev pub macro_of_one : ℕ → SourceAction → List NamedAction
  macro_of_one s a = opening_of_one s a ∷ stages_actions s (stages_of_one (the_effect a.effects))

  abbrev pub lower_actions_of_one : ℕ → List SourceAction → List NamedAction
  lower_actions_of_one s [] = []
  lower_actions_of_one s (a ∷ acts) = macro_of_one s a ++ lower_actions_of_one (s + length (stages_of_one (the_effect a.effects))) acts

  abbrev pub stage_count_of_one : List SourceAction → ℕ
  stage_count_of_one [] = zero
  stage_count_of_one (a ∷ acts) = length (stages_of_one (the_effect a.effects)) + stage_count_of_one acts

-- "R has T's n variables, then A (number n) and B (n+1), both starting at 0; T's modes, then one more, control"
abbrev pub lower_task_of_one : SourceTask → RestrictedTask
lower_task_of_one t = record {
  starts = (source_start t).values ++ (pos 0 ∷ pos 0 ∷ []);
  modes = t.modes ++ ((suc (stage_count_of_one (lower_bounds t) (upper_bounds t) t.actions), 0) ∷ []);
  actions = map in_four (numbered_all (length t.variables) (length t.modes) (lower_actions_of_one (lower_bounds t) (upper_bounds t) 1 t.actions));
  goal_modes = t.goal_modes ++ ((length t.modes, 0) ∷ []);
  goal_conditions = all_in_four_relations t.goal_conditions;
}

-- ---- an action with one numeric effect or none
abbrev pub Single : SourceAction → Type 0
Single a = several a.effects ≡ false
