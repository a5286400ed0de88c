-- Restricted actions made part by part.
-- Assumes nothing.
use Rattle.std.specs.Prelude.{ℕ, List, [], ◌∷◌, ◌++◌, ℤ}
use Rattle.integers.specs.Relation.{relation_of}
use Rattle.model.specs.Tasks.{variable, NumericCondition, SourceAction, RestrictedAction}

abbrev pub condition : ℕ → ℕ → ℤ → NumericCondition ℕ
condition v r c = record { measured = variable v; relation = relation_of r; constant = c }

-- no part
abbrev pub blank_action : RestrictedAction
blank_action = record { mode_conditions = []; conditions = []; mode_effects = []; additions = [] }

abbrev pub with_condition : RestrictedAction → NumericCondition ℕ → RestrictedAction
with_condition a c = record {
  mode_conditions = a.mode_conditions;
  conditions = a.conditions ++ (c ∷ []);
  mode_effects = a.mode_effects;
  additions = a.additions;
}

abbrev pub with_mode_condition : RestrictedAction → ℕ × ℕ → RestrictedAction
with_mode_condition a p = record {
  mode_conditions = a.mode_conditions ++ (p ∷ []);
  conditions = a.conditions;
  mode_effects = a.mode_effects;
  additions = a.additions;
}

abbrev pub with_mode_effect : RestrictedAction → ℕ × ℕ → RestrictedAction
with_mode_effect a e = record {
  mode_conditions = a.mode_conditions;
  conditions = a.conditions;
  mode_effects = a.mode_effects ++ (e ∷ []);
  additions = a.additions;
}

abbrev pub with_addition : RestrictedAction → ℕ × ℤ → RestrictedAction
with_addition a e = record {
  mode_conditions = a.mode_conditions;
  conditions = a.conditions;
  mode_effects = a.mode_effects;
  additions = a.additions ++ (e ∷ []);
}

-- several more
abbrev pub with_conditions : RestrictedAction → List (NumericCondition ℕ) → RestrictedAction
with_conditions a cs = record { mode_conditions = a.mode_conditions; conditions = a.conditions ++ cs; mode_effects = a.mode_effects; additions = a.additions }

abbrev pub with_additions : RestrictedAction → List (ℕ × ℤ) → RestrictedAction
with_additions a es = record { mode_conditions = a.mode_conditions; conditions = a.conditions; mode_effects = a.mode_effects; additions = a.additions ++ es }

-- of a source action what it shares with a restricted one: its conditions and mode effects
abbrev pub source_part : SourceAction → RestrictedAction
source_part a = record { mode_conditions = a.mode_conditions; conditions = a.conditions; mode_effects = a.mode_effects; additions = [] }
