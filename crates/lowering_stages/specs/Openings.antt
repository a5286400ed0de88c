-- What the opening or single action has besides the parts of its source action.
-- Assumes nothing.
use Rattle.std.specs.Prelude.{ℕ, cond, List, [], ◌∷◌, ◌++◌, eqb, ℤ, pos, ◌-ℤ◌}
use Rattle.std.specs.Int.Signed.{lt_z}
use Rattle.model.specs.Tasks.{NumericCondition, Effect, RestrictedAction}
use Rattle.model.specs.Stages.{added_bound, opening_additions}
use Rattle.model.specs.Lowering.{numbered_additions, numbered_conditions}
use Rattle.file_parts.specs.With.{condition}

-- "c > 0 variable ≤ upper − c; c < 0 variable ≥ lower − c"
abbrev pub bound_is : ℕ → ℤ → ℤ → ℤ → NumericCondition ℕ
bound_is t c lower upper = cond (lt_z (pos 0) c) (condition t 1 (upper -ℤ c)) (condition t 2 (lower -ℤ c))

-- an action with the bound more and the + of the opening of these effects, A being variable a, and the bounds of all variables given
abbrev pub with_numeric : ℕ → (ℕ → ℤ) → (ℕ → ℤ) → List Effect → RestrictedAction → RestrictedAction
with_numeric a lower upper es x = record {
  mode_conditions = x.mode_conditions;
  conditions = x.conditions ++ numbered_conditions a (added_bound lower upper es);
  mode_effects = x.mode_effects;
  additions = x.additions ++ numbered_additions a (opening_additions es);
}

-- an action with control, mode m, at 0 before it and at `next` after
abbrev pub with_control : ℕ → ℕ → RestrictedAction → RestrictedAction
with_control m next x = record {
  mode_conditions = x.mode_conditions ++ ((m, 0) ∷ []);
  conditions = x.conditions;
  mode_effects = x.mode_effects ++ cond (eqb 0 next) [] ((m, next) ∷ []);
  additions = x.additions;
}

-- with both: the opening or single action
abbrev pub with_opening : ℕ → ℕ → ℕ → (ℕ → ℤ) → (ℕ → ℤ) → List Effect → RestrictedAction → RestrictedAction
with_opening a m next lower upper es x = with_control m next (with_numeric a lower upper es x)
