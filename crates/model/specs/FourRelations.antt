-- M-100, relation 4: "Lowering writes it as ≥ then ≤ in its place, so restricted files keep four relations".
-- Assumes nothing.
use Rattle.std.specs.Prelude.{ℕ, List, [], ◌∷◌, ◌++◌, ℤ}
use Rattle.integers.specs.Relation.{Relation, below, at_most, at_least, above, equal}
use Rattle.model.specs.Tasks.{Measured, NumericCondition, RestrictedAction}

abbrev pub comparing : Measured ℕ → Relation → ℤ → NumericCondition ℕ
comparing i r k = record { measured = i; relation = r; constant = k }

abbrev pub in_four_relations : Measured ℕ → Relation → ℤ → List (NumericCondition ℕ)
in_four_relations i below k = comparing i below k ∷ []
in_four_relations i at_most k = comparing i at_most k ∷ []
in_four_relations i at_least k = comparing i at_least k ∷ []
in_four_relations i above k = comparing i above k ∷ []
in_four_relations i equal k = comparing i at_least k ∷ comparing i at_most k ∷ []

abbrev pub all_in_four_relations : List (NumericCondition ℕ) → List (NumericCondition ℕ)
all_in_four_relations [] = []
all_in_four_relations (c ∷ cs) = in_four_relations c.measured c.relation c.constant ++ all_in_four_relations cs

-- an action in the four relations
abbrev pub in_four : RestrictedAction → RestrictedAction
in_four x = record {
  mode_conditions = x.mode_conditions;
  conditions = all_in_four_relations x.conditions;
  mode_effects = x.mode_effects;
  additions = x.additions;
}
