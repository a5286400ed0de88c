-- What the decoded values say, in the words of the model.
-- Assumes nothing.
use Rattle.std.specs.Prelude.{◌≡◌, ℕ, ◌≤◌, List, ◌++◌, map, length, take, ℤ, pos}
use Rattle.integers.specs.Relation.{relation_of}
use Rattle.integers.specs.All.{All}
use Rattle.commands.specs.declared.Command.{Command}
use Rattle.model.specs.Tasks.{Measured, variable, weighted_sum, NumericCondition, Effect, add_effect, linear_effect, quotient_effect, residue_effect}
use Rattle.model.specs.Tasks.{SourceAction, RestrictedAction}
use Rattle.model.specs.Decoding.{conditions_of, mode_conditions_of, mode_effects_of, effects_of}
use Rattle.model.specs.Limits.{source_limits}
use Rattle.file_parts.specs.Layout.{condition_room, mode_condition_room, mode_effect_room, addition_room}
use Rattle.file_parts.specs.Row.{conditions_in, mode_conditions_in, mode_effects_in, Says}
use Rattle.file_parts.specs.With.{source_part}
use Rattle.file_actions.specs.declared.Term.{Term}
use Rattle.file_actions.specs.declared.Effect.{Effect as DecodedEffect}
use Rattle.file_actions.specs.declared.Effect.TheVariants.{None, Add, Linear, Quotient, Residue}
use Rattle.file_actions.specs.declared.NumericEffect.{NumericEffect}
use Rattle.file_actions.specs.declared.Effects.{Effects}
use Rattle.file_actions.specs.declared.SumCondition.{SumCondition}
use Rattle.file_actions.specs.declared.SumConditions.{SumConditions}

-- for how many effects and conditions on sums there is room, and for how many terms of each; for the other parts see file_parts, specs/Layout
abbrev pub effect_room : ℕ
effect_room = source_limits.numeric_effects

abbrev pub sum_room : ℕ
sum_room = source_limits.sums

abbrev pub term_room : ℕ
term_room = source_limits.terms

-- the first n of terms
abbrev pub term_is : Term → ℕ × ℤ
term_is t = (t.variable, t.weight)

abbrev pub terms_is : ℕ → List Term → List (ℕ × ℤ)
terms_is n terms = map term_is (take n terms)

-- an effect, with the terms that stand beside it. A place that holds none would add 0, which no command of an accepted file does
abbrev pub effect_is : DecodedEffect → List (ℕ × ℤ) → Effect
effect_is None terms = add_effect 0 (pos 0)
effect_is (Add target c) terms = add_effect target c
effect_is (Linear target w) terms = linear_effect target w terms
effect_is (Quotient target operand c) terms = quotient_effect target operand c
effect_is (Residue target operand c) terms = residue_effect target operand c

abbrev pub numeric_is : NumericEffect → Effect
numeric_is e = effect_is e.effect (terms_is e.term_count e.terms)

-- the first so many of the places are effects
abbrev pub effects_is : Effects → List Effect
effects_is r = map numeric_is (take r.count r.places)

-- a condition on a sum, and the first so many of the places
abbrev pub sum_is : SumCondition → NumericCondition ℕ
sum_is k = record { measured = weighted_sum (terms_is k.term_count k.terms); relation = relation_of k.relation; constant = k.constant }

abbrev pub sums_is : SumConditions → List (NumericCondition ℕ)
sums_is s = map sum_is (take s.count s.places)

-- their terms alone
abbrev pub sum_terms_is : SumConditions → List (List (ℕ × ℤ))
sum_terms_is s = map (λ (k : SumCondition). terms_is k.term_count k.terms) (take s.count s.places)

-- a source action but for its K: its parts row, and its effects
abbrev pub plain_is : List ℕ → List ℤ → Effects → SourceAction
plain_is marks numbers r = record {
  mode_conditions = mode_conditions_in marks;
  conditions = conditions_in marks numbers;
  mode_effects = mode_effects_in marks;
  effects = effects_is r;
}

-- with more conditions behind its own
abbrev pub with_sum_conditions : SourceAction → List (NumericCondition ℕ) → SourceAction
with_sum_conditions a ks = record {
  mode_conditions = a.mode_conditions;
  conditions = a.conditions ++ ks;
  mode_effects = a.mode_effects;
  effects = a.effects;
}

-- whole: its K behind its C
abbrev pub source_action_is : List ℕ → List ℤ → Effects → SumConditions → SourceAction
source_action_is marks numbers r s = with_sum_conditions (plain_is marks numbers r) (sums_is s)

-- the action of commands, but for its K
abbrev pub plain_action_of : List Command → SourceAction
plain_action_of cs = record {
  mode_conditions = mode_conditions_of cs;
  conditions = conditions_of cs;
  mode_effects = mode_effects_of cs;
  effects = effects_of cs;
}

-- as much of an action as there is room for
abbrev pub fitting_effect : Effect → Effect
fitting_effect (add_effect target c) = add_effect target c
fitting_effect (linear_effect target w terms) = linear_effect target w (take term_room terms)
fitting_effect (quotient_effect target operand c) = quotient_effect target operand c
fitting_effect (residue_effect target operand c) = residue_effect target operand c

abbrev pub fitting_measure : Measured ℕ → Measured ℕ
fitting_measure (variable i) = variable i
fitting_measure (weighted_sum terms) = weighted_sum (take term_room terms)

abbrev pub fitting_sum : NumericCondition ℕ → NumericCondition ℕ
fitting_sum k = record { measured = fitting_measure k.measured; relation = k.relation; constant = k.constant }

abbrev pub fitting_source : SourceAction → SourceAction
fitting_source a = record {
  mode_conditions = take mode_condition_room a.mode_conditions;
  conditions = take condition_room a.conditions;
  mode_effects = take mode_effect_room a.mode_effects;
  effects = take effect_room (map fitting_effect a.effects);
}

abbrev pub fitting_restricted : RestrictedAction → RestrictedAction
fitting_restricted a = record {
  mode_conditions = take mode_condition_room a.mode_conditions;
  conditions = take condition_room a.conditions;
  mode_effects = take mode_effect_room a.mode_effects;
  additions = take addition_room a.additions;
}

-- rows and effects say the source action a, which has no K; the row has no +
pub record SourceDecoded (a : SourceAction) (marks : List ℕ) (numbers : List ℤ) (r : Effects) : Type 0 where
  pub parts : Says (source_part a) marks numbers
  pub effects : effects_is r ≡ a.effects
  pub few : r.count ≤ effect_room
  pub terms_few : All (λ (e : NumericEffect). e.term_count ≤ term_room) r.places

-- places say as many of the conditions on sums ks as there is room for
pub record SumsDecoded (ks : List (NumericCondition ℕ)) (s : SumConditions) : Type 0 where
  pub are : sums_is s ≡ take sum_room (map fitting_sum ks)
  pub few : s.count ≤ sum_room
  pub long : length s.places ≡ sum_room
  pub terms_few : All (λ (k : SumCondition). k.term_count ≤ term_room) s.places
