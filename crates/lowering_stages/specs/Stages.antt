-- A stage of a macro as numbers, in the words of the model; and the actions that it says.
-- Assumes nothing.
use Rattle.std.specs.Prelude.{◌≡◌, ℕ, suc, ◌+◌, ◌*◌, ◌<◌, ◌≤◌, Bool, true, cond, List, [], ◌∷◌, ◌++◌, length, get_or, drop, eqb, ℤ, pos, negsuc, nat_abs, neg_ℤ, ◌-ℤ◌}
use Rattle.std.proofs.Math.Option.{some}
use Rattle.std.proofs.Math.ListN.{get_elem?}
use Rattle.integers.specs.All.{All}
use Rattle.lists.specs.Each.{tabulate}
use Rattle.model.specs.Tasks.{NumericCondition, Effect, add_effect, linear_effect, quotient_effect, residue_effect, RestrictedAction}
use Rattle.model.specs.Steps.{integer_at, natural_at}
use Rattle.model.specs.Limits.{source_limits}
use Rattle.model.specs.TaskOk.{InRange, EffectOk}
use Rattle.model.specs.Stages.{Stage, left_over, result_stages, hold_stages}
use Rattle.model.specs.Lowering.{number_of_name, numbered_additions, numbered_conditions}
use Rattle.file_actions.specs.declared.Term.{Term}
use Rattle.file_actions.specs.declared.NumericEffect.{NumericEffect}
use Rattle.file_actions.specs.declared.Effects.{Effects}
use Rattle.file_actions.specs.Views.{effect_room, term_room, numeric_is, effects_is}
use Rattle.file_parts.specs.With.{condition}
use Rattle.lowering_stages.specs.declared.Stage.{Stage as Numbers}
use Rattle.lowering_stages.specs.declared.Found.{Found}

-- ---- what it adds, falling or rising; what its turn asks of the target, and adds
abbrev pub signed : Bool → ℤ → ℤ
signed falls x = cond falls x (neg_ℤ x)

abbrev pub signed_at : Bool → List ℕ → List ℤ → ℕ → ℕ × ℤ
signed_at falls variables amounts i = (natural_at variables i, signed falls (integer_at amounts i))

abbrev pub added_is : Bool → Numbers → List (ℕ × ℤ)
added_is falls s = tabulate s.added (signed_at falls s.variables s.amounts)

abbrev pub asked_is : Numbers → List (NumericCondition ℕ)
asked_is s = cond s.bounded (condition s.target 2 s.lower ∷ condition s.target 1 s.upper ∷ []) []

abbrev pub given_is : ℕ → ℤ → List (ℕ × ℤ)
given_is a x = cond (eqb (nat_abs x) 0) [] ((a, x) ∷ [])

-- ---- its actions: control, a mode, is at its number
-- falling needs the counter ≥ unit − deep, rising ≤ −1 − deep
abbrev pub threshold_is : Bool → ℤ → ℤ → ℤ
threshold_is falls unit deep = cond falls (unit -ℤ deep) (negsuc 0 -ℤ deep)

abbrev pub stroke_is : Bool → ℕ → ℕ → Numbers → RestrictedAction
stroke_is falls control number s = record {
  mode_conditions = (control, number) ∷ [];
  conditions = condition s.counter (cond falls 2 1) (threshold_is falls s.unit s.deep) ∷ [];
  mode_effects = [];
  additions = added_is falls s;
}

abbrev pub turn_is : ℕ → ℕ → ℕ → ℕ → Numbers → RestrictedAction
turn_is a control number next s = record {
  mode_conditions = (control, number) ∷ [];
  conditions = (condition s.counter 2 (pos 0 -ℤ s.deep) ∷ condition s.counter 1 ((s.unit -ℤ s.deep) -ℤ pos 1) ∷ []) ++ asked_is s;
  mode_effects = (control, next) ∷ [];
  additions = given_is a s.gives;
}

-- ---- the most that a stroke adds
abbrev pub ADDED : ℕ
ADDED = 4

-- ---- the numbers are those of a source file
pub record Small (s : Numbers) : Type 0 where
  pub unit : InRange source_limits s.unit
  pub deep : InRange source_limits s.deep
  pub few : s.added ≤ ADDED
  pub amounts : (i : ℕ) → InRange source_limits (integer_at s.amounts i)
  pub lower : InRange source_limits s.lower
  pub upper : InRange source_limits s.upper
  pub gives : InRange source_limits s.gives

-- ---- the numbers of a stage of the model, A being variable a
pub record Stands (a : ℕ) (d : Stage) (s : Numbers) : Type 0 where
  pub small : Small s
  pub counter : s.counter ≡ number_of_name a d.counter
  pub unit : s.unit ≡ pos (suc (left_over d.kind))
  pub deep : s.deep ≡ pos 0
  pub adds : added_is true s ≡ numbered_additions a d.additions
  pub asks : asked_is s ≡ numbered_conditions a d.turn_conditions
  pub gives : given_is a s.gives ≡ numbered_additions a d.turn_additions

-- ---- the numbers of stage j of a list, where it has one
abbrev pub StandsAt : ℕ → List Stage → ℕ → Numbers → Type 0
StandsAt a stages j s = (d : Stage) → get_elem? stages j ≡ some d → Stands a d s

-- ---- stages of several effects
-- of stage j, in which effect's stages it stands, and as which of them, its Move into a hold being the last; where `effect` is their count, as
-- which of those behind all of these
pub record FoundAt (es : List Effect) (j : ℕ) (p : Found) : Type 0 where
  pub within : p.effect ≤ length es
  pub inside : (e : Effect) → get_elem? es p.effect ≡ some e → p.stage ≤ length (result_stages e [])
  pub same : (rest : List Stage) → get_elem? (hold_stages 0 es rest) j ≡ get_elem? (hold_stages p.effect (drop p.effect es) rest) p.stage

-- what entering an effect's stages adds to A: w0, and of + its c
abbrev pub entering_amount : Effect → ℤ
entering_amount (add_effect t c) = c
entering_amount (linear_effect t w ts) = w
entering_amount (quotient_effect t y c) = pos 0
entering_amount (residue_effect t y c) = pos 0

-- behind an effect's stages: of the next, where there is one
abbrev pub next_amount : List Effect → ℤ
next_amount [] = pos 0
next_amount (e ∷ es) = entering_amount e

-- the most stages of one effect before Clear: those of an L with all its terms
abbrev pub most_result_stages : ℕ
most_result_stages = 2 * term_room

-- the most stages of an action: of each of its effects these, the Move into its hold, Clear, and the Move out of it
abbrev pub most_stages : ℕ
most_stages = effect_room * (most_result_stages + 3)

-- the most stages of a task
abbrev pub stage_numbers : ℕ
stage_numbers = source_limits.actions * most_stages

-- ---- what is known of an effect in a source task with n variables, and of the effects of an action
pub record PlaceOk (n : ℕ) (e : NumericEffect) : Type 0 where
  pub terms_few : e.term_count ≤ term_room
  pub effect_ok : EffectOk source_limits n (numeric_is e)

pub record PlacesFew (r : Effects) : Type 0 where
  pub few : r.count ≤ effect_room
  pub terms_few : All (λ (e : NumericEffect). e.term_count ≤ term_room) r.places

pub record PlacesOk (n : ℕ) (r : Effects) : Type 0 where
  pub few : PlacesFew r
  pub effects_ok : All (EffectOk source_limits n) (effects_is r)

-- the bounds of a target, and the weights of the first k terms, are those of a source file
abbrev pub BoundsSmall : ℤ → ℤ → Type 0
BoundsSmall lower upper = InRange source_limits lower × InRange source_limits upper

abbrev pub WeightsSmall : ℕ → List Term → Type 0
WeightsSmall k terms = (i : ℕ) (d : Term) → i < k → InRange source_limits (get_or terms i d).weight
