-- What a file is held to, said of its task, over the limits of the kind of file: counts within the limits, references declared, values below sizes,
-- constants in range, one effect a mode, one T of an L or a K and one numeric effect a variable.
-- Assumes nothing.
use Rattle.std.specs.Prelude.{◌≡◌, ℕ, ◌<◌, ◌≤◌, false, List, map, T, ℤ, nat_abs, length}
use Rattle.std.specs.Int.Signed.{le_z}
use Rattle.integers.specs.All.{All}
use Rattle.integers.specs.Relation.{relation_number}
use Rattle.model.specs.Tasks.{Measured, variable, weighted_sum, NumericCondition, Effect, add_effect, linear_effect, quotient_effect, residue_effect}
use Rattle.model.specs.Tasks.{SourceAction, RestrictedAction}
use Rattle.model.specs.Tasks.{SourceTask, RestrictedTask, SourceVariable}
use Rattle.model.specs.Steps.{natural_at, sizes_of}
use Rattle.model.specs.Limits.{Limits, source_limits, restricted_limits}
use Rattle.model.specs.InTask.{MeasureIn, targets}
use Rattle.model.specs.Sums.{sums_of_source}
pub use Rattle.model.specs.InTask.{Distinct}

abbrev pub keys : {A : Type 0} → List (ℕ × A) → List ℕ
keys es = map (λ e. e.0) es

-- modes that are declared, with values below their sizes
abbrev pub ValuesIn : List ℕ → List (ℕ × ℕ) → Type 0
ValuesIn sizes es = All (λ (e : ℕ × ℕ). (e.0 < length sizes) × (e.1 < natural_at sizes e.0)) es

-- a constant in range
abbrev pub InRange : Limits → ℤ → Type 0
InRange l c = nat_abs c ≤ l.constant

-- a constant in range that is not 0
abbrev pub Factor : Limits → ℤ → Type 0
Factor l c = (1 ≤ nat_abs c) × InRange l c

-- T or +: a declared variable, of n, and its factor
abbrev pub AmountOk : Limits → ℕ → ℕ × ℤ → Type 0
AmountOk l n e = (e.0 < n) × Factor l e.1

-- M: a start below the size, a size within the limit
abbrev pub ModeOk : Limits → ℕ × ℕ → Type 0
ModeOk l m = (m.1 < m.0) × (m.0 ≤ l.size)

-- T of an L or a K: declared variables, of n, each at most once, with their weights
abbrev pub TermsOk : Limits → ℕ → List (ℕ × ℤ) → Type 0
TermsOk l n ts = All (AmountOk l n) ts × Distinct (keys ts)

-- C: a declared variable, of n, and a constant in range. K, in a source file: its T's, not too many, and a constant in its own range
abbrev pub MeasureOk : Limits → ℕ → Measured ℕ → ℤ → Type 0
MeasureOk l n (variable i) k = (i < n) × InRange l k
MeasureOk l n (weighted_sum ts) k = (l.restricted ≡ false) × (length ts ≤ l.terms) × TermsOk l n ts × (nat_abs k ≤ l.sum_constant)

-- what is measured is declared; with it a relation of the kind of file
abbrev pub ConditionIn : ℕ → NumericCondition ℕ → Type 0
ConditionIn n c = MeasureIn (λ (i : ℕ). i < n) c.measured

pub record ConditionOk (l : Limits) (n : ℕ) (c : NumericCondition ℕ) : Type 0 where
  pub measures : MeasureOk l n c.measured c.constant
  pub known : relation_number c.relation ≤ l.relations

-- the conditions of an action or goal, in a task with n variables and modes of the sizes
pub record ConditionsOk (l : Limits) (n : ℕ) (sizes : List ℕ) (ps : List (ℕ × ℕ)) (cs : List (NumericCondition ℕ)) : Type 0 where
  pub mode_conditions_few : length ps ≤ l.mode_conditions
  pub mode_conditions_in : ValuesIn sizes ps
  pub conditions_few : length cs ≤ l.conditions
  pub conditions_in : All (ConditionOk l n) cs

-- ---- source
abbrev pub EffectOk : Limits → ℕ → Effect → Type 0
EffectOk l n (add_effect t c) = (t < n) × Factor l c
EffectOk l n (linear_effect t w ts) = (t < n) × InRange l w × (length ts ≤ l.terms) × TermsOk l n ts
EffectOk l n (quotient_effect t y c) = (t < n) × (y < n) × Factor l c
EffectOk l n (residue_effect t y c) = (t < n) × (y < n) × Factor l c

pub record SourceActionOk (l : Limits) (n : ℕ) (sizes : List ℕ) (a : SourceAction) : Type 0 where
  pub conditions_ok : ConditionsOk l n sizes a.mode_conditions a.conditions
  pub mode_effects_in : ValuesIn sizes a.mode_effects
  pub mode_effects_once : Distinct (keys a.mode_effects)
  pub effects_few : length a.effects ≤ l.numeric_effects
  pub effects_ok : All (EffectOk l n) a.effects
  pub targets_once : Distinct (targets a.effects)

abbrev pub SourceVariableOk : Limits → SourceVariable → Type 0
SourceVariableOk l b = InRange l b.lower × InRange l b.upper × T (le_z b.lower b.start) × T (le_z b.start b.upper)

pub record SourceTaskOk (t : SourceTask) : Type 0 where
  pub variables_few : length t.variables ≤ source_limits.variables
  pub variables_in : All (SourceVariableOk source_limits) t.variables
  pub modes_few : length t.modes ≤ source_limits.modes
  pub modes_in : All (ModeOk source_limits) t.modes
  pub actions_few : length t.actions ≤ source_limits.actions
  pub actions_ok : All (SourceActionOk source_limits (length t.variables) (sizes_of t.modes)) t.actions
  pub goal : ConditionsOk source_limits (length t.variables) (sizes_of t.modes) t.goal_modes t.goal_conditions
  pub sums_few : length (sums_of_source t) ≤ source_limits.sums

-- ---- restricted
pub record RestrictedActionOk (l : Limits) (n : ℕ) (sizes : List ℕ) (a : RestrictedAction) : Type 0 where
  pub conditions_ok : ConditionsOk l n sizes a.mode_conditions a.conditions
  pub mode_effects_in : ValuesIn sizes a.mode_effects
  pub mode_effects_once : Distinct (keys a.mode_effects)
  pub additions_few : length a.additions ≤ l.numeric_effects
  pub additions_in : All (AmountOk l n) a.additions
  pub additions_once : Distinct (keys a.additions)

pub record RestrictedTaskOk (r : RestrictedTask) : Type 0 where
  pub starts_few : length r.starts ≤ restricted_limits.variables
  pub starts_in : All (InRange restricted_limits) r.starts
  pub modes_few : length r.modes ≤ restricted_limits.modes
  pub modes_in : All (ModeOk restricted_limits) r.modes
  pub actions_few : length r.actions ≤ restricted_limits.actions
  pub actions_ok : All (RestrictedActionOk restricted_limits (length r.starts) (sizes_of r.modes)) r.actions
  pub goal : ConditionsOk restricted_limits (length r.starts) (sizes_of r.modes) r.goal_modes r.goal_conditions

-- ---- the four relations of restricted files, and a restricted task that has no other
abbrev pub OneOfFour : NumericCondition ℕ → Type 0
OneOfFour c = relation_number c.relation ≤ restricted_limits.relations

pub record FourAlone (r : RestrictedTask) : Type 0 where
  pub actions : All (λ (a : RestrictedAction). All OneOfFour a.conditions) r.actions
  pub goal : All OneOfFour r.goal_conditions
