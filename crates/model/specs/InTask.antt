-- What the lowering asks of a source task, and of the actions that it makes: every variable and mode declared, effects on each at most once.
-- Every accepted task has it (proofs/AcceptedSource).
-- Assumes nothing.
use Rattle.std.specs.Prelude.{◌≡◌, ℕ, ◌<◌, ◌≤◌, false, List, [], ◌∷◌, ◌++◌, map, T, eqb, length, ℤ}
use Rattle.std.proofs.Math.Option.{none}
use Rattle.integers.specs.All.{All}
use Rattle.model.specs.Tasks.{Measured, variable, weighted_sum, NumericCondition, Effect, add_effect, linear_effect, quotient_effect, residue_effect}
use Rattle.model.specs.Tasks.{SourceAction, State}
use Rattle.model.specs.Steps.{integer_at, natural_at, conditions_hold, modes_hold, target}
use Rattle.model.specs.Stages.{Name, source, helper_a, helper_b, hold}
use Rattle.model.specs.NamedSystems.{mode_effect_on}

-- of n source variables, A, B and so many holds
abbrev pub NameIn : ℕ → ℕ → Name → Type 0
NameIn n holds (source i) = i < n
NameIn n holds helper_a = Unit {0}
NameIn n holds helper_b = Unit {0}
NameIn n holds (hold j) = j < holds

-- what a condition measures is declared
abbrev pub MeasureIn : {I : Type 0} → (I → Type 0) → Measured I → Type 0
MeasureIn In (variable i) = In i
MeasureIn {I} In (weighted_sum ts) = All (λ (t : I × ℤ). In t.0) ts

abbrev pub Once : List (ℕ × ℕ) → Type 0
Once [] = Unit {0}
Once (e ∷ es) = (mode_effect_on es e.0 ≡ none) × Once es

abbrev pub EffectIn : ℕ → Effect → Type 0
EffectIn n (add_effect t c) = t < n
EffectIn n (linear_effect t w ts) = (t < n) × All (λ (p : ℕ × ℤ). p.0 < n) ts
EffectIn n (quotient_effect t y c) = (t < n) × (y < n)
EffectIn n (residue_effect t y c) = (t < n) × (y < n)

-- no number twice
abbrev pub Distinct : List ℕ → Type 0
Distinct [] = Unit {0}
Distinct (k ∷ ks) = All (λ (j : ℕ). eqb j k ≡ false) ks × Distinct ks

abbrev pub targets : List Effect → List ℕ
targets es = map target es

-- several effects have a hold each
abbrev pub HoldsFor : ℕ → List Effect → Type 0
HoldsFor holds [] = Unit {0}
HoldsFor holds (e ∷ []) = Unit {0}
HoldsFor holds (e ∷ f ∷ es) = length (e ∷ f ∷ es) ≤ holds

pub record ActionIn (n holds m : ℕ) (a : SourceAction) : Type 0 where
  pub mode_conditions_in : All (λ (p : ℕ × ℕ). p.0 < m) a.mode_conditions
  pub conditions_in : All (λ (c : NumericCondition ℕ). MeasureIn (λ (i : ℕ). i < n) c.measured) a.conditions
  pub mode_effects_in : All (λ (p : ℕ × ℕ). p.0 < m) a.mode_effects
  pub mode_effects_once : Once a.mode_effects
  pub effects_in : All (EffectIn n) a.effects
  pub targets_once : Distinct (targets a.effects)
  pub holds_for : HoldsFor holds a.effects

-- ---- the goals, as facts
abbrev pub SourceGoal : List (ℕ × ℕ) → List (NumericCondition ℕ) → State → Type 0
SourceGoal gp gc x = T (modes_hold gp (natural_at x.modes)) × T (conditions_hold gc (integer_at x.values))

abbrev pub LoweredGoal : ℕ → List (ℕ × ℕ) → List (NumericCondition ℕ) → State → Type 0
LoweredGoal m gp gc x = T (modes_hold (gp ++ ((m, 0) ∷ [])) (natural_at x.modes)) × T (conditions_hold gc (integer_at x.values))
