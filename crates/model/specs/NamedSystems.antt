-- The two systems of a task over names and functions, in which the pairing of plans is proved first: values are a function of the name,
-- modes a function of the number, control is apart. Lists and numbers are a layer above.
-- Assumes nothing.
use Rattle.std.specs.Prelude.{ℕ, zero, suc, ◌+◌, Bool, true, cond, ◌&&◌, List, [], ◌∷◌, eqb, ℤ, nat_abs}
use Rattle.std.proofs.Math.Option.{Option, none, some}
use Rattle.std.proofs.Math.ListN.{get_elem?}
use Rattle.model.specs.Systems.{bind, or_zero, provided}
use Rattle.model.specs.Tasks.{SourceAction, State}
use Rattle.model.specs.Steps.{integer_at, natural_at, conditions_hold, modes_hold, within_bounds, results}
use Rattle.model.specs.Stages.{Name, NamedAction, Stage, stages_of}
use Rattle.model.specs.Expansion.{plus, units_in, after_strokes, after_stage, opened_values, stage_steps_over, dead_end_steps_over, price_over, resting_values}

-- ---- mode effects: mode and value, each mode at most once
abbrev pub mode_effect_on : List (ℕ × ℕ) → ℕ → Option ℕ
mode_effect_on [] j = none
mode_effect_on (e ∷ es) j = cond (eqb e.0 j) (some e.1) (mode_effect_on es j)

abbrev pub or_default : Option ℕ → ℕ → ℕ
or_default none d = d
or_default (some b) d = b

abbrev pub set_modes : List (ℕ × ℕ) → (ℕ → ℕ) → ℕ → ℕ
set_modes es m j = or_default (mode_effect_on es j) (m j)

-- ---- the restricted task
pub record NamedState : Type 0 where
  pub value : Name → ℤ
  pub mode : ℕ → ℕ
  pub control : ℕ

abbrev pub applies : NamedAction → NamedState → Bool
applies r x = eqb x.control r.control && (modes_hold r.mode_conditions x.mode && conditions_hold r.conditions x.value)

abbrev pub apply : NamedAction → NamedState → NamedState
apply r x = record { value = plus r.additions x.value; mode = set_modes r.mode_effects x.mode; control = r.next_control }

abbrev pub try_named : NamedState → NamedAction → Option NamedState
try_named x r = provided (applies r x) (apply r x)

abbrev pub step_named : List NamedAction → NamedState → ℕ → Option NamedState
step_named R x k = bind (get_elem? R k) (try_named x)

-- ---- the source task
pub record NamedSource : Type 0 where
  pub value : ℕ → ℤ
  pub mode : ℕ → ℕ

abbrev pub by_name : State → NamedSource
by_name x = record { value = integer_at x.values; mode = natural_at x.modes }

abbrev pub updated : ℕ → ℤ → (ℕ → ℤ) → ℕ → ℤ
updated t z v j = cond (eqb t j) z (v j)

abbrev pub store : List (ℕ × ℤ) → (ℕ → ℤ) → ℕ → ℤ
store [] v = v
store (p ∷ ps) v = store ps (updated p.0 p.1 v)

abbrev pub conditions_met : SourceAction → NamedSource → Bool
conditions_met a s = modes_hold a.mode_conditions s.mode && conditions_hold a.conditions s.value

abbrev pub after_action : SourceAction → NamedSource → NamedSource
after_action a s = record { value = store (results a.effects s.value) s.value; mode = set_modes a.mode_effects s.mode }

module _ (lower upper : ℕ → ℤ) where
  abbrev pub try_named_source : NamedSource → SourceAction → Option NamedSource
  try_named_source s a = provided (conditions_met a s && within_bounds lower upper (results a.effects s.value)) (after_action a s)

  abbrev pub step_named_source : List SourceAction → NamedSource → ℕ → Option NamedSource
  step_named_source acts s k = bind (get_elem? acts k) (try_named_source s)

-- a source state with its helpers at rest
abbrev pub at_rest : NamedSource → NamedState
at_rest s = record { value = resting_values s.value; mode = s.mode; control = 0 }

-- ---- a walk through stages: whether every turn's further conditions hold, where it ends, and how long it is
abbrev pub passes : List Stage → (Name → ℤ) → Bool
passes [] v = true
passes (d ∷ ds) v = conditions_hold d.turn_conditions (after_strokes d v) && passes ds (after_stage d v)

abbrev pub after_stages : List Stage → (Name → ℤ) → Name → ℤ
after_stages [] v = v
after_stages (d ∷ ds) v = after_stages ds (after_stage d v)

abbrev pub stages_price : List Stage → (Name → ℤ) → ℕ
stages_price [] v = zero
stages_price (d ∷ ds) v = suc (nat_abs (units_in d.kind (v d.counter))) + stages_price ds (after_stage d v)

-- the number of steps of the walk that hangs
abbrev pub price_to_dead_end : List Stage → (Name → ℤ) → ℕ
price_to_dead_end [] v = zero
price_to_dead_end (d ∷ ds) v =
    nat_abs (units_in d.kind (v d.counter)) + cond (conditions_hold d.turn_conditions (after_strokes d v)) (suc (price_to_dead_end ds (after_stage d v))) zero

-- ---- of a whole task: what comes behind the opening of source action k
abbrev pub entered : SourceAction → NamedSource → Name → ℤ
entered a s = opened_values a s.value

module _ (lower upper : ℕ → ℤ) (acts : List SourceAction) where
  -- the walk to rest
  abbrev pub stage_steps : NamedSource → ℕ → List ℕ
  stage_steps s = stage_steps_over lower upper acts s.value

  -- the walk to a dead end, where the result is out of bounds, and the number of its steps
  abbrev pub dead_end_steps : NamedSource → ℕ → List ℕ
  dead_end_steps s = dead_end_steps_over lower upper acts s.value

  abbrev pub dead_end_price : NamedSource → ℕ → ℕ
  dead_end_price s k = or_zero (get_elem? acts k) (λ a. price_to_dead_end (stages_of lower upper a.effects) (entered a s))

-- the price of the step
abbrev pub price_at : List SourceAction → NamedSource → ℕ → ℕ
price_at acts s = price_over acts s.value
