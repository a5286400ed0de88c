-- Document 01, "What a step does", for both kinds of task.
-- Assumes nothing.
use Rattle.std.specs.Prelude.{ℕ, suc, Bool, true, ◌&&◌, List, [], ◌∷◌, map, get_or, set, eqb, ltb, ℤ, pos, ◌+ℤ◌, ◌*ℤ◌}
use Rattle.std.proofs.Math.Option.{Option}
use Rattle.std.proofs.Math.ListN.{get_elem?}
use Rattle.std.specs.Int.Signed.{le_z}
use Rattle.integers.specs.Division.{quotient_of, residue_of}
use Rattle.integers.specs.Relation.{related, within_limit}
use Rattle.model.specs.Tasks.{Measured, variable, weighted_sum, NumericCondition, Effect, add_effect, linear_effect, quotient_effect, residue_effect}
use Rattle.model.specs.Tasks.{SourceAction, RestrictedAction, SourceVariable, SourceTask, RestrictedTask, State}
use Rattle.model.specs.Systems.{bind, provided, guarded}

-- the value of a variable, the value of a mode, by number
abbrev pub integer_at : List ℤ → ℕ → ℤ
integer_at l i = get_or l i (pos 0)

abbrev pub natural_at : List ℕ → ℕ → ℕ
natural_at l i = get_or l i 0

-- ---- conditions, over the values of variables and the values of modes
abbrev pub weigh : {I : Type 0} → List (I × ℤ) → (I → ℤ) → ℤ
weigh [] v = pos 0
weigh (t ∷ ts) v = v t.0 *ℤ t.1 +ℤ weigh ts v

abbrev pub measure : {I : Type 0} → Measured I → (I → ℤ) → ℤ
measure (variable i) v = v i
measure (weighted_sum ts) v = weigh ts v

-- every C holds
abbrev pub conditions_hold : {I : Type 0} → List (NumericCondition I) → (I → ℤ) → Bool
conditions_hold [] v = true
conditions_hold (c ∷ cs) v = related c.relation (measure c.measured v) c.constant && conditions_hold cs v

-- every P holds
abbrev pub modes_hold : List (ℕ × ℕ) → (ℕ → ℕ) → Bool
modes_hold [] m = true
modes_hold (p ∷ ps) m = eqb (m p.0) p.1 && modes_hold ps m

-- values set by number: the modes as the E leave them, the variables as the numeric effects do
abbrev pub set_all : {A : Type 0} → List (ℕ × A) → List A → List A
set_all [] l = l
set_all (e ∷ es) l = set_all es (set l e.0 e.1)

-- ---- the source
-- "L gives w0 plus the sum of weight × variable"
abbrev pub linear : ℤ → List (ℕ × ℤ) → (ℕ → ℤ) → ℤ
linear w [] v = w
linear w (t ∷ ts) v = linear (w +ℤ v t.0 *ℤ t.1) ts v

abbrev pub target : Effect → ℕ
target (add_effect t c) = t
target (linear_effect t w ts) = t
target (quotient_effect t y c) = t
target (residue_effect t y c) = t

-- the target's value after the step, from the values before. "Q gives q, R gives r"
abbrev pub result : Effect → (ℕ → ℤ) → ℤ
result (add_effect t c) v = v t +ℤ c
result (linear_effect t w ts) v = linear w ts v
result (quotient_effect t y c) v = quotient_of (v y) c
result (residue_effect t y c) v = residue_of (v y) c

-- "all reading the state before"
abbrev pub results : List Effect → (ℕ → ℤ) → List (ℕ × ℤ)
results [] v = []
results (e ∷ es) v = (target e, result e v) ∷ results es v

-- "its result is within the target's bounds", each of them
abbrev pub within_bounds : (ℕ → ℤ) → (ℕ → ℤ) → List (ℕ × ℤ) → Bool
within_bounds lower upper [] = true
within_bounds lower upper (p ∷ ps) = (le_z (lower p.0) p.1 && le_z p.1 (upper p.0)) && within_bounds lower upper ps

-- "An action applies where its conditions hold and its result is within the target's bounds; otherwise it doesn't apply. Mode effects and
-- the numeric effects read the state before."
module _ (lower upper : ℕ → ℤ) where
  abbrev pub try_source : State → SourceAction → Option State
  try_source x a =
      provided
      (modes_hold a.mode_conditions (natural_at x.modes) && conditions_hold a.conditions (integer_at x.values)
      && within_bounds lower upper (results a.effects (integer_at x.values)))
      (record { values = set_all (results a.effects (integer_at x.values)) x.values; modes = set_all a.mode_effects x.modes })

  abbrev pub source_step_of : List SourceAction → State → ℕ → Option State
  source_step_of acts x k = bind (get_elem? acts k) (try_source x)

-- ---- the restricted task
-- +: the values as the additions leave them
abbrev pub add_all : List (ℕ × ℤ) → List ℤ → List ℤ
add_all [] l = l
add_all (e ∷ es) l = add_all es (set l e.0 (integer_at l e.0 +ℤ e.1))

abbrev pub applies_restricted : RestrictedAction → State → Bool
applies_restricted a x = modes_hold a.mode_conditions (natural_at x.modes) && conditions_hold a.conditions (integer_at x.values)

abbrev pub apply_restricted : RestrictedAction → State → State
apply_restricted a x = record { values = add_all a.additions x.values; modes = set_all a.mode_effects x.modes }

abbrev pub try_restricted : State → RestrictedAction → Option State
try_restricted x a = provided (applies_restricted a x) (apply_restricted a x)

abbrev pub restricted_step_of : List RestrictedAction → State → ℕ → Option State
restricted_step_of R x k = bind (get_elem? R k) (try_restricted x)

-- ---- "In a state handed in with a source variable outside its bounds, a restricted one past that figure, or a mode value not below its
-- size, no action applies." And "a single step that would [take a restricted variable past the figure] doesn't apply". So every step is
-- guarded by these tests, before and after; of a source step the state after passes by itself.
abbrev pub modes_below_sizes : List ℕ → List ℕ → Bool
modes_below_sizes sizes [] = true
modes_below_sizes [] (x ∷ l) = true
modes_below_sizes (z ∷ sizes) (x ∷ l) = ltb x z && modes_below_sizes sizes l

abbrev pub values_within_bounds : (ℕ → ℤ) → (ℕ → ℤ) → List ℤ → Bool
values_within_bounds lower upper [] = true
values_within_bounds lower upper (z ∷ l) = le_z (lower 0) z && le_z z (upper 0) && values_within_bounds (λ j. lower (suc j)) (λ j. upper (suc j)) l

abbrev pub values_within : ℕ → List ℤ → Bool
values_within limit [] = true
values_within limit (z ∷ l) = within_limit limit z && values_within limit l

abbrev pub sound_source : (ℕ → ℤ) → (ℕ → ℤ) → List ℕ → State → Bool
sound_source lower upper sizes x = values_within_bounds lower upper x.values && modes_below_sizes sizes x.modes

abbrev pub figure : ℕ
figure = 2_000_000_000_000_000

abbrev pub sound_restricted : List ℕ → State → Bool
sound_restricted sizes x = values_within figure x.values && modes_below_sizes sizes x.modes

-- ---- of a whole task: its bounds and sizes by number, its start, its step, its goal
abbrev pub lower_bounds : SourceTask → ℕ → ℤ
lower_bounds t = integer_at (map (λ (b : SourceVariable). b.lower) t.variables)

abbrev pub upper_bounds : SourceTask → ℕ → ℤ
upper_bounds t = integer_at (map (λ (b : SourceVariable). b.upper) t.variables)

abbrev pub sizes_of : List (ℕ × ℕ) → List ℕ
sizes_of ms = map (λ (m : ℕ × ℕ). m.0) ms

abbrev pub start_modes : List (ℕ × ℕ) → List ℕ
start_modes ms = map (λ (m : ℕ × ℕ). m.1) ms

abbrev pub source_start : SourceTask → State
source_start t = record { values = map (λ (b : SourceVariable). b.start) t.variables; modes = start_modes t.modes }

abbrev pub step_source : SourceTask → State → ℕ → Option State
step_source t = guarded (sound_source (lower_bounds t) (upper_bounds t) (sizes_of t.modes)) (source_step_of (lower_bounds t) (upper_bounds t) t.actions)

abbrev pub goal_holds : List (ℕ × ℕ) → List (NumericCondition ℕ) → State → Bool
goal_holds gp gc x = modes_hold gp (natural_at x.modes) && conditions_hold gc (integer_at x.values)

abbrev pub source_goal_holds : SourceTask → State → Bool
source_goal_holds t = goal_holds t.goal_modes t.goal_conditions

abbrev pub restricted_start : RestrictedTask → State
restricted_start r = record { values = r.starts; modes = start_modes r.modes }

abbrev pub step_restricted : RestrictedTask → State → ℕ → Option State
step_restricted r = guarded (sound_restricted (sizes_of r.modes)) (restricted_step_of r.actions)

abbrev pub restricted_goal_holds : RestrictedTask → State → Bool
restricted_goal_holds r = goal_holds r.goal_modes r.goal_conditions
