-- Document 01, "Lowering": expanding, projecting, and the step prices.
-- Assumes nothing.
use Rattle.std.specs.Prelude.{ℕ, zero, suc, ◌+◌, ◌*◌, Bool, true, false, cond, List, [], ◌∷◌, ◌++◌, eqb, length, replicate, ℤ, pos, negsuc, nat_abs, ◌+ℤ◌, ◌*ℤ◌}
use Rattle.std.proofs.Math.Option.{Option, none, some}
use Rattle.std.proofs.Math.ListN.{get_elem?}
use Rattle.integers.specs.Division.{floor, quotient_of, residue_of}
use Rattle.model.specs.Systems.{or_empty, or_zero, expand_from, keep, follow_plan}
use Rattle.model.specs.Tasks.{Effect, add_effect, linear_effect, quotient_effect, residue_effect, SourceAction, SourceTask, RestrictedTask, State}
use Rattle.model.specs.Steps.{conditions_hold, integer_at, natural_at, linear, lower_bounds, upper_bounds, source_start, step_source, restricted_start}
use Rattle.model.specs.Steps.{step_restricted, target, result}
use Rattle.model.specs.Stages.{Name, source, helper_a, helper_b, hold, StageKind, by_one, by_unit, Stage, turn_place, opening_additions, stages_of, opening}
use Rattle.model.specs.Stages.{source_number}

-- ---- values by name, and what additions make of them
abbrev pub same_name : Name → Name → Bool
same_name (source i) (source j) = eqb i j
same_name (source i) helper_a = false
same_name (source i) helper_b = false
same_name (source i) (hold j) = false
same_name helper_a (source j) = false
same_name helper_a helper_a = true
same_name helper_a helper_b = false
same_name helper_a (hold j) = false
same_name helper_b (source j) = false
same_name helper_b helper_a = false
same_name helper_b helper_b = true
same_name helper_b (hold j) = false
same_name (hold i) (source j) = false
same_name (hold i) helper_a = false
same_name (hold i) helper_b = false
same_name (hold i) (hold j) = eqb i j

-- what an action adds to a variable: its additions name each variable at most once
abbrev pub addition_to : List (Name × ℤ) → Name → Option ℤ
addition_to [] w = none
addition_to (e ∷ es) w = cond (same_name e.0 w) (some e.1) (addition_to es w)

abbrev pub add_to : Option ℤ → ℤ → ℤ
add_to none z = z
add_to (some d) z = z +ℤ d

abbrev pub plus : List (Name × ℤ) → (Name → ℤ) → Name → ℤ
plus es v w = add_to (addition_to es w) (v w)

-- the source's values, with those of A, B and the holds
abbrev pub named_values : (ℕ → ℤ) → ℤ → ℤ → (ℕ → ℤ) → Name → ℤ
named_values v a b h (source j) = v j
named_values v a b h helper_a = a
named_values v a b h helper_b = b
named_values v a b h (hold j) = h j

-- with the helpers at rest
abbrev pub all_zero : ℕ → ℤ
all_zero j = pos 0

abbrev pub resting_values : (ℕ → ℤ) → Name → ℤ
resting_values v = named_values v (pos 0) (pos 0) all_zero

-- ---- the walk through the stages: in each, falling or rising as often as the unit goes into the counter, then the turn
-- how often: falling so many times, or, where negative, rising
abbrev pub units_in : StageKind → ℤ → ℤ
units_in by_one z = z
units_in (by_unit u) z = floor z u

-- the numbers of those steps, the stage's actions being numbered from b
abbrev pub strokes : ℕ → ℤ → List ℕ
strokes b (pos k) = replicate k b
strokes b (negsuc k) = replicate (suc k) (suc b)

-- what they make of the values
abbrev pub times_added : ℤ → Option ℤ → ℤ → ℤ
times_added q none z = z
times_added q (some d) z = z +ℤ q *ℤ d

abbrev pub after_strokes : Stage → (Name → ℤ) → Name → ℤ
after_strokes d v w = times_added (units_in d.kind (v d.counter)) (addition_to d.additions w) (v w)

abbrev pub after_stage : Stage → (Name → ℤ) → Name → ℤ
after_stage d v = plus d.turn_additions (after_strokes d v)

-- from the values v, the first stage's actions being numbered from b
abbrev pub stage_walk : ℕ → List Stage → (Name → ℤ) → List ℕ
stage_walk b [] v = []
stage_walk b (d ∷ ds) v =
    strokes b (units_in d.kind (v d.counter)) ++ ((b + turn_place d.kind) ∷ stage_walk (suc (b + turn_place d.kind)) ds (after_stage d v))

-- the walk that hangs: up to the first turn whose further conditions fail, and not with it
abbrev pub walk_to_dead_end : ℕ → List Stage → (Name → ℤ) → List ℕ
walk_to_dead_end b [] v = []
walk_to_dead_end b (d ∷ ds) v = strokes b (units_in d.kind (v d.counter))
    ++ cond (conditions_hold d.turn_conditions (after_strokes d v))
    ((b + turn_place d.kind) ∷ walk_to_dead_end (suc (b + turn_place d.kind)) ds (after_stage d v)) []

-- the values behind an opening
abbrev pub opened_values : SourceAction → (ℕ → ℤ) → Name → ℤ
opened_values a v = plus (opening_additions a.effects) (resting_values v)

module _ (lower upper : ℕ → ℤ) (acts : List SourceAction) where
  -- what follows the opening of action k, over the values before the step
  abbrev pub stage_steps_over : (ℕ → ℤ) → ℕ → List ℕ
  stage_steps_over v k = or_empty (get_elem? acts k) (λ a. stage_walk (suc (opening lower upper acts k)) (stages_of lower upper a.effects) (opened_values a v))

  abbrev pub stage_steps_from : State → ℕ → List ℕ
  stage_steps_from x = stage_steps_over (integer_at x.values)

  -- the same where a result is out of bounds: up to where nothing applies
  abbrev pub dead_end_steps_over : (ℕ → ℤ) → ℕ → List ℕ
  dead_end_steps_over v k =
      or_empty (get_elem? acts k) (λ a. walk_to_dead_end (suc (opening lower upper acts k)) (stages_of lower upper a.effects) (opened_values a v))

  abbrev pub dead_end_steps_from : State → ℕ → List ℕ
  dead_end_steps_from x = dead_end_steps_over (integer_at x.values)

-- ---- "Step price, over the values before the step"
abbrev pub magnitudes : List (ℕ × ℤ) → (ℕ → ℤ) → ℕ
magnitudes [] v = zero
magnitudes (t ∷ ts) v = nat_abs (v t.0) + magnitudes ts v

-- "1 without macro. L with k terms: 3 + 2k + 2 × (sum of |term variables|) + |target before| + |result|. Q and R: 7 + 2|y| + 2|q| +
-- |target before| + r."
abbrev pub price_of_effect : Effect → (ℕ → ℤ) → ℕ
price_of_effect (add_effect t c) v = 1
price_of_effect (linear_effect t w ts) v = 3 + 2 * length ts + 2 * magnitudes ts v + nat_abs (v t) + nat_abs (linear w ts v)
price_of_effect (quotient_effect t y c) v = 7 + 2 * nat_abs (v y) + 2 * nat_abs (quotient_of (v y) c) + nat_abs (v t) + nat_abs (residue_of (v y) c)
price_of_effect (residue_effect t y c) v = 7 + 2 * nat_abs (v y) + 2 * nat_abs (quotient_of (v y) c) + nat_abs (v t) + nat_abs (residue_of (v y) c)

-- with several effects: an effect's stages before Clear
abbrev pub price_of_result : Effect → (ℕ → ℤ) → ℕ
price_of_result (add_effect t c) v = 2 + 2 * nat_abs (v t)
price_of_result (linear_effect t w ts) v = 2 * length ts + 2 * magnitudes ts v
price_of_result (quotient_effect t y c) v = 4 + 2 * nat_abs (v y) + nat_abs (quotient_of (v y) c) + nat_abs (residue_of (v y) c)
price_of_result (residue_effect t y c) v = 4 + 2 * nat_abs (v y) + 2 * nat_abs (quotient_of (v y) c)

-- and the Move into a hold; then Clear and the Move out of it
abbrev pub price_of_held : List Effect → (ℕ → ℤ) → ℕ
price_of_held [] v = zero
price_of_held (e ∷ es) v = price_of_result e v + (1 + nat_abs (result e v)) + (2 + nat_abs (v (target e)) + nat_abs (result e v)) + price_of_held es v

-- "Step prices count these stages", the opening besides
abbrev pub price_of_effects : List Effect → (ℕ → ℤ) → ℕ
price_of_effects [] v = 1
price_of_effects (e ∷ []) v = price_of_effect e v
price_of_effects (e ∷ f ∷ es) v = 1 + price_of_held (e ∷ f ∷ es) v

abbrev pub price_over : List SourceAction → (ℕ → ℤ) → ℕ → ℕ
price_over acts v k = or_zero (get_elem? acts k) (λ a. price_of_effects a.effects v)

abbrev pub price_from : List SourceAction → State → ℕ → ℕ
price_from acts x = price_over acts (integer_at x.values)

-- ---- of a whole task: the number in R of an action's opening, the source action that a number opens, and what follows an opening
abbrev pub opening_of : SourceTask → ℕ → ℕ
opening_of t = opening (lower_bounds t) (upper_bounds t) t.actions

abbrev pub source_number_of : SourceTask → ℕ → Option ℕ
source_number_of t = source_number (lower_bounds t) (upper_bounds t) t.actions

abbrev pub stage_steps_of : SourceTask → State → ℕ → List ℕ
stage_steps_of t = stage_steps_from (lower_bounds t) (upper_bounds t) t.actions

abbrev pub dead_end_steps_of : SourceTask → State → ℕ → List ℕ
dead_end_steps_of t = dead_end_steps_from (lower_bounds t) (upper_bounds t) t.actions

-- "for each source step its single action or its opening, then ..": what follows is the walk above
abbrev pub expand_task : SourceTask → List ℕ → List ℕ
expand_task t p = expand_from (step_source t) (opening_of t) (stage_steps_of t) p (source_start t)

-- The same, said by the steps of R alone: "from R's start, for each source step its single action or its opening, then, while control is not
-- 0, the one action that applies", for at most 1,000,000 steps
abbrev pub control_at_rest : SourceTask → State → Bool
control_at_rest t x = eqb (natural_at x.modes (length t.modes)) 0

abbrev pub expand_by_following : SourceTask → RestrictedTask → List ℕ → List ℕ
expand_by_following t r p = follow_plan (step_restricted r) (control_at_rest t) (opening_of t) (length r.actions) 1_000_000 p (restricted_start r)

-- "Projecting keeps the openings and single actions as source numbers, in their order, and drops the rest."
abbrev pub project_task : SourceTask → List ℕ → List ℕ
project_task t q = keep (source_number_of t) q
