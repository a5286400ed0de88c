-- Document 01, "Lowering": R as a task and as a file.
-- Assumes nothing.
use Rattle.std.specs.Prelude.{◌≡◌, ℕ, zero, suc, ◌+◌, cond, List, [], ◌∷◌, ◌++◌, map, eqb, length, replicate, ℤ, pos}
use Rattle.std.proofs.Math.Option.{some}
use Rattle.std.proofs.Math.ListN.{get_elem?}
use Rattle.integers.specs.Numbers.{bits_of}
use Rattle.integers.specs.Relation.{relation_number}
use Rattle.commands.specs.Encoding.{encode, encode_all}
use Rattle.commands.specs.declared.Command.{Command}
use Rattle.commands.specs.declared.Command.TheVariants.{Start, Mode, Action, Condition, ModeCondition, ModeEffect, Add, Goal, End}
use Rattle.model.specs.Tasks.{Measured, variable, weighted_sum, NumericCondition, SourceAction, RestrictedAction, SourceTask, RestrictedTask, State}
use Rattle.model.specs.Steps.{integer_at, weigh, lower_bounds, upper_bounds, source_start}
use Rattle.model.specs.Sums.{sums_of_source, sums_of, keep_sums, with_sums}
use Rattle.model.specs.Stages.{Name, source, helper_a, helper_b, hold, NamedAction, lower_actions, stage_count, hold_count}

-- ---- numbers for names: "R has T's n variables, then A (number n) and B (n+1)"; "three holds .. after B"
abbrev pub number_of_name : ℕ → Name → ℕ
number_of_name n (source i) = i
number_of_name n helper_a = n
number_of_name n helper_b = suc n
number_of_name n (hold j) = suc (suc (n + j))

abbrev pub numbered_additions : ℕ → List (Name × ℤ) → List (ℕ × ℤ)
numbered_additions n [] = []
numbered_additions n (e ∷ es) = (number_of_name n e.0, e.1) ∷ numbered_additions n es

abbrev pub numbered_measure : ℕ → Measured Name → Measured ℕ
numbered_measure n (variable w) = variable (number_of_name n w)
numbered_measure n (weighted_sum ts) = weighted_sum (numbered_additions n ts)

abbrev pub numbered_conditions : ℕ → List (NumericCondition Name) → List (NumericCondition ℕ)
numbered_conditions n [] = []
numbered_conditions n (c ∷ cs) = record { measured = numbered_measure n c.measured; relation = c.relation; constant = c.constant } ∷ numbered_conditions n cs

-- "T's modes, then one more, control": mode m. "P of the source, P control"; "E of the source, E control where it changes"
module _ (n m : ℕ) where
  abbrev pub numbered : NamedAction → RestrictedAction
  numbered a = record {
    mode_conditions = a.mode_conditions ++ ((m, a.control) ∷ []);
    conditions = numbered_conditions n a.conditions;
    mode_effects = a.mode_effects ++ cond (eqb a.control a.next_control) [] ((m, a.next_control) ∷ []);
    additions = numbered_additions n a.additions;
  }

  abbrev pub numbered_all : List NamedAction → List RestrictedAction
  numbered_all [] = []
  numbered_all (a ∷ as₁) = numbered a ∷ numbered_all as₁

  abbrev pub lowered_actions : (ℕ → ℤ) → (ℕ → ℤ) → List SourceAction → List RestrictedAction
  lowered_actions lower upper acts = numbered_all (lower_actions lower upper 1 acts)

-- A, B and so many holds at 0
abbrev pub resting_helpers : ℕ → List ℤ
resting_helpers holds = pos 0 ∷ pos 0 ∷ replicate holds (pos 0)

-- "Helpers at rest means A, B and control at 0", and the holds: the state of R that has a source state's values, and its helpers at rest
abbrev pub helpers_at_rest : ℕ → State → State
helpers_at_rest holds x = record { values = x.values ++ resting_helpers holds; modes = x.modes ++ (0 ∷ []) }

-- R but for two things: a condition on a sum measures the sum, and equal stands as it is. A, B and the holds start at 0; control starts at 0, "its
-- size being 1 plus the count of all stages"; "R's goal is T's goal and control 0"
abbrev pub lower_measuring : SourceTask → RestrictedTask
lower_measuring t = record {
  starts = (source_start t).values ++ resting_helpers (hold_count t.actions);
  modes = t.modes ++ ((suc (stage_count (lower_bounds t) (upper_bounds t) t.actions), 0) ∷ []);
  actions = lowered_actions (length t.variables) (length t.modes) (lower_bounds t) (upper_bounds t) t.actions;
  goal_modes = t.goal_modes ++ ((length t.modes, 0) ∷ []);
  goal_conditions = t.goal_conditions;
}

-- R: with a variable kept for each sum, and in four relations
abbrev pub lower_task : SourceTask → RestrictedTask
lower_task t = keep_sums (lower_measuring t)

-- the state of R at rest that goes with a state of T: its values, A, B and the holds at 0, then its sums; its modes, control at 0
abbrev pub rest_state : SourceTask → State → State
rest_state t x = with_sums (sums_of (lower_measuring t)) (helpers_at_rest (hold_count t.actions) x)

-- "the kept value equals its sum": of each K of T's file, in its order, the sum of its terms
abbrev pub SumsTrue : SourceTask → State → Type 0
SumsTrue t x =
    (j : ℕ) (ts : List (ℕ × ℤ)) → get_elem? (sums_of_source t) j ≡ some ts
    → integer_at x.values (length t.variables + (2 + hold_count t.actions) + j) ≡ weigh ts (integer_at x.values)

-- ---- the file. "Byte order in an action: A; P ..; C ..; E ..; + by rising variable"
-- what stands in it, one command each
abbrev pub start_command : ℤ → Command
start_command z = Start (bits_of 4 z)

abbrev pub mode_command : ℕ × ℕ → Command
mode_command m = Mode m.0 m.1

abbrev pub mode_condition_command : ℕ × ℕ → Command
mode_condition_command p = ModeCondition p.0 p.1

-- the variable of a condition (no condition of a restricted file has a sum)
abbrev pub variable_of : Measured ℕ → ℕ
variable_of (variable i) = i
variable_of (weighted_sum ts) = zero

abbrev pub condition_command : NumericCondition ℕ → Command
condition_command c = Condition (variable_of c.measured) (relation_number c.relation) (bits_of 4 c.constant)

abbrev pub mode_effect_command : ℕ × ℕ → Command
mode_effect_command e = ModeEffect e.0 e.1

abbrev pub addition_command : ℕ × ℤ → Command
addition_command e = Add e.0 (bits_of 4 e.1)

-- runs of them, in front of what follows
abbrev pub start_commands : List ℤ → List Command → List Command
start_commands zs more = map start_command zs ++ more

abbrev pub mode_commands : List (ℕ × ℕ) → List Command → List Command
mode_commands ms more = map mode_command ms ++ more

abbrev pub mode_condition_commands : List (ℕ × ℕ) → List Command → List Command
mode_condition_commands ps more = map mode_condition_command ps ++ more

abbrev pub condition_commands : List (NumericCondition ℕ) → List Command → List Command
condition_commands cs more = map condition_command cs ++ more

abbrev pub mode_effect_commands : List (ℕ × ℕ) → List Command → List Command
mode_effect_commands es more = map mode_effect_command es ++ more

abbrev pub addition_commands : List (ℕ × ℤ) → List Command → List Command
addition_commands es more = map addition_command es ++ more

abbrev pub action_commands : RestrictedAction → List Command → List Command
action_commands a more =
    Action
    ∷ mode_condition_commands a.mode_conditions
    (condition_commands a.conditions (mode_effect_commands a.mode_effects (addition_commands a.additions more)))

abbrev pub actions_commands : List RestrictedAction → List Command → List Command
actions_commands [] more = more
actions_commands (a ∷ acts) more = action_commands a (actions_commands acts more)

-- "File order: all U, all M, actions, G (same order), Z"
abbrev pub file_commands : RestrictedTask → List Command
file_commands r =
    start_commands r.starts (mode_commands r.modes (actions_commands r.actions
    (Goal ∷ mode_condition_commands r.goal_modes (condition_commands r.goal_conditions []))))

unfoldable pub encode_file : RestrictedTask → List ℕ
encode_file r = encode_all (file_commands r) ++ encode End

abbrev pub lower_file : SourceTask → List ℕ
lower_file t = encode_file (lower_task t)
