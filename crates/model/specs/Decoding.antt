-- Document 01, "Files": the task of a file's commands, field by field; and what a reader of a whole file answers.
-- Assumes nothing.
use Rattle.std.specs.Prelude.{ℕ, Bool, true, cond, List, [], ◌∷◌, ◌++◌, map, eqb, get_or, ℤ}
use Rattle.integers.specs.Relation.{relation_of}
use Rattle.answers.specs.Answer.{Answer, given, refused}
use Rattle.commands.specs.Table.{letter_v, letter_u, letter_m, letter_a, letter_c, letter_p, letter_e, plus_sign, letter_l, letter_t, letter_q, letter_r, letter_g, letter_k}
use Rattle.commands.specs.Encoding.{byte_of, operands}
use Rattle.commands.specs.declared.Command.{Command}
use Rattle.model.specs.Tasks.{variable, weighted_sum, NumericCondition, Effect, add_effect, linear_effect, quotient_effect, residue_effect, SourceAction}
use Rattle.model.specs.Tasks.{RestrictedAction, SourceVariable, SourceTask, RestrictedTask}
use Rattle.model.specs.Limits.{source_limits, restricted_limits}
use Rattle.model.specs.Rules.{constant}
use Rattle.model.specs.Reading.{Verdict, Accepted, Rejected, verdict_of, commands_of}

-- ---- commands by their bytes
-- those with this byte, in order
abbrev pub those : ℕ → List Command → List Command
those b [] = []
those b (c ∷ cs) = cond (eqb (byte_of c) b) (c ∷ those b cs) (those b cs)

-- up to the next A or G
abbrev pub is_edge : Command → Bool
is_edge c = cond (eqb (byte_of c) letter_g) true (eqb (byte_of c) letter_a)

abbrev pub up_to : List Command → List Command
up_to [] = []
up_to (c ∷ cs) = cond (is_edge c) [] (c ∷ up_to cs)

-- behind each command with this byte, those up to the next A or G
abbrev pub parts_at : ℕ → List Command → List (List Command)
parts_at b [] = []
parts_at b (c ∷ cs) = cond (eqb (byte_of c) b) (up_to cs ∷ parts_at b cs) (parts_at b cs)

-- the commands of each action; and of the goal
abbrev pub actions_of : List Command → List (List Command)
actions_of = parts_at letter_a

abbrev pub goal_of : List Command → List Command
goal_of cs = get_or (parts_at letter_g cs) 0 []

-- ---- what one command says: its operands, in their order
abbrev pub operand : Command → ℕ → ℕ
operand c i = get_or (operands c) i 0

-- V lower upper start; U start
abbrev pub source_variable_of : Command → SourceVariable
source_variable_of c = record { lower = constant (operand c 0); upper = constant (operand c 1); start = constant (operand c 2) }

abbrev pub start_of : Command → ℤ
start_of c = constant (operand c 0)

-- M size start; P and E mode value
abbrev pub pair_of : Command → ℕ × ℕ
pair_of c = (operand c 0, operand c 1)

-- C var relation constant
abbrev pub condition_of : Command → NumericCondition ℕ
condition_of c = record { measured = variable (operand c 0); relation = relation_of (operand c 1); constant = constant (operand c 2) }

-- + var c; T var weight
abbrev pub amount_of : Command → ℕ × ℤ
amount_of c = (operand c 0, constant (operand c 1))

-- ---- what commands say of what they stand in: a file, an action or the goal
abbrev pub variables_of : List Command → List SourceVariable
variables_of cs = map source_variable_of (those letter_v cs)

abbrev pub starts_of : List Command → List ℤ
starts_of cs = map start_of (those letter_u cs)

abbrev pub modes_of : List Command → List (ℕ × ℕ)
modes_of cs = map pair_of (those letter_m cs)

abbrev pub conditions_of : List Command → List (NumericCondition ℕ)
conditions_of cs = map condition_of (those letter_c cs)

abbrev pub mode_conditions_of : List Command → List (ℕ × ℕ)
mode_conditions_of cs = map pair_of (those letter_p cs)

abbrev pub mode_effects_of : List Command → List (ℕ × ℕ)
mode_effects_of cs = map pair_of (those letter_e cs)

abbrev pub additions_of : List Command → List (ℕ × ℤ)
additions_of cs = map amount_of (those plus_sign cs)

-- "followed directly by" T's: those up to the first command of another kind
abbrev pub terms_of : List Command → List (ℕ × ℤ)
terms_of [] = []
terms_of (c ∷ cs) = cond (eqb (byte_of c) letter_t) (amount_of c ∷ terms_of cs) []

-- K relation constant, a condition on the sum of its T's
abbrev pub sum_condition_of : Command → List (ℕ × ℤ) → NumericCondition ℕ
sum_condition_of c ts = record { measured = weighted_sum ts; relation = relation_of (operand c 0); constant = constant (operand c 1) }

abbrev pub sum_conditions_of : List Command → List (NumericCondition ℕ)
sum_conditions_of [] = []
sum_conditions_of (c ∷ cs) = cond (eqb (byte_of c) letter_k) (sum_condition_of c (terms_of cs) ∷ sum_conditions_of cs) (sum_conditions_of cs)

-- the conditions of a source action or goal: its C's, and behind them its K's
abbrev pub source_conditions_of : List Command → List (NumericCondition ℕ)
source_conditions_of cs = conditions_of cs ++ sum_conditions_of cs

-- the numeric effects, an L with its T's
abbrev pub effects_of : List Command → List Effect
effects_of [] = []
effects_of (c ∷ cs) =
    cond (eqb (byte_of c) plus_sign) (add_effect (operand c 0) (constant (operand c 1)) ∷ effects_of cs)
    (cond (eqb (byte_of c) letter_l) (linear_effect (operand c 0) (constant (operand c 1)) (terms_of cs) ∷ effects_of cs)
    (cond (eqb (byte_of c) letter_q) (quotient_effect (operand c 0) (operand c 1) (constant (operand c 2)) ∷ effects_of cs)
    (cond (eqb (byte_of c) letter_r) (residue_effect (operand c 0) (operand c 1) (constant (operand c 2)) ∷ effects_of cs)
    (effects_of cs))))

-- ---- the tasks
abbrev pub source_action_of : List Command → SourceAction
source_action_of cs = record {
  mode_conditions = mode_conditions_of cs;
  conditions = source_conditions_of cs;
  mode_effects = mode_effects_of cs;
  effects = effects_of cs;
}

abbrev pub restricted_action_of : List Command → RestrictedAction
restricted_action_of cs = record {
  mode_conditions = mode_conditions_of cs;
  conditions = conditions_of cs;
  mode_effects = mode_effects_of cs;
  additions = additions_of cs;
}

abbrev pub source_task_of : List Command → SourceTask
source_task_of cs = record {
  variables = variables_of cs;
  modes = modes_of cs;
  actions = map source_action_of (actions_of cs);
  goal_modes = mode_conditions_of (goal_of cs);
  goal_conditions = source_conditions_of (goal_of cs);
}

abbrev pub restricted_task_of : List Command → RestrictedTask
restricted_task_of cs = record {
  starts = starts_of cs;
  modes = modes_of cs;
  actions = map restricted_action_of (actions_of cs);
  goal_modes = mode_conditions_of (goal_of cs);
  goal_conditions = conditions_of (goal_of cs);
}

-- ---- whole files: "A task is accepted when the rules on its file give no refusal"
abbrev pub on_verdict : {A : Type 0} → Verdict → A → Answer A
on_verdict (Accepted variables modes actions) t = given t
on_verdict (Rejected number place) t = refused number place

abbrev pub read_source : List ℕ → Answer SourceTask
read_source file = on_verdict (verdict_of source_limits file) (source_task_of (commands_of source_limits file))

abbrev pub read_restricted : List ℕ → Answer RestrictedTask
read_restricted file = on_verdict (verdict_of restricted_limits file) (restricted_task_of (commands_of restricted_limits file))
