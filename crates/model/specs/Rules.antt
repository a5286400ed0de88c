-- Document 01, "Files" and "Refusals by number": the rules on a file of either kind, command by command. What one command makes of the
-- state before it, or the number of the refusal; within one command the order is 1, 2, 14, 4, 5, 6, 7.
-- Assumes nothing.
use Rattle.std.specs.Prelude.{ℕ, ◌+◌, Bool, true, false, cond, not, List, [], ◌∷◌, eqb, leb, ltb, ℤ, nat_abs, length, get_or}
use Rattle.std.specs.Int.Signed.{le_z}
use Rattle.integers.specs.Numbers.{signed_of}
use Rattle.commands.specs.Table.{letter_v, letter_u, letter_m, letter_a, letter_c, letter_p, letter_e, plus_sign, letter_l, letter_t, letter_q, letter_r}
use Rattle.commands.specs.Table.{letter_g, letter_z, letter_k}
use Rattle.commands.specs.Reading.{command_at}
use Rattle.commands.specs.Encoding.{byte_of}
use Rattle.commands.specs.declared.Command.{Command}
use Rattle.answers.specs.Refusals.{number_of}
use Rattle.commands.specs.declared.Command.TheVariants.{Variable, Start, Mode, Action, Condition, ModeCondition, ModeEffect, Add, Linear, Term, Quotient}
use Rattle.commands.specs.declared.Command.TheVariants.{Residue, Goal, End, Sum, Refused}
use Rattle.model.specs.Limits.{Limits}
use Rattle.model.specs.ReadingState.{in_declarations, in_action, in_goal, ReadingState, Taken, stop, go_on, finish, rule, opened, with_variable, with_mode}
use Rattle.model.specs.ReadingState.{with_condition, with_mode_condition, with_mode_effect, with_numeric_effect, with_sum, with_term}

abbrev pub is_one_of : ℕ → List ℕ → Bool
is_one_of b [] = false
is_one_of b (c ∷ cs) = cond (eqb b c) true (is_one_of b cs)

-- 1, by the byte alone. V (source) or U (restricted), and M: before the first action. A and G: not in the goal. C P: in an action or the
-- goal. E +: in an action; so are L Q R, in a source file. T: directly after L, K or T. Z: in the goal. K: as C, in a source file. No other
-- byte
abbrev pub allowed : Limits → ReadingState → ℕ → Bool
allowed l p b =
    cond (eqb b letter_v) (cond l.restricted false (eqb p.section in_declarations))
    (cond (eqb b letter_u) (cond l.restricted (eqb p.section in_declarations) false)
    (cond (eqb b letter_m) (eqb p.section in_declarations)
    (cond (is_one_of b (letter_a ∷ letter_g ∷ [])) (leb p.section in_action)
    (cond (is_one_of b (letter_c ∷ letter_p ∷ [])) (leb in_action p.section)
    (cond (is_one_of b (letter_e ∷ plus_sign ∷ [])) (eqb p.section in_action)
    (cond (is_one_of b (letter_l ∷ letter_q ∷ letter_r ∷ [])) (cond l.restricted false (eqb p.section in_action))
    (cond (eqb b letter_t) (leb 1 p.terms)
    (cond (eqb b letter_z) (eqb p.section in_goal)
    (cond (eqb b letter_k) (cond l.restricted false (leb in_action p.section))
    false)))))))))

-- a constant of 32 bits, two's complement
abbrev pub constant : ℕ → ℤ
constant = signed_of 4

-- the tests of the rules
abbrev pub outside : Limits → ℤ → Bool
outside l z = ltb l.constant (nat_abs z)

abbrev pub is_zero : ℤ → Bool
is_zero z = eqb (nat_abs z) 0

abbrev pub no_variable : ReadingState → ℕ → Bool
no_variable p v = leb p.declared.variables v

abbrev pub no_mode : ReadingState → ℕ → Bool
no_mode p m = leb p.declared.modes m

abbrev pub already_target : ReadingState → ℕ → Bool
already_target p t = leb 1 (get_or p.marks.targets_seen t 0)

abbrev pub no_room : Limits → ReadingState → Bool
no_room l p = leb l.numeric_effects p.counts.numeric_effects

abbrev pub not_below_size : ReadingState → ℕ → ℕ → Bool
not_below_size p m x = leb (get_or p.declared.sizes m 0) x

-- Of each command: its tests in the order 4, 5, 6, 7, each with the refusal that it gives; and below, the state after it.
unfoldable pub tests_of : Limits → ReadingState → Command → List (Bool × ℕ)
-- V lower upper start. 4: one variable too many. 6: a bound out of range, lower > upper, a start outside
tests_of l p (Variable lower upper start) =
    (leb l.variables p.declared.variables, 4)
    ∷ (outside l (constant lower), 6)
    ∷ (outside l (constant upper), 6)
    ∷ (not (le_z (constant lower) (constant upper)), 6)
    ∷ (not (le_z (constant lower) (constant start)), 6)
    ∷ (not (le_z (constant start) (constant upper)), 6)
    ∷ []
-- U start. 4: one variable too many. 6: out of range
tests_of l p (Start start) = (leb l.variables p.declared.variables, 4) ∷ (outside l (constant start), 6) ∷ []
-- M size start. 4: one mode too many. 5: a start not below the size, as any is where the size is 0. 6: a size over the limit
tests_of l p (Mode size start) = (leb l.modes p.declared.modes, 4) ∷ (leb size start, 5) ∷ (ltb l.size size, 6) ∷ []
-- A. 4: one action too many
tests_of l p Action = (leb l.actions p.actions, 4) ∷ []
-- C var relation constant. 4: one C too many. 5: no such variable, a relation over 3 (in a source file over 4). 6: out of range
tests_of l p (Condition v r k) =
    (leb l.conditions p.counts.conditions, 4) ∷ (no_variable p v, 5) ∷ (ltb l.relations r, 5) ∷ (outside l (constant k), 6) ∷ []
-- P mode value. 4: one P too many. 5: no such mode, a value not below its size
tests_of l p (ModeCondition m x) = (leb l.mode_conditions p.counts.mode_conditions, 4) ∷ (no_mode p m, 5) ∷ (not_below_size p m x, 5) ∷ []
-- E mode value. 5: as of P. 7: a second effect on the mode
tests_of l p (ModeEffect m x) = (no_mode p m, 5) ∷ (not_below_size p m x, 5) ∷ (leb 1 (get_or p.marks.modes_set m 0), 7) ∷ []
-- + var c. 4: one numeric effect too many. 5: no such variable. 6: c is 0 or out of range. 7: a target named twice
tests_of l p (Add v k) =
    (no_room l p, 4) ∷ (no_variable p v, 5) ∷ (is_zero (constant k), 6) ∷ (outside l (constant k), 6) ∷ (already_target p v, 7) ∷ []
-- L target w0. 4: one numeric effect too many. 5: no such variable. 6: out of range. 7: a target named twice
tests_of l p (Linear t k) = (no_room l p, 4) ∷ (no_variable p t, 5) ∷ (outside l (constant k), 6) ∷ (already_target p t, 7) ∷ []
-- T var weight. 4: a fifth. 5: no such variable. 6: the weight is 0 or out of range. 7: the variable a second time
tests_of l p (Term v k) =
    (ltb l.terms p.terms, 4)
    ∷ (no_variable p v, 5)
    ∷ (is_zero (constant k), 6)
    ∷ (outside l (constant k), 6)
    ∷ (leb 1 (get_or p.marks.terms_seen v 0), 7)
    ∷ []
-- Q and R, target operand c. 4: one numeric effect too many. 5: no such variable. 6: c is 0 or out of range. 7: a target named twice
tests_of l p (Quotient t y k) =
    (no_room l p, 4) ∷ (no_variable p t, 5) ∷ (no_variable p y, 5) ∷ (is_zero (constant k), 6) ∷ (outside l (constant k), 6) ∷ (already_target p t, 7) ∷ []
tests_of l p (Residue t y k) =
    (no_room l p, 4) ∷ (no_variable p t, 5) ∷ (no_variable p y, 5) ∷ (is_zero (constant k), 6) ∷ (outside l (constant k), 6) ∷ (already_target p t, 7) ∷ []
tests_of l p Goal = []
tests_of l p End = []
-- K relation constant. 4: one condition too many in the action or goal, one K too many in the task. 5: a relation over 4. 6: out of range
tests_of l p (Sum r k) =
    (leb l.conditions p.counts.conditions, 4)
    ∷ (leb l.sums p.sums, 4)
    ∷ (ltb l.relations r, 5)
    ∷ (ltb l.sum_constant (nat_abs (constant k)), 6)
    ∷ []
-- the byte is no command's (1), or the file ends inside the operands (2)
tests_of l p (Refused reason) = (true, number_of reason) ∷ []

-- the state after a command that passes its tests
unfoldable pub next_of : ReadingState → Command → ReadingState
next_of p (Variable lower upper start) = with_variable p
next_of p (Start start) = with_variable p
next_of p (Mode size start) = with_mode p size
next_of p Action = opened p in_action (p.actions + 1)
next_of p (Condition v r k) = with_condition p
next_of p (ModeCondition m x) = with_mode_condition p
next_of p (ModeEffect m x) = with_mode_effect p m
next_of p (Add v k) = with_numeric_effect p v 0
next_of p (Linear t k) = with_numeric_effect p t 1
next_of p (Term v k) = with_term p v
next_of p (Quotient t y k) = with_numeric_effect p t 0
next_of p (Residue t y k) = with_numeric_effect p t 0
next_of p Goal = opened p in_goal p.actions
next_of p End = p
next_of p (Sum r k) = with_sum p
next_of p (Refused reason) = p

-- Z ends the commands; any other goes on
abbrev pub onwards : Command → ReadingState → Taken
onwards (Variable a b c) q = go_on q
onwards (Start a) q = go_on q
onwards (Mode a b) q = go_on q
onwards Action q = go_on q
onwards (Condition a b c) q = go_on q
onwards (ModeCondition a b) q = go_on q
onwards (ModeEffect a b) q = go_on q
onwards (Add a b) q = go_on q
onwards (Linear a b) q = go_on q
onwards (Term a b) q = go_on q
onwards (Quotient a b c) q = go_on q
onwards (Residue a b c) q = go_on q
onwards Goal q = go_on q
onwards End q = finish q
onwards (Sum a b) q = go_on q
onwards (Refused reason) q = go_on q

-- a command's own rule
abbrev pub own_rule_of : Limits → ReadingState → Command → Taken
own_rule_of l p c = rule p (tests_of l p c) (onwards c (next_of p c))

-- "14 when a K has no T, placed at the next command byte, after 1 and 2 there": at any command but a T (a refusal, 1 or 2, has byte 0). A
-- restricted file has no K
abbrev pub sum_tests : Limits → ReadingState → Command → List (Bool × ℕ)
sum_tests l p c = cond l.restricted [] (cond (is_one_of (byte_of c) (letter_t ∷ 0 ∷ [])) [] ((leb 1 p.bare_sum, 14) ∷ []))

-- a command whose byte may stand there: 14 comes before its own rule
abbrev pub rule_of : Limits → ReadingState → Command → Taken
rule_of l p c = rule p (sum_tests l p c) (own_rule_of l p c)

-- The command at the front of what remains of the file. 2: nothing remains. 1: its byte may not stand there, which goes before 2 of the
-- command
unfoldable pub take_of : Limits → ReadingState → List ℕ → Taken
take_of l p rest =
    cond (eqb (length rest) 0) (stop p 2)
    (cond (allowed l p (get_or rest 0 0)) (rule_of l p (command_at rest))
    (stop p 1))
