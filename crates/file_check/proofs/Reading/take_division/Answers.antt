-- `file_check::Reading::take_division` meets its contract: each exit is the first test that holds, and where none does the reading goes on.
-- Assumes nothing.
use mathlib.Core.Path.{refl, ap, ◌∙◌}
use Rattle.model.specs.ReadingState.{go_on}
use Rattle.model.specs.Rules.{tests_of, next_of}
use Rattle.file_check.proofs.Tests.{tests}
use Rattle.file_check.proofs.Taking.{stops, goes}
use Rattle.commands.specs.declared.Command.TheVariants.{Quotient}
use Rattle.file_check.proofs.Reading.take_division.Goals as goal

pub returns-then-has_no_room : goal.returns-then-has_no_room
unfolding tests_of
returns-then-has_no_room c =
    stops c.args.l.now c.args.self.now (refl {a = Quotient c.args.target c.args.operand c.args.divisor}) 0 (search tests)

pub returns-then-self-target : goal.returns-then-self-target
unfolding tests_of
returns-then-self-target c =
    stops c.args.l.now c.args.self.now (refl {a = Quotient c.args.target c.args.operand c.args.divisor}) 1 (search tests)

pub returns-then-self-operand : goal.returns-then-self-operand
unfolding tests_of
returns-then-self-operand c =
    stops c.args.l.now c.args.self.now (refl {a = Quotient c.args.target c.args.operand c.args.divisor}) 2 (search tests)

pub returns-then-is_zero : goal.returns-then-is_zero
unfolding tests_of
returns-then-is_zero c =
    stops c.args.l.now c.args.self.now (refl {a = Quotient c.args.target c.args.operand c.args.divisor}) 3 (search tests)

pub returns-then-is_outside : goal.returns-then-is_outside
unfolding tests_of
returns-then-is_outside c =
    stops c.args.l.now c.args.self.now (refl {a = Quotient c.args.target c.args.operand c.args.divisor}) 4 (search tests)

pub returns-then-is_marked : goal.returns-then-is_marked
unfolding tests_of
returns-then-is_marked c =
    stops c.args.l.now c.args.self.now (refl {a = Quotient c.args.target c.args.operand c.args.divisor}) 5 (search tests)

pub returns : goal.returns
unfolding tests_of next_of
returns c =
    ap go_on c.count_effect.ensures ∙ goes c.args.l.now c.args.self.now (refl {a = Quotient c.args.target c.args.operand c.args.divisor}) (search tests)
