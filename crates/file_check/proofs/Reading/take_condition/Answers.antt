-- `file_check::Reading::take_condition` meets its contract: each exit is the first test that holds, and where none does the reading goes on.
-- Assumes nothing.
use mathlib.Core.Path.{refl, sym, ◌∙◌}
use borrow.Author.Rules.{rules}
use lib.Dec.{lit<}
use Rattle.commands.proofs.Known.{cut_short}
use Rattle.model.specs.Rules.{tests_of, next_of}
use Rattle.file_check.proofs.Tests.{tests}
use Rattle.file_check.proofs.Taking.{stops, goes}
use Rattle.file_check.proofs.Reading.take_condition.Goals as goal

pub returns-in_default : goal.returns-in_default
unfolding tests_of
returns-in_default c =
    stops c.args.l.now c.args.self.now
    (cut_short c.args.rest.now 4 (lit< tt) c.requires.0 c.requires.1 c.read_condition.result c.read_condition.ensures (search rules)) 0 refl

pub returns-then-has_no_room_for_condition : goal.returns-then-has_no_room_for_condition
unfolding tests_of
returns-then-has_no_room_for_condition c =
    stops c.args.l.now c.args.self.now (sym c.read_condition.ensures ∙ c.in-Condition.is) 0 (search tests)

pub returns-then-self-variable : goal.returns-then-self-variable
unfolding tests_of
returns-then-self-variable c =
    stops c.args.l.now c.args.self.now (sym c.read_condition.ensures ∙ c.in-Condition.is) 1 (search tests)

pub returns-then-l-relation : goal.returns-then-l-relation
unfolding tests_of
returns-then-l-relation c =
    stops c.args.l.now c.args.self.now (sym c.read_condition.ensures ∙ c.in-Condition.is) 2 (search tests)

pub returns-then-is_outside : goal.returns-then-is_outside
unfolding tests_of
returns-then-is_outside c =
    stops c.args.l.now c.args.self.now (sym c.read_condition.ensures ∙ c.in-Condition.is) 3 (search tests)

pub returns : goal.returns
unfolding tests_of next_of
returns c =
    goes c.args.l.now c.args.self.now (sym c.read_condition.ensures ∙ c.in-Condition.is) (search tests)
