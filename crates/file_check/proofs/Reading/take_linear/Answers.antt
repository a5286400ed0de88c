-- `file_check::Reading::take_linear` meets its contract: each exit is the first test that holds, and where none does the reading goes on.
-- Assumes nothing.
use mathlib.Core.Path.{refl, sym, ap, ◌∙◌}
use borrow.Author.Rules.{rules}
use lib.Dec.{lit<}
use Rattle.commands.proofs.Known.{cut_short}
use Rattle.model.specs.ReadingState.{go_on}
use Rattle.model.specs.Rules.{tests_of, next_of}
use Rattle.file_check.proofs.Tests.{tests}
use Rattle.file_check.proofs.Taking.{stops, goes}
use Rattle.file_check.proofs.Reading.take_linear.Goals as goal

pub returns-in_default : goal.returns-in_default
unfolding tests_of
returns-in_default c =
    stops c.args.l.now c.args.self.now
    (cut_short c.args.rest.now 8 (lit< tt) c.requires.0 c.requires.1 c.read_linear.result c.read_linear.ensures (search rules)) 0 refl

pub returns-then-has_no_room : goal.returns-then-has_no_room
unfolding tests_of
returns-then-has_no_room c =
    stops c.args.l.now c.args.self.now (sym c.read_linear.ensures ∙ c.in-Linear.is) 0 (search tests)

pub returns-then-self-target : goal.returns-then-self-target
unfolding tests_of
returns-then-self-target c =
    stops c.args.l.now c.args.self.now (sym c.read_linear.ensures ∙ c.in-Linear.is) 1 (search tests)

pub returns-then-is_outside : goal.returns-then-is_outside
unfolding tests_of
returns-then-is_outside c =
    stops c.args.l.now c.args.self.now (sym c.read_linear.ensures ∙ c.in-Linear.is) 2 (search tests)

pub returns-then-is_marked : goal.returns-then-is_marked
unfolding tests_of
returns-then-is_marked c =
    stops c.args.l.now c.args.self.now (sym c.read_linear.ensures ∙ c.in-Linear.is) 3 (search tests)

pub returns : goal.returns
unfolding tests_of next_of
returns c =
    ap go_on c.count_effect.ensures ∙ goes c.args.l.now c.args.self.now (sym c.read_linear.ensures ∙ c.in-Linear.is) (search tests)
