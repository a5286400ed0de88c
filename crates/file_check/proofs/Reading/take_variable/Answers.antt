-- `file_check::Reading::take_variable` meets its contract: each exit is the first test that holds, and where none does the reading goes on.
-- Assumes nothing.
use mathlib.Core.Path.{refl, sym, ◌∙◌}
use borrow.Author.Rules.{rules}
use lib.Dec.{lit<}
use Rattle.commands.proofs.Known.{cut_short}
use Rattle.model.specs.Rules.{tests_of, next_of}
use Rattle.file_check.proofs.Tests.{tests}
use Rattle.file_check.proofs.Taking.{stops, goes}
use Rattle.file_check.proofs.Reading.take_variable.Goals as goal

pub returns-in_default : goal.returns-in_default
unfolding tests_of
returns-in_default c =
    stops c.args.l.now c.args.self.now
    (cut_short c.args.rest.now 0 (lit< tt) c.requires.0 c.requires.1 c.read_variable.result c.read_variable.ensures (search rules)) 0 refl

pub returns-then-l-self : goal.returns-then-l-self
unfolding tests_of
returns-then-l-self c =
    stops c.args.l.now c.args.self.now (sym c.read_variable.ensures ∙ c.in-Variable.is) 0 (search tests)

pub returns-then-is_outside : goal.returns-then-is_outside
unfolding tests_of
returns-then-is_outside c =
    stops c.args.l.now c.args.self.now (sym c.read_variable.ensures ∙ c.in-Variable.is) 1 (search tests)

pub returns-then-is_outside-2 : goal.returns-then-is_outside-2
unfolding tests_of
returns-then-is_outside-2 c =
    stops c.args.l.now c.args.self.now (sym c.read_variable.ensures ∙ c.in-Variable.is) 2 (search tests)

pub returns-then-not-bits_at_most : goal.returns-then-not-bits_at_most
unfolding tests_of
returns-then-not-bits_at_most c =
    stops c.args.l.now c.args.self.now (sym c.read_variable.ensures ∙ c.in-Variable.is) 3 (search tests)

pub returns-then-not-bits_at_most-2 : goal.returns-then-not-bits_at_most-2
unfolding tests_of
returns-then-not-bits_at_most-2 c =
    stops c.args.l.now c.args.self.now (sym c.read_variable.ensures ∙ c.in-Variable.is) 4 (search tests)

pub returns-then-not-bits_at_most-3 : goal.returns-then-not-bits_at_most-3
unfolding tests_of
returns-then-not-bits_at_most-3 c =
    stops c.args.l.now c.args.self.now (sym c.read_variable.ensures ∙ c.in-Variable.is) 5 (search tests)

pub returns : goal.returns
unfolding tests_of next_of
returns c =
    goes c.args.l.now c.args.self.now (sym c.read_variable.ensures ∙ c.in-Variable.is) (search tests)
