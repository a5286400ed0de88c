-- `file_check::Reading::take_mode` meets its contract: each exit is the first test that holds, and where none does the reading goes on.
-- Assumes nothing.
use mathlib.Core.Path.{refl, sym, ◌∙◌}
use borrow.Author.Rules.{rules}
use lib.Dec.{lit<}
use Rattle.commands.proofs.Known.{cut_short}
use Rattle.model.specs.Rules.{tests_of, next_of}
use Rattle.file_check.proofs.Tests.{tests}
use Rattle.file_check.proofs.Taking.{stops, goes}
use Rattle.file_check.proofs.Reading.take_mode.Goals as goal

pub returns-in_default : goal.returns-in_default
unfolding tests_of
returns-in_default c =
    stops c.args.l.now c.args.self.now
    (cut_short c.args.rest.now 2 (lit< tt) c.requires.0 c.requires.1 c.read_mode.result c.read_mode.ensures (search rules)) 0 refl

pub returns-then-l-self : goal.returns-then-l-self
unfolding tests_of
returns-then-l-self c =
    stops c.args.l.now c.args.self.now (sym c.read_mode.ensures ∙ c.in-Mode.is) 0 (search tests)

pub returns-then-size-start : goal.returns-then-size-start
unfolding tests_of
returns-then-size-start c =
    stops c.args.l.now c.args.self.now (sym c.read_mode.ensures ∙ c.in-Mode.is) 1 (search tests)

pub returns-then-l-size : goal.returns-then-l-size
unfolding tests_of
returns-then-l-size c =
    stops c.args.l.now c.args.self.now (sym c.read_mode.ensures ∙ c.in-Mode.is) 2 (search tests)

pub returns : goal.returns
unfolding tests_of next_of
returns c =
    rw c.put_size.ensures (goes c.args.l.now c.args.self.now (sym c.read_mode.ensures ∙ c.in-Mode.is) (search tests))
