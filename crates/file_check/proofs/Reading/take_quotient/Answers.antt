-- `file_check::Reading::take_quotient` meets its contract: the command is cut short, or the tests that Q and R share decide. Assumes nothing.
use mathlib.Core.Path.{refl, sym, ◌∙◌}
use borrow.Author.Rules.{rules}
use lib.Dec.{lit<}
use Rattle.commands.proofs.Known.{cut_short}
use Rattle.model.specs.Rules.{tests_of, next_of}
use Rattle.file_check.proofs.Taking.{stops, reads}
use Rattle.file_check.proofs.Reading.take_quotient.Goals as goal

pub returns-in_default : goal.returns-in_default
unfolding tests_of
returns-in_default c =
    stops c.args.l.now c.args.self.now
    (cut_short c.args.rest.now 10 (lit< tt) c.requires.0 c.requires.1 c.read_quotient.result c.read_quotient.ensures (search rules)) 0 refl

pub returns : goal.returns
unfolding tests_of next_of
returns c =
    reads c.args.l.now c.args.self.now (sym c.read_quotient.ensures ∙ c.in-Quotient.is) c.take_division.ensures
