-- `file_check::Reading::take_action` meets its contract: each exit is the first test that holds, and where none does the reading goes on.
-- Assumes nothing.
use mathlib.Core.Path.{refl, ap, ◌∙◌}
use Rattle.model.specs.ReadingState.{go_on}
use Rattle.model.specs.Rules.{tests_of, next_of}
use Rattle.file_check.proofs.Tests.{tests}
use Rattle.file_check.proofs.Taking.{stops, goes}
use Rattle.commands.specs.declared.Command.TheVariants.{Action}
use Rattle.file_check.proofs.Reading.take_action.Goals as goal

pub returns-then-l-self : goal.returns-then-l-self
unfolding tests_of
returns-then-l-self c =
    stops c.args.l.now c.args.self.now (refl {a = Action}) 0 (search tests)

pub returns : goal.returns
unfolding tests_of next_of
returns c =
    ap go_on c.«open».ensures ∙ goes c.args.l.now c.args.self.now (refl {a = Action}) (search tests)
