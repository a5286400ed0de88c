-- `file_check::Reading::take_goal` meets its contract: no test stands in front of a G. Assumes nothing.
use mathlib.Core.Path.{ap}
use Rattle.model.specs.ReadingState.{go_on}
use Rattle.model.specs.Rules.{tests_of, next_of}
use Rattle.file_check.proofs.Reading.take_goal.Goals as goal

pub returns : goal.returns
unfolding tests_of next_of
returns c = ap go_on c.«open».ensures
