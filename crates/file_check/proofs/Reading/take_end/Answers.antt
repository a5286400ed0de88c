-- `file_check::Reading::take_end` meets its contract: no test stands in front of a Z. Assumes nothing.
use mathlib.Core.Path.{refl}
use Rattle.model.specs.Rules.{tests_of, next_of}
use Rattle.file_check.proofs.Reading.take_end.Goals as goal

pub returns : goal.returns
unfolding tests_of next_of
returns c = refl
