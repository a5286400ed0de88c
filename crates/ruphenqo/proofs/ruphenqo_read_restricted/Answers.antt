-- `ruphenqo::ruphenqo_read_restricted` meets its contract. Assumes nothing.
use mathlib.Core.Path.{ap}
use Rattle.ruphenqo.specs.Told.{counts_of}
use Rattle.ruphenqo.proofs.Telling.{told-as}
use Rattle.ruphenqo.proofs.ruphenqo_read_restricted.Goals as goal

pub returns : goal.returns
returns c = told-as (ap counts_of c.check_restricted.ensures) c.tell_counts.ensures
