-- `ruphenqo::ruphenqo_read_source` meets its contract. Assumes nothing.
use mathlib.Core.Path.{ap}
use Rattle.ruphenqo.specs.Told.{counts_of}
use Rattle.ruphenqo.proofs.Telling.{told-as}
use Rattle.ruphenqo.proofs.ruphenqo_read_source.Goals as goal

pub returns : goal.returns
returns c = told-as (ap counts_of c.check_source.ensures) c.tell_counts.ensures
