-- `source_ready::narrowing::mark` meets its contract. Assumes nothing.
use Rattle.source_ready.proofs.narrowing.mark.Goals as goal

pub returns : goal.returns
returns c = rw c.from-i.ensures
