-- `source_sums::goal_sums` meets its contract. Assumes nothing.
use Rattle.source_sums.proofs.goal_sums.Goals as goal

pub returns : goal.returns
returns c = rw c.goal_from.ensures at c.decode_sums.ensures
