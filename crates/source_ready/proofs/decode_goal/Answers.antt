-- `source_ready::decode_goal` meets its contract: the place is that of the goal. Assumes nothing.
use Rattle.source_ready.proofs.decode_goal.Goals as goal

pub returns : goal.returns
returns c = rw (c.goal_from.ensures, c.requires.1) at c.decode_source.ensures
