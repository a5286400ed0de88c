-- `lowering_stages::move_of` meets its contract: the numbers of Move. Assumes nothing.
use mir.Facts.{to_z-of_z}
use Rattle.lowering_stages.proofs.Making.{move-stands}
use Rattle.lowering_stages.proofs.move_of.Goals as goal

pub returns : goal.returns
returns c = rw (to_z-of_z c.ranges.lower, to_z-of_z c.ranges.upper) (move-stands c.args.t c.args.v c.args.lower c.args.upper c.requires.0 c.requires.1)
