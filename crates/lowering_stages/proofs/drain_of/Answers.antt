-- `lowering_stages::drain_of` meets its contract: the numbers of Drain. Assumes nothing.
use mir.Facts.{to_z-of_z}
use Rattle.lowering_stages.proofs.Making.{drain-stands}
use Rattle.lowering_stages.proofs.drain_of.Goals as goal

pub returns : goal.returns
returns c = rw (to_z-of_z c.ranges.w) (drain-stands c.args.a c.args.t c.args.w c.requires.1)
