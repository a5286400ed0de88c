-- `plan_strokes::put_one` meets its contract. Assumes nothing.
use mir.Facts.{to_z-of_z}
use Rattle.plan_strokes.proofs.Making.{one_more}
use Rattle.plan_strokes.proofs.put_one.Goals as goal

pub returns : goal.returns
returns c = rw (to_z-of_z c.ranges.z) (one_more c.args.times.now c.args.at c.args.z c.requires.0 c.requires.1)
