-- `lowering_stages::hold_of` meets its contract: the numbers of a Move into a hold. Assumes nothing.
use mir.Facts.{to_z-of_z}
use Rattle.lowering_stages.proofs.Making.{hold-stands}
use Rattle.lowering_stages.proofs.hold_of.Goals as goal

pub returns : goal.returns
returns c =
    let g = to_z-of_z c.ranges.gives in
    rw g (hold-stands c.args.a c.args.e c.args.v c.hold_number.result c.args.gives
    c.hold_number.ensures c.requires.2)
