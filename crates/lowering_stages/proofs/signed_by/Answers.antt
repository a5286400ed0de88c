-- `lowering_stages::signed_by` meets its contract: as it is, or its opposite. Assumes nothing.
use mir.Facts.{to_z-of_z}
use Rattle.lowering_stages.proofs.Numbers.{zero_minus, minus-fits}
use Rattle.lowering_stages.proofs.signed_by.Goals as goal

pub returns-then-falls : goal.returns-then-falls
returns-then-falls c = rw (c.if-falls.true, to_z-of_z c.ranges.x)

pub overflow_sub-result : goal.overflow_sub-result
overflow_sub-result c = rw (to_z-of_z c.ranges.x) (minus-fits c.args.x c.requires)

pub returns-else-falls : goal.returns-else-falls
returns-else-falls c = rw (c.if-falls.false, to_z-of_z c.ranges.x, to_z-of_z (minus-fits c.args.x c.requires)) (zero_minus c.args.x)
