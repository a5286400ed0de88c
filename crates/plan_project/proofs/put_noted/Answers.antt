-- `plan_project::put_noted` meets its contract. The loop's invariant is `Copying`: of the numbers found, those not passed are left to write.
-- Assumes nothing.
use Rattle.lists.proofs.Writing.{long}
use Rattle.plan_project.proofs.Putting.{copying, copied, copy-room, copies}
use Rattle.plan_project.proofs.put_noted.Goals as goal

pub loop-source-init : goal.loop-source-init
loop-source-init c = copying _

pub put_number-place-requires : goal.put_number-place-requires
put_number-place-requires c = copy-room _ c.loop-source.invariant c.loop-source-test.true c.requires.0

pub loop-source-preserved : goal.loop-source-preserved
loop-source-preserved c = copies _ c.loop-source.invariant c.loop-source-test.true c.put_number-place.ensures

pub shape_of-out : goal.shape_of-out
shape_of-out c = long c.loop-source.invariant

pub returns : goal.returns
returns c = copied _ c.loop-source.invariant c.loop-source-test.false
