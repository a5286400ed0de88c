-- `lowering_file::put_zeros` meets its contract: the loop writes each U. Assumes nothing.
use mathlib.Core.Path.{sym}
use Rattle.lists.proofs.Writing.{room_as, wrote_as}
use Rattle.lowering_rows.proofs.Loops.{writing_start, writing-room, writing-next, writing-end, writing-long}
use Rattle.lowering_file.proofs.File.{zeros}
use Rattle.lowering_file.proofs.put_zeros.Goals as goal

pub loop-init : goal.loop-init
loop-init c = writing_start

pub put_start-place-requires : goal.put_start-place-requires
put_start-place-requires c = writing-room c.loop.invariant c.loop-test.true
    (room_as (zeros c.args.n) c.requires)

pub loop-preserved : goal.loop-preserved
loop-preserved c = writing-next c.loop.invariant c.loop-test.true
    c.put_start-place.ensures

pub shape_of-out : goal.shape_of-out
shape_of-out c = writing-long c.loop.invariant

pub returns : goal.returns
returns c = wrote_as (sym (zeros c.args.n)) (writing-end c.loop.invariant c.loop-test.false)
