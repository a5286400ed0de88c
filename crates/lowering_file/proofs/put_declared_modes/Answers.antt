-- `lowering_file::put_declared_modes` meets its contract: the loop writes each M. Assumes nothing.
use native.Mathlib.Omega.{arith}
use Rattle.lowering_rows.proofs.Loops.{writing_start, writing-room, writing-next, writing-end, writing-long}
use borrow.Author.Rules.{rules}
use Rattle.lowering_file.proofs.put_declared_modes.Goals as goal

pub loop-i-init : goal.loop-i-init
loop-i-init c = writing_start

pub put_mode-place-requires : goal.put_mode-place-requires
put_mode-place-requires c = writing-room c.loop-i.invariant c.loop-i-test.true c.requires.room

pub loop-i-preserved : goal.loop-i-preserved
loop-i-preserved c = writing-next c.loop-i.invariant c.loop-i-test.true c.put_mode-place.ensures

pub shape_of-out : goal.shape_of-out
shape_of-out c = writing-long c.loop-i.invariant

pub returns : goal.returns
returns c = writing-end c.loop-i.invariant c.loop-i-test.false
