-- `source_ready::narrowing::put_sizes` meets its contract. Assumes nothing.
use mathlib.Core.Path.{◌≡◌}
use native.Mathlib.Omega.{arith}
use Rattle.source_ready.proofs.Modes.{sizes_begin, sizes-more}
use Rattle.source_ready.proofs.narrowing.put_sizes.Goals as goal

pub loop-i-init : goal.loop-i-init
loop-i-init c = (omega arith, sizes_begin _ _ c.requires.0)

pub overflow_sub-marks : goal.overflow_sub-marks
overflow_sub-marks c = c.requires.1.some c.loop-i.i c.loop-i-test.true

pub loop-i-preserved : goal.loop-i-preserved
loop-i-preserved c = let some = c.requires.1.some c.loop-i.i c.loop-i-test.true in
    (omega arith, sizes-more c.loop-i.i c.args.sizes.now c.args.marks.now c.loop-i.marks c.loop-i.invariant.1 (omega arith) _ (omega arith))

pub returns : goal.returns
returns c = let v = c.loop-i.invariant in
    let e : c.loop-i.i ≡ c.args.m = omega arith in
    rw e at v.1
