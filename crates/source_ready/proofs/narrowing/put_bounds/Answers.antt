-- `source_ready::narrowing::put_bounds` meets its contract. Assumes nothing.
use mathlib.Core.Path.{◌≡◌}
use mir.Facts.{to_z-of_z}
use native.Mathlib.Omega.{arith}
use borrow.Author.Rules.{rules}
use Rattle.source_ready.proofs.Values.{bounds-begin, bounds-more}
use Rattle.source_ready.proofs.narrowing.put_bounds.Goals as goal

pub loop-i-init : goal.loop-i-init
loop-i-init c = (omega arith, bounds-begin _ _ _ c.requires)

pub loop-i-preserved : goal.loop-i-preserved
loop-i-preserved c = (omega arith, bounds-more c.loop-i.i c.args.lower.now c.args.upper.now c.args.numbers.now c.loop-i.numbers c.loop-i.invariant.1 c.loop-i-test.true _ _ (search (to_z-of_z, rules)) (search (to_z-of_z, rules)))

pub returns : goal.returns
returns c = let v = c.loop-i.invariant in
    let e : c.loop-i.i ≡ 8 = omega arith in
    rw e at v.1
