-- `plan_project::put_openers` meets its contract. The loop's invariant is `Filling`: the actions passed have their entries, and there are no others.
-- Assumes nothing.
use native.Mathlib.Omega.{arith}
use lib.Seq.{length-take-le}
use Rattle.plan_project.proofs.Filling.{in_front, filling-start, filling-next, filling-end}
use Rattle.plan_project.proofs.put_openers.Goals as goal

pub loop-k-init : goal.loop-k-init
loop-k-init c = rw c.requires.0 (filling-start _ _)

pub bounds-sources-opening : goal.bounds-sources-opening
bounds-sources-opening c =
    let front = in_front c.args.openings.now c.args.count c.loop-k.k (omega arith) c.loop-k-test.true in
    omega (arith, front.1, c.requires.1.small c.loop-k.k front.0)

pub loop-k-preserved : goal.loop-k-preserved
loop-k-preserved c =
    let front = in_front c.args.openings.now c.args.count c.loop-k.k (omega arith) c.loop-k-test.true in
    filling-next c.requires.1 c.loop-k.invariant front.1 front.0

pub returns : goal.returns
returns c =
    let all = length-take-le c.args.count c.args.openings.now (omega arith) in
    filling-end c.requires.1 c.loop-k.invariant (omega (arith, all, c.loop-k-test.false))
