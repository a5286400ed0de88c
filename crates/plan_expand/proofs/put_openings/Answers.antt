-- `plan_expand::put_openings` meets its contract. The loop's invariant is `Opening`: what is left to write are the openings of what is left of the plan.
-- Assumes nothing.
use native.Mathlib.Omega.{arith}
use Rattle.plan_bytes.proofs.Steps.{halves_long}
use Rattle.plan_expand.proofs.Writing.{opening-begins, opening-ends, opening-as-long, opening-room, opening-goes}
use Rattle.plan_expand.proofs.put_openings.Goals as goal

pub loop-i-init : goal.loop-i-init
loop-i-init c = opening-begins _ _ _

pub action_of-k-requires : goal.action_of-k-requires
action_of-k-requires c = omega (arith, halves_long c.args.plan.now, c.loop-i-test.true, c.requires.0)

pub bounds-openings-k : goal.bounds-openings-k
bounds-openings-k c = omega (arith, c.action_of-k.ensures, c.requires.1 c.loop-i.i (omega (arith, c.loop-i-test.true, c.requires.0)))

pub put_number-place-requires : goal.put_number-place-requires
put_number-place-requires c =
    opening-room c.loop-i.invariant (omega (arith, c.loop-i-test.true, c.requires.0)) _ c.action_of-k.ensures
    (omega (arith, c.requires.0, c.requires.2))

pub loop-i-preserved : goal.loop-i-preserved
loop-i-preserved c =
    opening-goes c.loop-i.invariant (omega (arith, c.loop-i-test.true, c.requires.0)) _ c.action_of-k.ensures c.put_number-place.ensures

pub shape_of-out : goal.shape_of-out
shape_of-out c = opening-as-long c.loop-i.invariant

pub returns : goal.returns
returns c = opening-ends c.loop-i.invariant (omega (arith, c.loop-i-test.false, c.requires.0))
