-- `plan_strokes::put_held` meets its contract. The loop's invariant: the strokes made, and behind them those of the effects that are left, are
-- those of all effects; what the effects passed give stands in the results. Assumes nothing.
use Prim.Native.Nat.{◌-◌, ◌≤◌}
use native.Mathlib.Omega.{arith}
use mir.Facts.{to_z-of_z}
use mir.Syntax.{w64}
use mir.Val.{SFits}
use lib.IntN.{pos}
use lib.ListN.{get_or}
use Rattle.plan_strokes.proofs.Making.{holding-start, holding-last, holding-next, holding-end}
use borrow.Author.Rules.{rules}
use Rattle.plan_strokes.proofs.put_held.Goals as goal
use Rattle.plan_strokes.proofs.put_held.Goals.{After-put_result-place}

pub loop-e-init : goal.loop-e-init
loop-e-init c =
    holding-start c.args.n c.args.marks.now c.args.numbers.now c.args.values.now c.requires.0 c.requires.1

pub put_result-place-requires : goal.put_result-place-requires
put_result-place-requires c =
    let g = c.loop-e.invariant in
    (omega (arith, g.few, c.loop-e-test.true, c.requires.3), g.long, c.requires.2, omega (arith, c.loop-e-test.true, c.requires.3))

-- the last stroke is one of the times
last : (c : After-put_result-place) → (1 ≤ c.put_result-place.result) × (c.put_result-place.result ≤ 33)
last c =
    holding-last c.loop-e.invariant (omega (arith, c.loop-e-test.true, c.requires.3)) c.put_result-place.ensures

pub overflow_sub-last : goal.overflow_sub-last
overflow_sub-last c = (last c).0

pub offset_bounds-times-last : goal.offset_bounds-times-last
offset_bounds-times-last c = omega (arith, (last c).1)

pub bounds-times-last : goal.bounds-times-last
bounds-times-last c = omega (arith, (last c).0, (last c).1)

pub loop-e-preserved : goal.loop-e-preserved
loop-e-preserved c =
    let p = c.put_result-place in
    let a : SFits w64 (get_or p.new.times (p.result - 1) (pos 0)) = search rules in
    rw (to_z-of_z a) (holding-next c.loop-e.invariant (omega (arith, c.loop-e-test.true, c.requires.3)) p.ensures)

pub returns : goal.returns
returns c = holding-end c.loop-e.invariant (omega (arith, c.requires.3, c.loop-e-test.false))
