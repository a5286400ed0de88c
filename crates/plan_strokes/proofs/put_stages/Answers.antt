-- `plan_strokes::put_stages` meets its contract, stage by stage. Assumes nothing.
use native.Mathlib.Omega.{arith}
use borrow.Author.Rules.{rules}
use lib.ListN.{get_or, take, length-take}
use lib.IntN.{pos}
use mir.Facts.{to_z-of_z}
use mir.Syntax.{w64}
use mir.Val.{SFits}
use Rattle.plan_strokes.proofs.Writing.{stepping-start, stepping-room, stepping-next, stepping-end, stepping-long}
use Rattle.plan_strokes.proofs.put_stages.Goals as goal

pub loop-z-init : goal.loop-z-init
loop-z-init c = stepping-start c.args.first (take c.args.count c.args.times.now) _ _

pub put_stage-place-requires : goal.put_stage-place-requires
put_stage-place-requires c =
    let g = c.loop-z.invariant in
    let h = c.loop-z-test.true in
    let f : SFits w64 (get_or (take c.args.count c.args.times.now) c.loop-z.z-index (pos 0)) = search rules in
    record {
      first_bound = omega (arith, g.numbered, h, length-take c.args.count c.args.times.now, c.requires.first_bound);
      room = rw (to_z-of_z f) (stepping-room g h c.requires.room);
    }

pub overflow_add-number : goal.overflow_add-number
overflow_add-number c =
    omega (arith, c.loop-z.invariant.numbered, c.loop-z-test.true, length-take c.args.count c.args.times.now, c.requires.first_bound)

pub loop-z-preserved : goal.loop-z-preserved
loop-z-preserved c =
    let f : SFits w64 (get_or (take c.args.count c.args.times.now) c.loop-z.z-index (pos 0)) = search rules in
    stepping-next c.loop-z.invariant c.loop-z-test.true (simp (to_z-of_z, f) at c.put_stage-place.ensures)

pub shape_of-out : goal.shape_of-out
shape_of-out c = stepping-long c.loop-z.invariant

pub returns : goal.returns
returns c = stepping-end c.loop-z.invariant c.loop-z-test.false
