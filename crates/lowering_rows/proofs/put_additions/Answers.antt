-- `lowering_rows::put_additions` meets its contract: the loop writes each +. Assumes nothing.
use Rattle.lowering_rows.proofs.Writing.{addition-coded}
use Rattle.lists.proofs.Writing.{room_as, wrote_as}
use mir.Syntax.{w64}
use mir.Val.{SFits}
use mir.Facts.{to_z-of_z}
use mathlib.Core.Path.{refl, sym}
use Prim.Native.Nat.{◌+◌, ◌<◌}
use Rattle.model.specs.Steps.{natural_at, integer_at}
use Rattle.lowering_rows.proofs.Loops.{writing_start, writing-room, writing-next, writing-end, writing-long}
use native.Mathlib.Omega.{arith}
use borrow.Author.Rules.{rules}
use Rattle.lowering_rows.proofs.put_additions.Goals as goal

pub loop-i-init : goal.loop-i-init
loop-i-init c = (omega (arith, c.requires.writable.few.additions), writing_start)

pub bits-bits-requires : goal.bits-bits-requires
bits-bits-requires c =
    let b : SFits w64 (integer_at c.args.numbers.now (24 + c.loop-i.i)) = search rules in
    let l : c.loop-i.i < natural_at c.args.marks.now 99 = omega (arith, c.loop-i-test.true) in
    rw (to_z-of_z b) (c.requires.writable.amounts c.loop-i.i l)

pub put_add-place-requires : goal.put_add-place-requires
put_add-place-requires c =
    let b : SFits w64 (integer_at c.args.numbers.now (24 + c.loop-i.i)) = search rules in
    let e = addition-coded (natural_at c.args.marks.now (100 + c.loop-i.i)) (integer_at c.args.numbers.now (24 + c.loop-i.i)) _ _ refl (rw (to_z-of_z b) at c.bits-bits.ensures) in
    let l : c.loop-i.i < natural_at c.args.marks.now 99 = omega (arith, c.loop-i-test.true) in
    room_as e (writing-room c.loop-i.invariant.1 l c.requires.room)

pub loop-i-preserved : goal.loop-i-preserved
loop-i-preserved c =
    let b : SFits w64 (integer_at c.args.numbers.now (24 + c.loop-i.i)) = search rules in
    let e = addition-coded (natural_at c.args.marks.now (100 + c.loop-i.i)) (integer_at c.args.numbers.now (24 + c.loop-i.i)) _ _ refl (rw (to_z-of_z b) at c.bits-bits.ensures) in
    let l : c.loop-i.i < natural_at c.args.marks.now 99 = omega (arith, c.loop-i-test.true) in
    (c.loop-i.invariant.0, writing-next c.loop-i.invariant.1 l (wrote_as (sym e) c.put_add-place.ensures))

pub shape_of-out : goal.shape_of-out
shape_of-out c = writing-long c.loop-i.invariant.1

pub returns : goal.returns
returns c = writing-end c.loop-i.invariant.1 (omega (arith, c.loop-i-test.false))
