-- `lowering_rows::put_conditions` meets its contract: the loop writes each C. Assumes nothing.
use mathlib.Core.Path.{refl, sym}
use Prim.Native.Nat.{◌+◌, ◌<◌}
use native.Mathlib.Omega.{arith}
use mir.Syntax.{w64}
use mir.Val.{SFits}
use mir.Facts.{to_z-of_z}
use borrow.Author.Rules.{rules}
use Rattle.lists.proofs.Writing.{room_as, wrote_as}
use Rattle.model.specs.Steps.{natural_at, integer_at}
use Rattle.file_parts.specs.Row.{conditions_in}
use Rattle.lowering_rows.proofs.Writing.{four_coded, four-all}
use Rattle.lowering_rows.proofs.Loops.{writing_start, writing-room, writing-next, writing-end, writing-long}
use Rattle.lowering_rows.proofs.put_conditions.Goals as goal

pub loop-i-init : goal.loop-i-init
loop-i-init c = (omega (arith, c.requires.writable.few.conditions), writing_start)

pub put_condition-place-requires : goal.put_condition-place-requires
put_condition-place-requires c =
    let i = c.loop-i.i in
    let b : SFits w64 (integer_at c.args.numbers.now i) = search rules in
    let k : i < natural_at c.args.marks.now 0 = omega (arith, c.loop-i-test.true) in
    let e = four_coded (natural_at c.args.marks.now (1 + i)) (natural_at c.args.marks.now (25 + i)) (integer_at c.args.numbers.now i) _ refl in
    rw (to_z-of_z b) (record {
      constant = c.requires.writable.constants i k;
      room = room_as e (writing-room c.loop-i.invariant.1 k (room_as (four-all (conditions_in c.args.marks.now c.args.numbers.now)) c.requires.room));
    })

pub loop-i-preserved : goal.loop-i-preserved
loop-i-preserved c =
    let i = c.loop-i.i in
    let b : SFits w64 (integer_at c.args.numbers.now i) = search rules in
    let k : i < natural_at c.args.marks.now 0 = omega (arith, c.loop-i-test.true) in
    let e = four_coded (natural_at c.args.marks.now (1 + i)) (natural_at c.args.marks.now (25 + i)) (integer_at c.args.numbers.now i) _ refl in
    (c.loop-i.invariant.0, writing-next c.loop-i.invariant.1 k (wrote_as (sym e) (rw (to_z-of_z b) at c.put_condition-place.ensures)))

pub shape_of-out : goal.shape_of-out
shape_of-out c = writing-long c.loop-i.invariant.1

pub returns : goal.returns
returns c = wrote_as (sym (four-all (conditions_in c.args.marks.now c.args.numbers.now)))
    (writing-end c.loop-i.invariant.1 (omega (arith, c.loop-i-test.false)))
