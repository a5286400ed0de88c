-- `lowering_rows::put_mode_parts` meets its contract: the loop writes each P, or each E. Assumes nothing.
use mathlib.Core.Path.{refl, sym, ap, subst}
use mathlib.Core.List.{List, flat_map}
use Prim.Native.Nat.{ℕ, ◌+◌}
use Rattle.lists.specs.Each.{tabulate}
use Rattle.lists.proofs.Writing.{room_as, wrote_as}
use Rattle.model.specs.Steps.{natural_at}
use Rattle.lowering_rows.specs.declared.ModePart.{ModePart}
use Rattle.lowering_rows.specs.Bytes.{mode_part_bytes, part_at}
use Rattle.lowering_rows.proofs.Loops.{writing_start, writing-room, writing-next, writing-end, writing-long}
use Rattle.lowering_rows.proofs.Writing.{There, parts-there, mode-part-coded}
use Rattle.lowering_rows.proofs.put_mode_parts.Goals as goal

-- the bytes, by the places
abbrev bytes : ModePart → List ℕ → ℕ × ℕ × ℕ → List ℕ
bytes part marks places = flat_map (mode_part_bytes part) (tabulate (natural_at marks places.0) (part_at places marks))

pub loop-i-init : goal.loop-i-init
loop-i-init c = (subst (There c.args.marks.now) (sym c.places_of-counted.ensures) (parts-there c.requires.fit c.args.part), writing_start)

pub put_mode_part-place-requires : goal.put_mode_part-place-requires
put_mode_part-place-requires c =
    let marks = c.args.marks.now in
    let p = c.places_of-counted.result in
    let room = room_as (ap (bytes c.args.part marks) (sym c.places_of-counted.ensures)) c.requires.room in
    room_as (mode-part-coded c.args.part (natural_at marks (p.1 + c.loop-i.i)) (natural_at marks (p.2 + c.loop-i.i)) _ refl)
    (writing-room c.loop-i.invariant.1 c.loop-i-test.true room)

pub loop-i-preserved : goal.loop-i-preserved
loop-i-preserved c =
    let marks = c.args.marks.now in
    let p = c.places_of-counted.result in
    let e = mode-part-coded c.args.part (natural_at marks (p.1 + c.loop-i.i)) (natural_at marks (p.2 + c.loop-i.i)) _ refl in
    (c.loop-i.invariant.0, writing-next c.loop-i.invariant.1 c.loop-i-test.true (wrote_as (sym e) c.put_mode_part-place.ensures))

pub shape_of-out : goal.shape_of-out
shape_of-out c = writing-long c.loop-i.invariant.1

pub returns : goal.returns
returns c = wrote_as (ap (bytes c.args.part c.args.marks.now) c.places_of-counted.ensures) (writing-end c.loop-i.invariant.1 c.loop-i-test.false)
