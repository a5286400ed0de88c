-- `listing::put_values` meets its contract: the loop writes the field of each value. Assumes nothing.
use native.Mathlib.Omega.{arith}
use lib.IntN.{ℤ, pos}
use lib.ListN.{get_or, take}
use lib.Seq.{get_or-take, length-take-le}
use mir.Syntax.{w64}
use mir.Val.{SFits}
use mir.Facts.{to_z-of_z}
use Prim.Native.Nat.{◌<◌}
use Rattle.lists.proofs.Loops.{there-all}
use Rattle.lists.proofs.WritingLoops.{going_start, going-room, going_next, going_end, going-long}
use Rattle.model.specs.Steps.{integer_at}
use Rattle.listing_text.proofs.Sign.{signed-most}
use Rattle.listing.proofs.Lines.{room-either}
use borrow.Author.Rules.{rules}
use Rattle.listing.proofs.put_values.Goals as goal

pub loop-z-init : goal.loop-z-init
loop-z-init c = (going_start (there-all _ _ (omega arith)), omega arith)

pub put_field-place-requires : goal.put_field-place-requires
put_field-place-requires c =
    let all = length-take-le {A = ℤ} c.args.n c.args.values.now (omega arith) in
    let within : c.loop-z.z-index < c.args.n = omega (arith, all, c.loop-z-test.true) in
    let item = get_or-take {A = ℤ} c.args.n c.args.values.now c.loop-z.z-index (pos 0) within in
    let fits : SFits w64 (get_or (take c.args.n c.args.values.now) c.loop-z.z-index (pos 0)) = search rules in
    let z : SFits w64 (integer_at c.args.values.now c.loop-z.z-index) = rw item at fits in
    let g = c.loop-z.invariant in
    rw (item, to_z-of_z z)
    (room-either (omega (arith, signed-most _ z, g.1)) (going-long g.0) (going-room (pos 0) g.0 within) c.requires.2)

pub loop-z-preserved : goal.loop-z-preserved
loop-z-preserved c =
    let all = length-take-le {A = ℤ} c.args.n c.args.values.now (omega arith) in
    let within : c.loop-z.z-index < c.args.n = omega (arith, all, c.loop-z-test.true) in
    let item = get_or-take {A = ℤ} c.args.n c.args.values.now c.loop-z.z-index (pos 0) within in
    let fits : SFits w64 (get_or (take c.args.n c.args.values.now) c.loop-z.z-index (pos 0)) = search rules in
    let z : SFits w64 (integer_at c.args.values.now c.loop-z.z-index) = rw item at fits in
    let w = rw (item, to_z-of_z z) at c.put_field-place.ensures in
    (going_next (pos 0) c.loop-z.invariant.0 within w, omega (arith, w.place, signed-most _ z, c.loop-z.invariant.1))

pub shape_of-out : goal.shape_of-out
shape_of-out c = going-long c.loop-z.invariant.0

pub returns : goal.returns
returns c =
    let all = length-take-le {A = ℤ} c.args.n c.args.values.now (omega arith) in
    (going_end c.loop-z.invariant.0 (omega (arith, all, c.loop-z-test.false)), omega (arith, all))
