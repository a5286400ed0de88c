-- `listing::put_fields` meets its contract: the values, and the line's end. Assumes nothing.
use native.Mathlib.Omega.{arith}
use lib.ListN.{take}
use Rattle.lists.proofs.Writing.{step, done, wrote-long}
use Rattle.listing.proofs.Lines.{fields-begin, room-next, room-for-next}
use Rattle.listing.proofs.put_fields.Goals as goal

pub put_values-end-requires : goal.put_values-end-requires
put_values-end-requires c =
    let begun = fields-begin (take c.args.n c.args.values.now) c.args.out.now c.args.at in
    (c.requires.0, c.requires.1, room-for-next begun (omega arith) c.requires.2)

pub put_number-requires : goal.put_number-requires
put_number-requires c =
    let begun = fields-begin (take c.args.n c.args.values.now) c.args.out.now c.args.at in
    room-next (step begun c.put_values-end.ensures.0) (omega (arith, c.put_values-end.ensures.1)) c.requires.2

pub shape_of-out : goal.shape_of-out
shape_of-out c =
    let begun = fields-begin (take c.args.n c.args.values.now) c.args.out.now c.args.at in
    wrote-long (done (step (step begun c.put_values-end.ensures.0) c.put_number.ensures))

pub returns : goal.returns
returns c =
    let begun = fields-begin (take c.args.n c.args.values.now) c.args.out.now c.args.at in (
      done (step (step begun c.put_values-end.ensures.0) c.put_number.ensures),
      omega (arith, c.put_number.ensures.place, c.put_values-end.ensures.1),
    )
