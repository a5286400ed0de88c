-- `listing::list` meets its contract: what is left at first is the listing, which fits where its length, counted, or the most that it may have
-- does. Assumes nothing.
use native.Mathlib.Omega.{arith}
use Rattle.listing.specs.Lines.{for_these}
use Rattle.listing.proofs.Parts.{listing-short, listing-room, listing-written}
use Rattle.listing.proofs.list.Goals as goal

pub returns-then-out-need : goal.returns-then-out-need
returns-then-out-need c =
    rw c.at.ensures (listing-short c.args.out.now c.begin-rest.ensures c.needed-need.ensures c.if-out-need.true)

pub put_rest-part-requires : goal.put_rest-part-requires
put_rest-part-requires c =
    let room = listing-room c.args.out.now c.begin-rest.ensures c.needed-need.ensures c.if-out-need.false in
    record { most_nonzero = (omega arith, c.begin-rest.ensures.pending); room_for = for_these room }

pub returns : goal.returns
returns c =
    listing-written c.args.out.now c.begin-rest.ensures c.needed-need.ensures c.if-out-need.false
    c.put_rest-part.ensures.wrote
