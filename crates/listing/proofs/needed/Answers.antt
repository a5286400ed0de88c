-- `listing::needed` meets its contract: what is left is counted, from a copy of the state, where the room may be too small. Assumes nothing.
use native.Mathlib.Omega.{arith}
use Rattle.model.specs.Plans.{plan_numbers}
use Rattle.listing.specs.Lines.{for_most}
use Rattle.listing.proofs.Parts.{most-fits, need-none, need-counted}
use Rattle.listing.proofs.needed.Goals as goal

pub most_of-requires : goal.most_of-requires
most_of-requires c =
    let s = c.args in
    most-fits s.rest (plan_numbers s.plan.now) s.marks.now s.numbers.now s.values.now s.modes.now c.requires

pub returns-then-most_of-room : goal.returns-then-most_of-room
returns-then-most_of-room c =
    let s = c.args in
    need-none s.room s.rest _ (omega (arith, c.if-most_of-room.true, c.most_of.ensures))

pub put_rest-counted-requires : goal.put_rest-counted-requires
put_rest-counted-requires c = record { most_nonzero = (omega arith, c.requires); room_for = for_most (omega arith) }

pub returns : goal.returns
returns c =
    let s = c.args in
    need-counted s.room s.rest (omega (arith, c.if-most_of-room.false, c.most_of.ensures)) c.put_rest-counted.ensures.wrote
