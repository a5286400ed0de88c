-- `listing::put_part` meets its contract: the output has room for the most bytes, so the part stands in it. Assumes nothing.
use native.Mathlib.Omega.{arith}
use Rattle.listing.proofs.Lines.{room_most}
use Rattle.listing.proofs.Parts.{stands}
use Rattle.listing.proofs.put_part.Goals as goal

pub put_rest-requires : goal.put_rest-requires
put_rest-requires c = record { most_nonzero = (omega arith, c.requires.1); room_for = room_most c.requires.0 }

pub returns : goal.returns
returns c = stands c.requires.0 c.put_rest.ensures
