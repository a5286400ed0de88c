-- `listing_text::put_integer` meets its contract: a minus, and behind the sign the digits. Assumes nothing.
use native.Mathlib.Omega.{arith}
use mir.Facts.{to_z-of_z}
use Rattle.listing_text.proofs.Sign.{signed-some, signed-room, signed-wrote}
use Rattle.listing_text.proofs.put_integer.Goals as goal

pub put_number-requires : goal.put_number-requires
put_number-requires c = record { fits = omega (arith, c.requires.fits, signed-some c.args.z) }

pub put_natural-requires : goal.put_natural-requires
put_natural-requires c =
    let e = to_z-of_z c.ranges.z in
    rw (c.magnitude.ensures, e) (signed-room c.args.z c.put_number.ensures (rw e at c.behind_sign.ensures) c.requires)

pub returns : goal.returns
returns c =
    let e = to_z-of_z c.ranges.z in
    signed-wrote c.args.z c.put_number.ensures (rw e at c.behind_sign.ensures)
    (rw (c.magnitude.ensures, e) at c.put_natural.ensures)
