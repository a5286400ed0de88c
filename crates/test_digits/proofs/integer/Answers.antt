-- `test_digits::integer` is safe and ends: no number of 64 bits has more than 20 characters. Assumes nothing.
use mir.Facts.{to_z-of_z}
use native.Mathlib.Omega.{arith}
use Rattle.lists.proofs.Writing.{room_by, wrote-long}
use Rattle.listing_text.proofs.Sign.{signed-most}
use Rattle.test_digits.proofs.integer.Goals as goal

pub put_integer-size-requires : goal.put_integer-size-requires
put_integer-size-requires g c = room_by (rw (to_z-of_z c.ranges.z) (omega (arith, signed-most c.args.z c.ranges.z)))

pub line-requires : goal.line-requires
line-requires g c =
    let w = c.put_integer-size.ensures in
    let place = rw (to_z-of_z c.ranges.z) at w.place in
    omega (arith, place, wrote-long w, signed-most c.args.z c.ranges.z)
