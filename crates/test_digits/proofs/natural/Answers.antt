-- `test_digits::natural` is safe and ends: no number of 64 bits has more than 20 digits. Assumes nothing.
use native.Mathlib.Omega.{arith}
use Rattle.lists.proofs.Writing.{room_by, wrote-long}
use Rattle.listing_text.proofs.Digits.{at_most}
use Rattle.test_digits.proofs.natural.Goals as goal

pub put_natural-size-requires : goal.put_natural-size-requires
put_natural-size-requires g c = room_by (omega (arith, at_most 19 c.args.n (omega arith)))

pub line-requires : goal.line-requires
line-requires g c =
    let w = c.put_natural-size.ensures in
    omega (arith, w.place, wrote-long w, at_most 19 c.args.n (omega arith))
