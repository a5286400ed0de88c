-- `listing_text::put_natural` meets its contract: by the first power of ten tried that is above the number. Assumes nothing.
use native.Mathlib.Omega.{arith}
use Rattle.listing_text.proofs.Fronts.{power_at}
use Rattle.listing_text.proofs.put_natural.Goals as goal

pub put_digits-requires : goal.put_digits-requires
put_digits-requires c =
    let e = c.powers_of_ten-powers.ensures in
    (omega arith, omega arith, omega (arith, power_at e 1 (omega arith)), e, c.requires)

pub put_digits-requires-then-n-powers-2 : goal.put_digits-requires-then-n-powers-2
put_digits-requires-then-n-powers-2 c =
    let e = c.powers_of_ten-powers.ensures in
    (omega arith, omega arith, omega (arith, power_at e 4 (omega arith)), e, c.requires)

pub put_digits-requires-then-n-powers-3 : goal.put_digits-requires-then-n-powers-3
put_digits-requires-then-n-powers-3 c =
    let e = c.powers_of_ten-powers.ensures in
    (omega arith, omega arith, omega (arith, power_at e 6 (omega arith)), e, c.requires)

pub put_long-requires : goal.put_long-requires
put_long-requires c =
    (omega arith, omega arith, omega (arith, power_at c.powers_of_ten-powers.ensures 12 (omega arith)), c.requires)

pub put_long-requires-2 : goal.put_long-requires-2
put_long-requires-2 c = (omega arith, omega arith, omega arith, c.requires)
