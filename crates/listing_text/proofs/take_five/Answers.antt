-- `listing_text::take_five` meets its contract: five times a power past a fifth of 64 bits are more than any number. Assumes nothing.
use native.Mathlib.Omega.{arith}
use borrow.Author.Rules.{rules}
use Rattle.listing_text.proofs.Counting.{off_next}
use Rattle.listing_text.proofs.take_five.Goals as goal

pub returns-then-power-gt-FIFTH : goal.returns-then-power-gt-FIFTH
returns-then-power-gt-FIFTH c = record { is = omega arith; few = omega arith; below = omega (arith, c.requires) }

pub take_off-requires : goal.take_off-requires
take_off-requires c = search (rules, arith)

pub returns : goal.returns
returns c =
    rw c.take_off.ensures (off_next {most = 0} 5 (omega arith) (record { is = omega arith; few = omega arith; below = omega (arith, c.requires) }))
