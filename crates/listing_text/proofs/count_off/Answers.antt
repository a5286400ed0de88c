-- `listing_text::count_off` meets its contract: five at once and four times one are nine at most. Assumes nothing.
use native.Mathlib.Omega.{arith}
use Rattle.listing_text.specs.Counting.{Off}
use Rattle.listing_text.proofs.Counting.{off_next, off-last}
use Rattle.listing_text.proofs.count_off.Goals as goal
use Rattle.listing_text.proofs.count_off.Lts as lts
use Rattle.listing_text.proofs.count_off.Reads as reads
use Rattle.listing_text.proofs.count_off.Tie as tie

-- what is counted off, one power after the other
six : (c : lts.After-take_off tie.the-claims reads.Pre reads.Post) → Off c.args.n c.args.power 6 4 c.take_off-six.result
six c = rw c.take_off-six.ensures (off_next 1 (omega arith) c.take_five-five.ensures)

seven : (c : lts.After-take_off2 tie.the-claims reads.Pre reads.Post) → Off c.args.n c.args.power 7 3 c.take_off-seven.result
seven c = rw c.take_off-seven.ensures (off_next 1 (omega arith) (six c.before))

eight : (c : lts.After-take_off3 tie.the-claims reads.Pre reads.Post) → Off c.args.n c.args.power 8 2 c.take_off-eight.result
eight c = rw c.take_off-eight.ensures (off_next 1 (omega arith) (seven c.before))

pub take_off-six-requires : goal.take_off-six-requires
take_off-six-requires c = (omega (arith, c.take_five-five.ensures.few), omega arith)

pub take_off-seven-requires : goal.take_off-seven-requires
take_off-seven-requires c = (omega (arith, (six c).few), omega arith)

pub take_off-eight-requires : goal.take_off-eight-requires
take_off-eight-requires c = (omega (arith, (seven c).few), omega arith)

pub take_off-requires : goal.take_off-requires
take_off-requires c = (omega (arith, (eight c).few), omega arith)

pub returns : goal.returns
returns c = off-last (rw c.take_off.ensures (off_next 1 (omega arith) (eight c.before)))
