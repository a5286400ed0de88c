-- `lowering_stages::refill_of` meets its contract: the numbers of Refill. Assumes nothing.
use Rattle.lowering_stages.proofs.Making.{refill-stands}
use Rattle.lowering_stages.proofs.refill_of.Goals as goal

pub returns : goal.returns
returns c = refill-stands c.args.a c.args.t
