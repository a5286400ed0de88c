-- `lowering_stages::empty_of` meets its contract: the numbers of Empty and Clear. Assumes nothing.
use Rattle.lowering_stages.proofs.Making.{empty_stands}
use Rattle.lowering_stages.proofs.empty_of.Goals as goal

pub returns : goal.returns
returns c = empty_stands c.args.v
