-- `listing::put_count` meets its contract: a space, and the number behind it. Assumes nothing.
use Rattle.lists.proofs.Writing.{step, done, room}
use Rattle.listing.proofs.Lines.{count-begins}
use Rattle.listing.proofs.put_count.Goals as goal

pub put_number-behind-requires : goal.put_number-behind-requires
put_number-behind-requires c = room c.requires (count-begins c.args.n _ _)

pub put_natural-requires : goal.put_natural-requires
put_natural-requires c = room c.requires (step (count-begins c.args.n _ _) c.put_number-behind.ensures)

pub returns : goal.returns
returns c = done (step (step (count-begins c.args.n _ _) c.put_number-behind.ensures) c.put_natural.ensures)
