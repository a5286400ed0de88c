-- `lowering_stages::next_stage` meets its contract. Assumes nothing.
use borrow.Author.Tests.{ne_eqb}
use Rattle.lowering_stages.proofs.next_stage.Goals as goal

pub returns-then-following-eq0 : goal.returns-then-following-eq0
returns-then-following-eq0 c = rw c.if-following-eq0.true

pub returns : goal.returns
returns c = rw (ne_eqb c.args.following 0 c.if-following-eq0.false)
