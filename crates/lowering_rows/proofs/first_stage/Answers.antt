-- `lowering_rows::first_stage` meets its contract. Assumes nothing.
use borrow.Author.Tests.{ne_eqb}
use Rattle.lowering_rows.proofs.first_stage.Goals as goal

pub returns-then-count-eq0 : goal.returns-then-count-eq0
returns-then-count-eq0 c = rw c.if-count-eq0.true

pub returns : goal.returns
returns c = rw (ne_eqb c.args.count 0 c.if-count-eq0.false)
