-- `plan_project::source_of` meets its contract. Assumes nothing.
use mathlib.Core.Path.{refl}
use Rattle.plan_project.proofs.Filling.{entry_in, entry-out}
use Rattle.plan_project.proofs.source_of.Goals as goal

pub returns-then-i-lt-OPENINGS : goal.returns-then-i-lt-OPENINGS
returns-then-i-lt-OPENINGS c = entry_in c.args.sources.now _ c.args.number refl c.if-i-lt-OPENINGS.true

pub returns : goal.returns
returns c = entry-out c.args.sources.now _ c.args.number refl c.if-i-lt-OPENINGS.false
