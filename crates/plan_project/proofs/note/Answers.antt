-- `plan_project::note` meets its contract: the number is stored where there is room. Assumes nothing.
use mathlib.Core.Path.{refl}
use borrow.Author.Tests.{lt-ltb, le-ltb}
use Rattle.plan_project.proofs.note.Goals as goal

pub returns-then-found-lt-NOTED : goal.returns-then-found-lt-NOTED
returns-then-found-lt-NOTED c = rw (lt-ltb c.args.found 512 c.if-found-lt-NOTED.true) refl

pub returns-else-found-lt-NOTED : goal.returns-else-found-lt-NOTED
returns-else-found-lt-NOTED c = rw (le-ltb c.args.found 512 c.if-found-lt-NOTED.false) refl
