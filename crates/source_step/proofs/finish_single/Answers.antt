-- `source_step::finish_single` meets its contract: the result, then the modes. Assumes nothing.
use borrow.Author.Tests.{not-true, not-false}
use Rattle.source_step.proofs.Single.{leaves_all, settles-all}
use mathlib.Core.Path.{ap}
use mathlib.Core.Bool.{not}
use Rattle.source_step.proofs.finish_single.Goals as goal

pub returns-then-not-settle : goal.returns-then-not-settle
returns-then-not-settle c = leaves_all _ _ _ _ (rw (not-true c.settle.result (ap not c.if-not-settle.true)) at c.settle.ensures)

pub returns : goal.returns
returns c =
    settles-all _ _ _ _ (rw (not-false c.settle.result (ap not c.if-not-settle.false)) at c.settle.ensures) c.set_modes.ensures
