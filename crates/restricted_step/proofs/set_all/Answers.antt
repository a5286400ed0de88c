-- `restricted_step::set_all` meets its contract: the mode effects not yet made, from the modes so far, give what all of them give from the
-- modes before. Assumes nothing.
use mathlib.Core.Path.{refl}
use Rattle.restricted_step.proofs.Effects.{set-fold}
use Rattle.restricted_step.proofs.Loops.{change-start, change-next, change-end}
use Rattle.restricted_step.proofs.set_all.Goals as goal

pub loop-i-init : goal.loop-i-init
loop-i-init c = change-start refl

pub loop-i-preserved : goal.loop-i-preserved
loop-i-preserved c = change-next c.loop-i.invariant c.loop-i-test.true

pub returns : goal.returns
returns c = rw set-fold (change-end c.loop-i.invariant c.loop-i-test.false)
