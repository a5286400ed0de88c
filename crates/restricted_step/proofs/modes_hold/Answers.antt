-- `restricted_step::modes_hold` meets its contract: the mode conditions not yet tested decide what all of them do. Assumes nothing.
use mathlib.Core.Path.{refl}
use borrow.Author.Tests.{eq-eqb, ne_eqb}
use Rattle.restricted_step.proofs.Tests.{modes-every}
use Rattle.restricted_step.proofs.Loops.{test-start, test-next, test-stop, test-end}
use Rattle.restricted_step.proofs.modes_hold.Goals as goal

pub loop-i-init : goal.loop-i-init
loop-i-init c = test-start refl

pub returns-then-modes-marks : goal.returns-then-modes-marks
returns-then-modes-marks c = rw modes-every (test-stop c.loop-i.invariant c.loop-i-test.true (ne_eqb _ _ c.if-modes-marks.true))

pub loop-i-preserved : goal.loop-i-preserved
loop-i-preserved c = test-next c.loop-i.invariant c.loop-i-test.true (eq-eqb _ _ c.if-modes-marks.false)

pub returns : goal.returns
returns c = rw modes-every (test-end c.loop-i.invariant c.loop-i-test.false)
