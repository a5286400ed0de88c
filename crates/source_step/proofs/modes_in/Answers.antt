-- `source_step::modes_in` meets its contract. Assumes nothing.
use mathlib.Core.Path.{refl}
use borrow.Author.Tests.{le-leb, lt-leb}
use Rattle.lists.specs.Loops.{every}
use Rattle.source_step.proofs.Rows.{left-start, left-none, left-pass, left-stop, row-tabulate}
use Rattle.source_step.proofs.modes_in.Goals as goal
use Rattle.source_step.proofs.modes_in.Goals.{then-modes-i-via-then-modes-i, then-modes-i-via-else-modes-i+then-marks-i}

pub loop-i-init : goal.loop-i-init
loop-i-init c = left-start (every (λ b. b)) (row-tabulate _ _)

pub returns-then-modes-i : goal.returns-then-modes-i
returns-then-modes-i c = left-stop c.loop-i.invariant c.loop-i-test.true _ (λ rest. refl)
    (elim c.then-modes-i.branch [
      | then-modes-i-via-then-modes-i w ↦ rw (lt-leb _ _ w.if-modes-i.true) refl
      | then-modes-i-via-else-modes-i+then-marks-i w ↦ rw (le-leb _ _ w.if-modes-i.false, lt-leb _ _ w.if-marks-i.true) refl
    ])

pub loop-i-preserved : goal.loop-i-preserved
loop-i-preserved c =
    left-pass c.loop-i.invariant c.loop-i-test.true _ (λ rest. refl) (rw (le-leb _ _ c.if-modes-i.false, le-leb _ _ c.if-marks-i.false) refl)

pub returns : goal.returns
returns c = left-none c.loop-i.invariant c.loop-i-test.false
