-- `file_actions::edge_from` meets its contract: at each command the edge that is sought is a certain one of those that are left. Assumes nothing.
use native.Mathlib.Omega.{arith}
use Rattle.file_actions.proofs.Edges.{found_none, found-goal, past-goal, found-action, past-action, past-other}
use Rattle.file_actions.proofs.edge_from.Goals as goal
use Rattle.file_actions.proofs.edge_from.Goals.{in-65+else-left-eq0, in_default}

pub loop-at-preserved : goal.loop-at-preserved
loop-at-preserved c k s =
    let size = c.size_of-at.ensures in
    elim c.match-byte.branch [
      | in-65+else-left-eq0 w ↦ rw w.left-is (past-action (c.loop-at.invariant k s) c.loop-at-test.true size.0 size.1 w.in-65.is w.if-left-eq0.false)
      | in_default w ↦ rw w.left-is (past-other (c.loop-at.invariant k s) c.loop-at-test.true size.0 size.1 (λ e. omega arith) (λ e. omega arith))
    ]

pub returns-then-left-eq0 : goal.returns-then-left-eq0
returns-then-left-eq0 c = record { is = λ k s. found-action (c.loop-at.invariant k s) c.loop-at-test.true c.in-65.is c.if-left-eq0.true }

pub returns-then-left-eq0-2 : goal.returns-then-left-eq0-2
returns-then-left-eq0-2 c = record { is = λ k s. found-goal (c.loop-at.invariant k s) c.loop-at-test.true c.in-71.is c.if-left-eq0-2.true }

pub returns-else-left-eq0-2 : goal.returns-else-left-eq0-2
returns-else-left-eq0-2 c = record { is = λ k s. past-goal (c.loop-at.invariant k s) c.loop-at-test.true c.in-71.is c.if-left-eq0-2.false }

pub returns-after-loop-at : goal.returns-after-loop-at
returns-after-loop-at c = record { is = λ k s. found_none (c.loop-at.invariant k s) c.loop-at-test.false }
