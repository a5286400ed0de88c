-- `file_actions::gather_parts` meets its contract: at each command the parts of those passed are taken.
-- Assumes nothing.
use Prim.Native.Nat.{◌-◌}
use lib.ListN.{length}
use Rattle.file_actions.proofs.Gathering.{Gathering}
use Rattle.file_actions.proofs.gather_parts.Given as goal

abbrev pub invariant-loop-at : goal.invariant-loop-at
invariant-loop-at l = Gathering l.bytes l.restricted l.at l.marks l.numbers

abbrev pub decreases-loop-at : goal.decreases-loop-at
decreases-loop-at l = length l.bytes - l.at
