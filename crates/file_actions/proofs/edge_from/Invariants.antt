-- `file_actions::edge_from` meets its contract: at each command the edge that is sought is a certain one of those that are left. Assumes nothing.
use Prim.Native.Nat.{ℕ, ◌-◌}
use lib.ListN.{length}
use Rattle.file_actions.specs.Places.{Sought}
use Rattle.file_actions.proofs.edge_from.Given as goal

abbrev pub invariant-loop-at : goal.invariant-loop-at
invariant-loop-at l = (k : ℕ) → Sought l.file k l.from l.number → Sought l.file k l.at l.left

abbrev pub decreases-loop-at : goal.decreases-loop-at
decreases-loop-at l = length l.file - l.at
