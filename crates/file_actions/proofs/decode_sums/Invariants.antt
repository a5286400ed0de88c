-- `file_actions::decode_sums` meets its contract. At each command, the K of those passed are taken, and those that are left give the rest.
-- Assumes nothing.
use Prim.Native.Nat.{◌-◌}
use lib.ListN.{length}
use Rattle.file_actions.proofs.SumPart.{SumsLeft}
use Rattle.file_actions.proofs.decode_sums.Given as goal

abbrev pub invariant-loop-at : goal.invariant-loop-at
invariant-loop-at l = SumsLeft l.bytes l.at l.sums

abbrev pub decreases-loop-at : goal.decreases-loop-at
decreases-loop-at l = length l.bytes - l.at
