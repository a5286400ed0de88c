-- `file_actions::decode_source` meets its contract. The parts are gathered first; then, at each command, the effects of those passed are taken,
-- and those that are left give the rest.
-- Assumes nothing.
use Prim.Native.Nat.{◌-◌}
use lib.ListN.{length}
use Rattle.file_actions.proofs.NumericPart.{EffectsLeft}
use Rattle.file_actions.proofs.decode_source.Given as goal

abbrev pub invariant-loop-at : goal.invariant-loop-at
invariant-loop-at l = EffectsLeft l.bytes l.at l.effects

abbrev pub decreases-loop-at : goal.decreases-loop-at
decreases-loop-at l = length l.bytes - l.at
