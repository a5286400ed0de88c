-- `file_actions::action_places` meets its contract: storing what is left behind what is stored gives what storing all gives. Assumes nothing.
use Prim.Native.Nat.{◌-◌}
use lib.ListN.{length}
use Rattle.file_actions.proofs.Edges.{Stores}
use Rattle.file_actions.proofs.action_places.Given as goal

abbrev pub invariant-loop-at : goal.invariant-loop-at
invariant-loop-at l = Stores l.file l.initial.places l.places l.at l.n

abbrev pub decreases-loop-at : goal.decreases-loop-at
decreases-loop-at l = length l.file - l.at
