-- `file_check::check` meets its contract. The loop's invariant: the answer to the file is the answer from the state and the offset reached. The
-- measure is what remains of the file. Each way out is one law of `Runs`.
-- Assumes nothing.
use Prim.Native.Nat.{◌-◌}
use lib.ListN.{length}
use Rattle.file_check.specs.Views.{limits_of, state_of}
use Rattle.file_check.proofs.Runs.{Runs}
use Rattle.file_check.proofs.check.Given as goal

abbrev pub invariant-loop-at : goal.invariant-loop-at
invariant-loop-at l = Runs (limits_of l.l) l.file (state_of l.reading) l.at

abbrev pub decreases-loop-at : goal.decreases-loop-at
decreases-loop-at l = length l.file - l.at
