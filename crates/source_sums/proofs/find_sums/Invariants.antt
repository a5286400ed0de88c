-- `source_sums::find_sums` meets its contract: without a K's byte there is no sum; else the loop takes the sums of each action, and those of the
-- goal come behind. Assumes nothing.
use Rattle.source_sums.proofs.Gathering.{Gathered}
use Rattle.source_sums.proofs.find_sums.Given as goal

abbrev pub invariant-loop-k : goal.invariant-loop-k
invariant-loop-k l = Gathered l.file l.count l.k l.total l.sums
