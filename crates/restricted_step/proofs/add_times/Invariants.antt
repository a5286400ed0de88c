-- `restricted_step::add_times` meets its contract: the additions not yet made, from the values so far, give what all of them give from the values
-- before; and all values so far lie within the figure. Assumes nothing.
use Rattle.restricted_step.proofs.Sums.{Summing}
use Rattle.restricted_step.proofs.add_times.Given as goal

abbrev pub invariant-loop-i : goal.invariant-loop-i
invariant-loop-i l = Summing l.marks l.numbers l.times l.initial.values l.i l.values
