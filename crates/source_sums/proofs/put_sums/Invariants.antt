-- `source_sums::put_sums` meets its contract: the loop puts K after K behind the others. Assumes nothing.
use Rattle.source_sums.proofs.Filling.{Filling}
use Rattle.source_sums.proofs.put_sums.Given as goal

abbrev pub invariant-loop-i : goal.invariant-loop-i
invariant-loop-i l = Filling l.from l.own l.initial.sums l.sums l.i
