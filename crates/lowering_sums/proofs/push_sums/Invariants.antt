-- `lowering_sums::push_sums` meets its contract: the loop pushes C after C. Assumes nothing.
use Rattle.lowering_sums.proofs.Own.{Becoming}
use Rattle.lowering_sums.proofs.push_sums.Given as goal

abbrev pub invariant-loop-i : goal.invariant-loop-i
invariant-loop-i l = Becoming l.initial.marks l.initial.numbers l.variable l.own l.i l.marks l.numbers
