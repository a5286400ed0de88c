-- `source_step::set_modes` meets its contract. Assumes nothing.
use Rattle.source_step.proofs.Modes.{Set}
use Rattle.source_step.proofs.set_modes.Given as goal

abbrev pub invariant-loop-i : goal.invariant-loop-i
invariant-loop-i l = Set l.m l.marks l.initial.modes l.modes l.i
