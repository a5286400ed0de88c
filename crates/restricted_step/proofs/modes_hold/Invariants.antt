-- `restricted_step::modes_hold` meets its contract: the mode conditions not yet tested decide what all of them do. Assumes nothing.
use Rattle.model.specs.Steps.{natural_at}
use Rattle.restricted_step.proofs.Tests.{mode_holds}
use Rattle.file_parts.specs.Layout.{mode_condition_count}
use Rattle.file_parts.specs.Row.{mode_condition_in}
use Rattle.restricted_step.proofs.Loops.{Tested}
use Rattle.restricted_step.proofs.modes_hold.Given as goal

abbrev pub invariant-loop-i : goal.invariant-loop-i
invariant-loop-i l = Tested (mode_holds (natural_at l.modes)) (natural_at l.marks mode_condition_count) (mode_condition_in l.marks) l.count l.i
