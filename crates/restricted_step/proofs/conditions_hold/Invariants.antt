-- `restricted_step::conditions_hold` meets its contract: the conditions not yet tested decide what all of them do. Assumes nothing.
use Rattle.model.specs.Steps.{integer_at, natural_at}
use Rattle.restricted_step.proofs.Tests.{condition_holds}
use Rattle.file_parts.specs.Layout.{condition_count}
use Rattle.file_parts.specs.Row.{condition_in}
use Rattle.restricted_step.proofs.Loops.{Tested}
use Rattle.restricted_step.proofs.conditions_hold.Given as goal

abbrev pub invariant-loop-i : goal.invariant-loop-i
invariant-loop-i l = Tested (condition_holds (integer_at l.values)) (natural_at l.marks condition_count) (condition_in l.marks l.numbers) l.count l.i
