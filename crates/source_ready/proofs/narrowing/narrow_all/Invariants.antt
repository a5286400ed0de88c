-- `source_ready::narrowing::narrow_all` meets its contract: what is left of the conditions makes of the row what all make of the first. Assumes nothing.
use Rattle.model.specs.Steps.{natural_at}
use Rattle.source_step.proofs.Rows.{Left}
use Rattle.file_parts.specs.Layout.{condition_count}
use Rattle.file_parts.specs.Row.{conditions_in, condition_in}
use Rattle.source_ready.specs.Narrowed.{narrowed_all}
use Rattle.source_ready.proofs.narrowing.narrow_all.Given as goal

abbrev pub invariant-loop-i : goal.invariant-loop-i
invariant-loop-i l =
    Left (conditions_in l.parts l.constants) (natural_at l.parts condition_count) (condition_in l.parts l.constants) l.i
    (λ cs. narrowed_all cs l.numbers) (narrowed_all (conditions_in l.parts l.constants) l.initial.numbers)
