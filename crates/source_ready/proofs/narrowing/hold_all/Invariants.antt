-- `source_ready::narrowing::hold_all` meets its contract. Assumes nothing.
use Rattle.model.specs.Steps.{natural_at}
use Rattle.source_step.proofs.Rows.{Left}
use Rattle.file_parts.specs.Layout.{mode_condition_count}
use Rattle.file_parts.specs.Row.{mode_conditions_in, mode_condition_in}
use Rattle.source_ready.specs.Narrowed.{held_all}
use Rattle.source_ready.proofs.narrowing.hold_all.Given as goal

abbrev pub invariant-loop-i : goal.invariant-loop-i
invariant-loop-i l =
    Left (mode_conditions_in l.parts) (natural_at l.parts mode_condition_count) (mode_condition_in l.parts) l.i
    (λ es. held_all es l.marks) (held_all (mode_conditions_in l.parts) l.initial.marks)
