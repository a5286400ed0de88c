-- `source_ready::narrowing::mark_all` meets its contract. Assumes nothing.
use Rattle.model.specs.Steps.{natural_at}
use Rattle.source_step.proofs.Rows.{Left}
use Rattle.file_parts.specs.Layout.{mode_effect_count}
use Rattle.file_parts.specs.Row.{mode_effects_in, mode_effect_in}
use Rattle.source_ready.specs.Narrowed.{marked_all}
use Rattle.source_ready.proofs.narrowing.mark_all.Given as goal

abbrev pub invariant-loop-i : goal.invariant-loop-i
invariant-loop-i l =
    Left (mode_effects_in l.parts) (natural_at l.parts mode_effect_count) (mode_effect_in l.parts) l.i
    (λ es. marked_all es l.marks) (marked_all (mode_effects_in l.parts) l.initial.marks)
