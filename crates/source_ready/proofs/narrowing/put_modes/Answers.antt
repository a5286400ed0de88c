-- `source_ready::narrowing::put_modes` meets its contract. Assumes nothing.
use Rattle.model.specs.Steps.{natural_at}
use Rattle.file_parts.specs.Layout.{mode_condition_count, mode_effect_count}
use Rattle.file_parts.specs.Row.{mode_conditions_in, mode_effects_in, mode_condition_in, mode_effect_in}
use Rattle.source_ready.proofs.Tests.{all-tabulate}
use Rattle.source_ready.proofs.Modes.{Roomy, modes-put}
use Rattle.source_ready.proofs.narrowing.put_modes.Goals as goal

pub returns : goal.returns
returns c = rw (c.mark_all.ensures, c.hold_all.ensures)
    (modes-put c.args.m c.args.sizes.now c.args.marks.now _
    (mode_conditions_in c.args.parts.now) (mode_effects_in c.args.parts.now)
    c.requires.1
    (all-tabulate Roomy (natural_at c.args.parts.now mode_condition_count) (mode_condition_in c.args.parts.now) c.requires.2.conditions.each)
    (all-tabulate Roomy (natural_at c.args.parts.now mode_effect_count) (mode_effect_in c.args.parts.now) c.requires.2.effects.each)
    c.put_sizes.ensures)
