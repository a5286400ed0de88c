-- `source_ready::put_row` meets its contract. Assumes nothing.
use mathlib.Core.Path.{ap, ◌∙◌}
use lib.ListN.{length, length-replicate}
use lib.IntN.{pos}
use Rattle.source_step.specs.Layout.{NUMBERS}
use Rattle.source_ready.proofs.Making.{blank, ranges-ask, modes-ask, row_made}
use Rattle.source_ready.proofs.put_row.Goals as goal

pub put_ranges-requires : goal.put_ranges-requires
put_ranges-requires c =
    (ap length c.requires.1 ∙ length-replicate NUMBERS (pos 0), ranges-ask c.requires.2)

pub put_modes-requires : goal.put_modes-requires
put_modes-requires c =
    (c.requires.0.long, c.requires.2.sizes_fit, modes-ask c.requires.2)

pub put_effects-requires : goal.put_effects-requires
put_effects-requires c =
    (c.requires.2.few, blank c.requires.0 c.requires.1 c.put_ranges.ensures c.put_modes.ensures, c.requires.2.effects_few, c.requires.2.effects_ok)

pub returns : goal.returns
returns c =
    row_made c.requires.2 c.requires.0 c.put_ranges.ensures c.put_modes.ensures c.put_effects.ensures
