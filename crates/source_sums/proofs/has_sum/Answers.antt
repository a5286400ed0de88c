-- `source_sums::has_sum` meets its contract. Assumes nothing.
use mathlib.Core.Path.{◌∙◌}
use Rattle.commands.specs.Table.{letter_k}
use Rattle.source_sums.proofs.NoSum.{byte-contained}
use Rattle.source_sums.proofs.has_sum.Goals as goal

pub returns : goal.returns
returns c = c.contains.ensures.value ∙ byte-contained letter_k c.args.file.now
