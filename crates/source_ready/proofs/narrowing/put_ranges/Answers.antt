-- `source_ready::narrowing::put_ranges` meets its contract. Assumes nothing.
use Rattle.model.specs.Steps.{natural_at}
use Rattle.file_parts.specs.Layout.{condition_count}
use Rattle.file_parts.specs.Row.{conditions_in, condition_in}
use Rattle.source_ready.specs.Narrowed.{OnVariable}
use Rattle.source_ready.proofs.Tests.{all-tabulate}
use Rattle.source_ready.proofs.Values.{ranges-put}
use Rattle.source_ready.proofs.narrowing.put_ranges.Goals as goal

pub returns : goal.returns
returns c = rw c.narrow_all.ensures
    (ranges-put c.args.lower.now c.args.upper.now c.args.numbers.now _
    (conditions_in c.args.parts.now c.args.constants.now) c.put_bounds.ensures
    (all-tabulate (OnVariable 8) (natural_at c.args.parts.now condition_count) (condition_in c.args.parts.now c.args.constants.now)
    (λ i h. c.requires.1.declared i h)))
