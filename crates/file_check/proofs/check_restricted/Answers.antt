-- `file_check::check_restricted` meets its contract: the limits are those of a restricted file. Assumes nothing.
use mathlib.Core.Path.{ap, ◌∙◌}
use Rattle.model.specs.Limits.{Limits}
use Rattle.model.specs.Reading.{verdict_of}
use Rattle.file_check.proofs.check_restricted.Goals as goal

pub returns : goal.returns
returns c =
    c.check.ensures ∙ ap (λ (l : Limits). verdict_of l c.args.file.now) c.restricted_limits.ensures
