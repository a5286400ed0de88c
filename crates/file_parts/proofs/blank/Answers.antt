-- `file_parts::blank` meets its contract: every count is 0. Assumes nothing.
use Rattle.file_parts.proofs.Pushing.{blanked}
use Rattle.file_parts.proofs.blank.Goals as goal

pub returns : goal.returns
returns c = blanked c.args.marks.now c.requires
