-- `file_parts::push_mode_condition` meets its contract: one P more. Assumes nothing.
use mathlib.Core.Path.{refl}
use Rattle.file_parts.proofs.Pushing.{pushed-mode-condition}
use Rattle.file_parts.proofs.push_mode_condition.Goals as goal

pub returns : goal.returns
returns c = rw c.push_pair.ensures (pushed-mode-condition c.args.marks.now c.requires.long _ _ refl c.requires refl _ _)
