-- `file_parts::push_mode_effect` meets its contract: one E more. Assumes nothing.
use mathlib.Core.Path.{refl}
use Rattle.file_parts.proofs.Pushing.{pushed-mode-effect}
use Rattle.file_parts.proofs.push_mode_effect.Goals as goal

pub returns : goal.returns
returns c = rw c.push_pair.ensures (pushed-mode-effect c.args.marks.now c.requires.long _ _ refl c.requires refl _ _)
