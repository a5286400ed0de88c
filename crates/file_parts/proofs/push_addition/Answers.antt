-- `file_parts::push_addition` meets its contract: one + more. Assumes nothing.
use mathlib.Core.Path.{refl}
use mir.Facts.{to_z-of_z}
use Rattle.file_parts.proofs.Pushing.{pushed-addition}
use Rattle.file_parts.proofs.push_addition.Goals as goal

pub returns : goal.returns
returns c =
    rw (to_z-of_z c.ranges.amount)
    (pushed-addition c.args.marks.now c.requires.0.long _ _ refl c.args.numbers.now c.requires.1 c.requires.0 refl _ _)
