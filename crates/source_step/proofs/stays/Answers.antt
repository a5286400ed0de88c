-- `source_step::stays` meets its contract: the two bounds of effect e are read where its block has them. Assumes nothing.
use Prim.Native.Nat.{◌+◌, ◌*◌}
use mir.Facts.{to_z-of_z}
use mir.Syntax.{w64}
use mir.Val.{SFits}
use Rattle.model.specs.Steps.{integer_at}
use Rattle.source_step.specs.Layout.{BLOCK, LOWER, UPPER}
use borrow.Author.Rules.{rules}
use Rattle.source_step.proofs.stays.Goals as goal

pub returns : goal.returns
returns c =
    let a : SFits w64 (integer_at c.args.numbers.now (LOWER + BLOCK * c.args.e)) = search rules in
    let b : SFits w64 (integer_at c.args.numbers.now (UPPER + BLOCK * c.args.e)) = search rules in
    simp (to_z-of_z, a, c.ranges.res, b) at c.is_between.ensures
