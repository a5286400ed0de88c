-- `source_step::sum_holds` meets its contract: the two bounds of sum j are read where the row of sums has them. Assumes nothing.
use Prim.Native.Nat.{◌+◌}
use mir.Facts.{to_z-of_z}
use mir.Syntax.{w64}
use mir.Val.{SFits}
use Rattle.model.specs.Steps.{integer_at}
use Rattle.source_step.specs.Layout.{sum_least, sum_most}
use borrow.Author.Rules.{rules}
use Rattle.source_step.proofs.sum_holds.Goals as goal

pub returns : goal.returns
returns c =
    let x : SFits w64 c.sum_of-sum.result = search rules in
    let a : SFits w64 (integer_at c.args.sums.now (sum_least + c.args.j)) = search rules in
    let b : SFits w64 (integer_at c.args.sums.now (sum_most + c.args.j)) = search rules in
    rw c.sum_of-sum.ensures.0 at (simp (to_z-of_z, x, a, b) at c.is_between.ensures)
