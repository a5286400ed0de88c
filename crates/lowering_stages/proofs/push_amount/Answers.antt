-- `lowering_stages::push_amount` meets its contract: one + of the signed amount. Assumes nothing.
use mir.Syntax.{w64}
use mir.Val.{SFits}
use mir.Facts.{to_z-of_z}
use borrow.Author.Rules.{rules}
use Rattle.lowering_stages.proofs.push_amount.Goals as goal

pub returns : goal.returns
returns c =
    let k : SFits w64 c.signed_by-change.result = search rules in
    rw (to_z-of_z k, rw (to_z-of_z c.ranges.amount) at c.signed_by-change.ensures) at c.push_addition.ensures
