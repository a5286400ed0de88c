-- `lowering_stages::entering_amount` meets its contract: effect by effect. Assumes nothing.
use mir.Syntax.{w64}
use mir.Val.{SFits}
use mir.Facts.{to_z-of_z}
use borrow.Author.Rules.{rules}
use Rattle.lowering_stages.proofs.entering_amount.Goals as goal

pub returns-in-Add : goal.returns-in-Add
returns-in-Add c = let k : SFits w64 c.in-Add.c = search rules in rw (c.in-Add.is, to_z-of_z k)

pub returns-in-Linear : goal.returns-in-Linear
returns-in-Linear c = let k : SFits w64 c.in-Linear.w = search rules in rw (c.in-Linear.is, to_z-of_z k)
