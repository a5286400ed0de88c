-- `lowering_rows::added_in` meets its contract: a row that has one + at most has it first. Assumes nothing.
use mathlib.Core.Path.{refl}
use mir.Syntax.{w64}
use mir.Val.{SFits}
use mir.Facts.{to_z-of_z}
use borrow.Author.Rules.{rules}
use Rattle.model.specs.Steps.{integer_at}
use Rattle.lowering_rows.proofs.Adding.{row-added}
use Rattle.lowering_rows.proofs.added_in.Goals as goal

pub returns : goal.returns
returns c =
    let b : SFits w64 (integer_at c.args.numbers.now 24) = search rules in
    rw (to_z-of_z b) (row-added _ _ c.requires refl refl)
