-- `lowering_stages::set_stage` meets its contract: Clear first. Assumes nothing.
use mathlib.Core.Path.{refl}
use mir.Syntax.{w64}
use mir.Val.{SFits}
use mir.Facts.{to_z-of_z}
use borrow.Author.Rules.{rules}
use Rattle.model.specs.Stages.{source, clear}
use Rattle.lowering_stages.proofs.Rows.{given, second}
use Rattle.lowering_stages.proofs.set_stage.Goals as goal

pub returns-then-j-eq0 : goal.returns-then-j-eq0
returns-then-j-eq0 c a name p = rw c.if-j-eq0.true (given (c.empty_of.ensures a (source c.args.t) refl))

pub move_of-requires : goal.move_of-requires
move_of-requires c =
    let k : SFits w64 c.bounds_of-lower.result.0 = search rules in
    let m : SFits w64 c.bounds_of-lower.result.1 = search rules in
    rw (to_z-of_z k, to_z-of_z m, c.bounds_of-lower.ensures.0, c.bounds_of-lower.ensures.1) (c.requires.lower_in c.args.t, c.requires.upper_in c.args.t)

pub returns : goal.returns
returns c a name p =
    let k : SFits w64 c.bounds_of-lower.result.0 = search rules in
    let m : SFits w64 c.bounds_of-lower.result.1 = search rules in
    second (clear c.args.t)
    (rw (to_z-of_z k, to_z-of_z m, c.bounds_of-lower.ensures.0, c.bounds_of-lower.ensures.1) at (c.move_of.ensures a name p)) c.args.j
    c.if-j-eq0.false
