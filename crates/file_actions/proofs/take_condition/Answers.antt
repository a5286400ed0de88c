-- `file_actions::take_condition` meets its contract: a C is pushed behind the others, where there is room. Assumes nothing.
use mathlib.Core.Path.{sym, ◌∙◌}
use lib.Dec.{lit<}
use mir.Facts.{to_z-of_z}
use mir.Syntax.{w64}
use mir.Val.{SFits}
use Rattle.commands.proofs.Known.{cut_short}
use borrow.Author.Rules.{rules}
use Rattle.file_actions.proofs.Taking.{condition-taken, condition-dropped, cut-passed}
use Rattle.file_actions.proofs.take_condition.Goals as goal

pub returns-in_default : goal.returns-in_default
returns-in_default c restricted =
    cut-passed restricted _ _ _
    (cut_short c.args.rest.now 4 (lit< tt) c.requires.0 c.requires.1 c.read_condition.result c.read_condition.ensures c.in_default.in_default-own.keys2)

pub returns-then-marks-lt-CONDITIONS : goal.returns-then-marks-lt-CONDITIONS
returns-then-marks-lt-CONDITIONS c restricted =
    let z : SFits w64 c.signed-constant.result = search rules in
    rw (sym c.read_condition.ensures ∙ c.in-Condition.is)
    (condition-taken restricted _ _ c.in-Condition.variable c.in-Condition.relation _
    c.if-marks-lt-CONDITIONS.true
    (rw (← c.signed-constant.ensures) (rw (to_z-of_z z) at c.push_condition.ensures)))

pub returns-else-marks-lt-CONDITIONS : goal.returns-else-marks-lt-CONDITIONS
returns-else-marks-lt-CONDITIONS c restricted =
    rw (sym c.read_condition.ensures ∙ c.in-Condition.is)
    (condition-dropped restricted _ _ c.in-Condition.variable c.in-Condition.relation _ c.if-marks-lt-CONDITIONS.false)
