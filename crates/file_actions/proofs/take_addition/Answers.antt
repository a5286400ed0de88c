-- `file_actions::take_addition` meets its contract: a + is pushed behind the others, where there is room. Assumes nothing.
use mathlib.Core.Path.{sym, ◌∙◌}
use mathlib.Core.Bool.{true}
use lib.Dec.{lit<}
use mir.Facts.{to_z-of_z}
use mir.Syntax.{w64}
use mir.Val.{SFits}
use Rattle.commands.proofs.Known.{cut_short}
use borrow.Author.Rules.{rules}
use Rattle.file_actions.proofs.Taking.{addition-taken, addition-dropped, cut-passed}
use Rattle.file_actions.proofs.take_addition.Goals as goal

pub returns-in_default : goal.returns-in_default
returns-in_default c =
    cut-passed true _ _ _ (cut_short c.args.rest.now 7 (lit< tt) c.requires.0 c.requires.1
    c.read_add.result c.read_add.ensures c.in_default.in_default-own.keys2)

pub returns-then-marks-lt-ADDITIONS : goal.returns-then-marks-lt-ADDITIONS
returns-then-marks-lt-ADDITIONS c =
    let z : SFits w64 c.signed-amount.result = search rules in
    rw (sym c.read_add.ensures ∙ c.in-Add.is)
    (addition-taken _ _ c.in-Add.variable _
    c.if-marks-lt-ADDITIONS.true
    (rw (← c.signed-amount.ensures) (rw (to_z-of_z z) at c.push_addition.ensures)))

pub returns-else-marks-lt-ADDITIONS : goal.returns-else-marks-lt-ADDITIONS
returns-else-marks-lt-ADDITIONS c =
    rw (sym c.read_add.ensures ∙ c.in-Add.is)
    (addition-dropped _ _ c.in-Add.variable _ c.if-marks-lt-ADDITIONS.false)
