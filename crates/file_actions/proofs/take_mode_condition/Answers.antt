-- `file_actions::take_mode_condition` meets its contract: an P is pushed behind the others, where there is room. Assumes nothing.
use mathlib.Core.Path.{sym, ◌∙◌}
use lib.Dec.{lit<}
use Rattle.commands.proofs.Known.{cut_short}
use Rattle.file_actions.proofs.Taking.{mode-condition-taken, mode-condition-dropped, cut-passed}
use Rattle.file_actions.proofs.take_mode_condition.Goals as goal

pub returns-in_default : goal.returns-in_default
returns-in_default c restricted numbers =
    cut-passed restricted _ numbers _
    (cut_short c.args.rest.now 5 (lit< tt) c.requires.0 c.requires.1
    c.read_mode_condition.result c.read_mode_condition.ensures c.in_default.in_default-own.keys2)

pub returns-then-marks-lt-MODE_CONDITIONS : goal.returns-then-marks-lt-MODE_CONDITIONS
returns-then-marks-lt-MODE_CONDITIONS c restricted numbers passed h =
    rw (sym c.read_mode_condition.ensures ∙ c.in-ModeCondition.is)
    (mode-condition-taken restricted _ numbers c.in-ModeCondition.mode c.in-ModeCondition.value
    c.if-marks-lt-MODE_CONDITIONS.true (c.push_mode_condition.ensures numbers h.numbers_long) passed h)

pub returns-else-marks-lt-MODE_CONDITIONS : goal.returns-else-marks-lt-MODE_CONDITIONS
returns-else-marks-lt-MODE_CONDITIONS c restricted numbers =
    rw (sym c.read_mode_condition.ensures ∙ c.in-ModeCondition.is)
    (mode-condition-dropped restricted _ numbers c.in-ModeCondition.mode c.in-ModeCondition.value c.if-marks-lt-MODE_CONDITIONS.false)
