-- `file_actions::take_mode_effect` meets its contract: an E is pushed behind the others, where there is room. Assumes nothing.
use mathlib.Core.Path.{sym, ◌∙◌}
use lib.Dec.{lit<}
use Rattle.commands.proofs.Known.{cut_short}
use Rattle.file_actions.proofs.Taking.{mode-effect-taken, mode-effect-dropped, cut-passed}
use Rattle.file_actions.proofs.take_mode_effect.Goals as goal

pub returns-in_default : goal.returns-in_default
returns-in_default c restricted numbers =
    cut-passed restricted _ numbers _
    (cut_short c.args.rest.now 6 (lit< tt) c.requires.0 c.requires.1 c.read_mode_effect.result c.read_mode_effect.ensures c.in_default.in_default-own.keys2)

pub returns-then-marks-lt-MODE_EFFECTS : goal.returns-then-marks-lt-MODE_EFFECTS
returns-then-marks-lt-MODE_EFFECTS c restricted numbers passed h =
    rw (sym c.read_mode_effect.ensures ∙ c.in-ModeEffect.is)
    (mode-effect-taken restricted _ numbers c.in-ModeEffect.mode c.in-ModeEffect.value
    c.if-marks-lt-MODE_EFFECTS.true (c.push_mode_effect.ensures numbers h.numbers_long) passed h)

pub returns-else-marks-lt-MODE_EFFECTS : goal.returns-else-marks-lt-MODE_EFFECTS
returns-else-marks-lt-MODE_EFFECTS c restricted numbers =
    rw (sym c.read_mode_effect.ensures ∙ c.in-ModeEffect.is)
    (mode-effect-dropped restricted _ numbers c.in-ModeEffect.mode c.in-ModeEffect.value c.if-marks-lt-MODE_EFFECTS.false)
