-- `file_check::Reading::take_mode_effect` meets its contract: each exit is the first test that holds, and where none does the reading goes on.
-- Assumes nothing.
use mathlib.Core.Path.{refl, sym, ◌∙◌}
use borrow.Author.Rules.{rules}
use lib.Dec.{lit<}
use Rattle.commands.proofs.Known.{cut_short}
use Rattle.model.specs.Rules.{tests_of, next_of}
use Rattle.file_check.proofs.Tests.{tests}
use Rattle.file_check.proofs.Taking.{stops, goes}
use Rattle.file_check.proofs.Reading.take_mode_effect.Goals as goal

pub returns-in_default : goal.returns-in_default
unfolding tests_of
returns-in_default c =
    stops c.args.l.now c.args.self.now
    (cut_short c.args.rest.now 6 (lit< tt) c.requires.0 c.requires.1 c.read_mode_effect.result c.read_mode_effect.ensures (search rules)) 0 refl

pub returns-then-self-mode : goal.returns-then-self-mode
unfolding tests_of
returns-then-self-mode c =
    stops c.args.l.now c.args.self.now (sym c.read_mode_effect.ensures ∙ c.in-ModeEffect.is) 0 (search tests)

pub returns-then-not_below_size : goal.returns-then-not_below_size
unfolding tests_of
returns-then-not_below_size c =
    stops c.args.l.now c.args.self.now (sym c.read_mode_effect.ensures ∙ c.in-ModeEffect.is) 1 (search tests)

pub returns-then-is_marked : goal.returns-then-is_marked
unfolding tests_of
returns-then-is_marked c =
    stops c.args.l.now c.args.self.now (sym c.read_mode_effect.ensures ∙ c.in-ModeEffect.is) 2 (search tests)

pub returns : goal.returns
unfolding tests_of next_of
returns c =
    rw c.put_mark.ensures (goes c.args.l.now c.args.self.now (sym c.read_mode_effect.ensures ∙ c.in-ModeEffect.is) (search tests))
