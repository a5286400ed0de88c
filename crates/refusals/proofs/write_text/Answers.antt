-- `refusals::write_text` meets its contract: 0 and the numbers past the last have texts of their own. Assumes nothing.
use mathlib.Core.Path.{sym, ap}
use Rattle.refusals.specs.Texts.{refusal_text}
use Rattle.refusals.proofs.Texts.{past, text-unknown, said}
use Rattle.refusals.proofs.write_text.Goals as goal

pub returns-in-Err : goal.returns-in-Err
returns-in-Err c = said (ap refusal_text (sym c.if-number-eq0.true)) c.write-in-Err.ensures

pub returns-in-Err-2 : goal.returns-in-Err-2
returns-in-Err-2 c = said (sym (text-unknown _ (past _ c.if-number-eq0.false c.in-Err.ensures))) c.write-in-Err-2.ensures
