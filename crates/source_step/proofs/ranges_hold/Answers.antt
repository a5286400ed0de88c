-- `source_step::ranges_hold` meets its contract: modes that fail answer for all, and else the values do. Assumes nothing.
use mathlib.Core.Path.{refl, sym, ◌∙◌}
use Rattle.source_step.proofs.ranges_hold.Goals as goal

pub returns-then-not-modes_in : goal.returns-then-not-modes_in
returns-then-not-modes_in c = rw (sym c.modes_in.ensures ∙ c.if-not-modes_in.true) refl

pub returns : goal.returns
returns c = rw (sym c.modes_in.ensures ∙ c.if-not-modes_in.false) c.values_in.ensures
