-- `plan_strokes::makes_macro` meets its contract, by the count of effects. Assumes nothing.
use mathlib.Core.Path.{sym, ◌∙◌}
use Rattle.plan_strokes.proofs.Effects.{one-by-kind, others-by-count}
use Rattle.plan_strokes.proofs.makes_macro.Goals as goal

pub returns-then-count-eq1 : goal.returns-then-count-eq1
returns-then-count-eq1 c = one-by-kind (sym c.effect_count-count.ensures ∙ c.if-count-eq1.true)

pub returns : goal.returns
returns c = let e = c.effect_count-count.ensures in rw e (others-by-count (λ q. c.if-count-eq1.false (e ∙ q)))
