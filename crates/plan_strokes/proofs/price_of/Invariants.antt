-- `plan_strokes::price_of` meets its contract. The loop's invariant: the price so far and that of the strokes that are left make the whole.
-- Assumes nothing.
use lib.ListN.{take}
use Rattle.plan_strokes.proofs.Prices.{Pricing}
use Rattle.plan_strokes.proofs.price_of.Given as goal

abbrev pub invariant-loop-z : goal.invariant-loop-z
invariant-loop-z l = Pricing (take l.count l.times) l.price l.z-index
