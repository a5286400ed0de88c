-- `plan_strokes::matches_stages` meets its contract, stage by stage. Assumes nothing.
use lib.ListN.{take}
use Rattle.model.specs.Plans.{plan_numbers}
use Rattle.plan_strokes.proofs.Matching.{Matching}
use Rattle.plan_strokes.proofs.matches_stages.Given as goal

abbrev pub invariant-loop-z : goal.invariant-loop-z
invariant-loop-z l = Matching l.first (take l.count l.times) (plan_numbers l.plan) l.at l.matched l.number l.z-index
