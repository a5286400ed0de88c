-- `plan_strokes::put_stages` meets its contract, stage by stage. Assumes nothing.
use lib.ListN.{take}
use Rattle.plan_strokes.proofs.Writing.{Stepping}
use Rattle.plan_strokes.proofs.put_stages.Given as goal

abbrev pub invariant-loop-z : goal.invariant-loop-z
invariant-loop-z l = Stepping l.first (take l.count l.times) l.initial.out l.at l.out l.place l.number l.z-index
