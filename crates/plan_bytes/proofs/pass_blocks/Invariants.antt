-- `plan_bytes::pass_blocks` meets its contract. Assumes nothing.
use Prim.Native.Nat.{◌-◌}
use lib.ListN.{drop}
use Rattle.model.specs.Plans.{plan_numbers}
use Rattle.plan_bytes.specs.Agreeing.{Passed}
use Rattle.plan_bytes.proofs.pass_blocks.Given as goal

abbrev pub invariant-loop-i : goal.invariant-loop-i
invariant-loop-i g l = Passed l.number (drop l.at (plan_numbers l.plan)) l.most l.i

abbrev pub decreases-loop-i : goal.decreases-loop-i
decreases-loop-i g l = l.most - l.i
