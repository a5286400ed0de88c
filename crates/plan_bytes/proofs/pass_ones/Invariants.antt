-- `plan_bytes::pass_ones` meets its contract. Assumes nothing.
use lib.ListN.{drop}
use Rattle.model.specs.Plans.{plan_numbers}
use Rattle.plan_bytes.specs.Agreeing.{Passed}
use Rattle.plan_bytes.proofs.pass_ones.Given as goal

abbrev pub invariant-loop-i : goal.invariant-loop-i
invariant-loop-i l = Passed l.number (drop l.at (plan_numbers l.plan)) l.most l.i
