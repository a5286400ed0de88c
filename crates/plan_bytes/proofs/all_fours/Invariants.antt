-- `plan_bytes::all_fours` meets its contract. Assumes nothing.
use Rattle.model.specs.Plans.{plan_numbers}
use Rattle.plan_bytes.specs.Agreeing.{Fours}
use Rattle.plan_bytes.proofs.all_fours.Given as goal

abbrev pub invariant-loop-j : goal.invariant-loop-j
invariant-loop-j g l = Fours (plan_numbers l.plan) l.i l.j l.four
