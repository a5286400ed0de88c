-- `source_walk::judge_steps` meets its contract: the walk, then the goal's row. Assumes nothing.
use native.Mathlib.Omega.{arith}
use Rattle.model.specs.Plans.{plan_numbers}
use Rattle.source_step.specs.Table.{table}
use Rattle.source_walk.proofs.Loop.{judged-from}
use Rattle.source_walk.proofs.judge_steps.Goals as goal

pub holds-met-requires : goal.holds-met-requires
holds-met-requires c =
    let u = c.requires.0 in
    (u.variables_few, u.modes_few, u.usable c.args.count (omega arith))

pub returns : goal.returns
returns c =
    judged-from (table c.args.count c.args.marks.now c.args.numbers.now c.args.n c.args.m) (plan_numbers c.args.plan.now)
    c.last_verdict.ensures c.holds-met.ensures c.requires.1 c.walk-walked.ensures
