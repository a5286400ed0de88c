-- `plan_project::follow_to_goal` meets its contract: the plan is refused where it is followed, and then by the goal. Assumes nothing.
use native.Mathlib.Omega.{arith}
use Rattle.std.proofs.lemmas.Result.{err_from_is_err_and}
use Rattle.plan_project.proofs.Projecting.{not-followed, goal-met, goal-unmet}
use Rattle.plan_project.proofs.follow_to_goal.Goals as goal

pub holds-requires : goal.holds-requires
holds-requires c =
    let u = c.requires.usables.0 in
    (u.variables_few, u.modes_few, u.usable c.args.count (omega arith))

pub returns-in_err-found : goal.returns-in_err-found
returns-in_err-found c =
    let p = err_from_is_err_and c.from_residual.result c.from_residual.ensures.1 in
    rw (p.1, p.2) (not-followed c.follow.ensures c.in_err-found.was)

pub returns-then-holds : goal.returns-then-holds
returns-then-holds c = goal-met c.follow.ensures c.in_ok-found.was c.holds.ensures c.if-holds.true

pub returns : goal.returns
returns c =
    rw c.at.ensures (goal-unmet c.follow.ensures c.in_ok-found.was c.holds.ensures c.if-holds.false c.requires.usables.2)
