-- `plan_project::project_rows` meets its contract: the plan is refused, or by the room that there is, or it is written. Assumes nothing.
use native.Mathlib.Omega.{arith}
use Rattle.std.proofs.lemmas.Result.{err_from_is_err_and}
use Rattle.plan_bytes.proofs.Steps.{halves_long}
use Rattle.plan_project.proofs.Projecting.{when-stopped, few, when-short, puttable, noted-so, when-written}
use Rattle.plan_project.proofs.project_rows.Goals as goal

pub overflow_mul-needed : goal.overflow_mul-needed
overflow_mul-needed c = omega (arith, few c.follow_to_goal.ensures c.args.out.now c.in_ok-found.was, halves_long c.args.plan.now)

pub returns-in_err-found : goal.returns-in_err-found
returns-in_err-found c =
    let p = err_from_is_err_and c.from_residual.result c.from_residual.ensures.1 in
    rw (p.1, p.2) (when-stopped c.follow_to_goal.ensures c.args.out.now c.in_err-found.was)

pub returns-then-out-needed : goal.returns-then-out-needed
returns-then-out-needed c = rw c.at.ensures (when-short c.follow_to_goal.ensures c.args.out.now c.in_ok-found.was c.if-out-needed.true)

pub put_found-requires : goal.put_found-requires
put_found-requires c =
    let F = c.follow_to_goal.ensures in
    let fits = c.if-out-needed.false in
    record {
      room = (puttable F c.args.out.now c.in_ok-found.was fits c.requires.kept, c.requires.usables.2);
      notes = noted-so F c.args.out.now c.in_ok-found.was fits c.requires.kept;
    }

pub returns : goal.returns
returns c =
    when-written c.follow_to_goal.ensures c.args.out.now c.in_ok-found.was c.if-out-needed.false c.requires.kept c.put_found.ensures
