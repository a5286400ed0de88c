-- `plan_project::project` meets its contract: what is refused of the file and the plan's bytes, else what projecting the steps gives.
-- Assumes nothing.
use Rattle.std.proofs.lemmas.Result.{err_from_is_err_and}
use Rattle.plan_project.proofs.Opening.{refused-so, posed, task-projected}
use Rattle.plan_project.proofs.project.Goals as goal

pub project_ready-requires : goal.project_ready-requires
project_ready-requires c =
    let S = c.in_ok-t.ensures in record { posed = posed S; steps_value = (S.plan_is.steps_are, S.plan_is.few) }

pub returns-in_err-t : goal.returns-in_err-t
returns-in_err-t c =
    let p = err_from_is_err_and c.from_residual.result c.from_residual.ensures.1 in
    rw (p.1, p.2) (refused-so c.args.file.now c.args.plan.now c.in_err-t.ensures.0)

pub returns : goal.returns
returns c = task-projected c.in_ok-t.ensures c.project_ready.ensures
