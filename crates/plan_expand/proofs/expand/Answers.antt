-- `plan_expand::expand` meets its contract: what is refused of the file and the plan's bytes, of the plan, or of its price; else its expansion.
-- Assumes nothing.
use Rattle.std.proofs.lemmas.Result.{err_from_is_err_and}
use Rattle.source_step.proofs.Tables.{usables}
use Rattle.plan_expand.proofs.Answering.{length-judged, not-opened, expandable, answers}
use Rattle.plan_expand.proofs.expand.Goals as goal

pub judge_steps-judged-requires : goal.judge_steps-judged-requires
judge_steps-judged-requires c =
    let S = c.in_ok-t.ensures in (usables S.rows, S.plan_is.steps_are, S.plan_is.few, S.inside.shaped.modes_long)

pub write_expansion-requires : goal.write_expansion-requires
write_expansion-requires c =
    let S = c.in_ok-t.ensures in
    record {
      usables = (usables S.rows, S.plan_is.steps_are, S.plan_is.few, S.inside.shaped.modes_long);
      expandable = expandable S (length-judged _ _ _ c.length_of.ensures c.judge_steps-judged.ensures);
    }

pub returns-in_err-t : goal.returns-in_err-t
returns-in_err-t c =
    let p = err_from_is_err_and c.from_residual.result c.from_residual.ensures.1 in
    rw (p.1, p.2) (not-opened c.args.file.now c.args.plan.now c.in_err-t.ensures.0)

pub returns : goal.returns
returns c = answers c.in_ok-t.ensures (length-judged _ _ _ c.length_of.ensures c.judge_steps-judged.ensures) c.write_expansion.ensures
