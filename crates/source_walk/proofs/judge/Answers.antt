-- `source_walk::judge` meets its contract: what is refused of the file and the plan's bytes, else what judging the steps gives. Assumes nothing.
use mathlib.Core.Path.{sym, ap, ◌∙◌}
use Rattle.source_step.proofs.Tables.{usables}
use Rattle.model.specs.Judging.{judge_source_task}
use Rattle.source_walk.specs.Answers.{judgement_of, with_state}
use Rattle.source_walk.specs.Walk.{Judging}
use Rattle.source_walk.proofs.Opening.{refused-both}
use Rattle.source_walk.proofs.Judging.{judgement-is}
use Rattle.source_walk.proofs.judge.Goals as goal

pub judge_steps-judged-requires : goal.judge_steps-judged-requires
judge_steps-judged-requires c = let S = c.in-Ok.ensures in (usables S.rows, S.plan_is.steps_are, S.plan_is.few, S.inside.shaped.modes_long)

pub returns-in-Err : goal.returns-in-Err
returns-in-Err c =
    c.refuse.ensures ∙ ap judgement_of (sym (refused-both judge_source_task c.args.file.now c.args.plan.now _ _ c.in-Err.ensures.0))

pub returns-in-Ok : goal.returns-in-Ok
returns-in-Ok c =
    c.conclude.ensures ∙ ap (λ (j : Judging). with_state j.verdict j.state) c.judge_steps-judged.ensures ∙ judgement-is c.in-Ok.ensures _
