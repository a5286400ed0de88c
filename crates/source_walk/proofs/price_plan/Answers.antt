-- `source_walk::price_plan` meets its contract: it is refused as by judging, else it has the sum of the prices. Assumes nothing.
use mathlib.Core.Path.{◌≡◌, sym, ap, ◌∙◌}
use Prim.Native.Nat.{ℕ}
use mathlib.Core.Bool.{false}
use mathlib.Core.List.{List}
use Rattle.model.specs.Tasks.{SourceTask}
use Rattle.std.proofs.lemmas.Result.{err_from_is_err_and}
use Rattle.answers.specs.Answer.{then}
use Rattle.model.specs.Judging.{judge_source_task, price_task}
use Rattle.model.specs.Judging.{price_plan}
use Rattle.source_step.proofs.Tables.{usables}
use Rattle.source_walk.specs.Answers.{priced_by}
use Rattle.source_walk.specs.Walk.{Judging}
use Rattle.source_walk.proofs.Opening.{refused-both}
use Rattle.source_walk.proofs.Judging.{price-is}
use Rattle.source_walk.proofs.price_plan.Goals as goal
use Rattle.source_walk.proofs.price_plan.Goals.{After-judge_steps-judged}

pub judge_steps-judged-requires : goal.judge_steps-judged-requires
judge_steps-judged-requires c = let S = c.in_ok-t.ensures in (usables S.rows, S.plan_is.steps_are, S.plan_is.few, S.inside.shaped.modes_long)

pub returns-in_err-t : goal.returns-in_err-t
returns-in_err-t c =
    let p = err_from_is_err_and c.from_residual.result c.from_residual.ensures.1 in
    let go_on = λ (t : SourceTask) (p : List ℕ). then (judge_source_task t p) (λ v. price_task t false p) in
    rw (p.1, p.2) (sym (refused-both go_on c.args.file.now c.args.plan.now _ _ c.in_err-t.ensures.0))

-- what pricing the steps gives
priced : (c : After-judge_steps-judged)
    → priced_by c.judge_steps-judged.result.verdict c.judge_steps-judged.result.price ≡ price_plan c.args.file.now c.args.plan.now
priced c = ap (λ (j : Judging). priced_by j.verdict j.price) c.judge_steps-judged.ensures ∙ price-is c.in_ok-t.ensures

pub returns-in_err-judged : goal.returns-in_err-judged
returns-in_err-judged c =
    let p = err_from_is_err_and c.from_residual-in_err-judged.result c.from_residual-in_err-judged.ensures.1 in
    rw (p.1, p.2) (rw c.in_err-judged.was at (priced (goal.at.returns-in_err-judged c).After-judge_steps-judged))

pub returns : goal.returns
returns c = rw c.in_ok-judged.was at (priced (goal.at.returns c).After-judge_steps-judged)
