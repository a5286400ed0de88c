-- `listing::judge` meets its contract, by the verdict on the plan. Assumes nothing.
use mathlib.Core.Path.{ap}
use Rattle.source_walk.specs.Walk.{Judging}
use Rattle.listing.specs.Parts.{rest_by}
use Rattle.listing.proofs.judge.Goals as goal

pub returns-in-Err : goal.returns-in-Err
returns-in-Err c =
    let t = c.args.task in
    rw c.number.ensures (rw c.in-Err.is at (ap (λ (judging : Judging). rest_by t judging.verdict) c.judge_steps-judged.ensures))

pub returns-in-Ok : goal.returns-in-Ok
returns-in-Ok c =
    let t = c.args.task in
    rw c.in-Ok.is at (ap (λ (judging : Judging). rest_by t judging.verdict) c.judge_steps-judged.ensures)
