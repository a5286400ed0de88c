-- `restricted_judge::judge_plan` meets its contract: the file's refusals come first, then those of the plan's bytes. Assumes nothing.
use mathlib.Core.Path.{ap, ◌∙◌}
use borrow.Author.Rules.{rules}
use Rattle.std.proofs.lemmas.Result.{err_from_is_err_and}
use Rattle.restricted_judge.specs.Judging.{judgement_of}
use Rattle.file_actions.proofs.Accepted.{bytes-of}
use Rattle.restricted_judge.proofs.Accepting.{judged-rejected, judged-no-plan, judged-task, accepted-plan}
use Rattle.restricted_judge.proofs.judge_plan.Goals as goal

pub judge_accepted-requires : goal.judge_accepted-requires
judge_accepted-requires c =
    accepted-plan c.args.file.now c.args.plan.now c.in_ok-accepted.ensures (bytes-of c.args.file.now (λ i. search rules)) c.in_ok-steps.ensures

pub returns-in_err-accepted : goal.returns-in_err-accepted
returns-in_err-accepted c =
    let p = err_from_is_err_and c.from_residual.result c.from_residual.ensures.1 in
    rw (p.1, p.2) (ap judgement_of (judged-rejected c.args.file.now c.args.plan.now c.in_err-accepted.ensures))

pub returns-in_err-steps : goal.returns-in_err-steps
returns-in_err-steps c =
    let p = err_from_is_err_and c.from_residual-in_err-steps.result c.from_residual-in_err-steps.ensures.1 in
    rw (p.1, p.2)
    (ap judgement_of (judged-no-plan c.args.file.now c.args.plan.now c.in_ok-accepted.ensures c.in_err-steps.ensures))

pub returns : goal.returns
returns c =
    c.judge_accepted.ensures ∙ ap judgement_of (judged-task c.args.file.now c.args.plan.now c.in_ok-accepted.ensures c.in_ok-steps.ensures)
