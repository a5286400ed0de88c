-- `restricted_judge::judge_accepted` meets its contract: what the readers leave is a state from which the task can go on, and what the judge
-- finds is the answer. Assumes nothing.
use mathlib.Core.Path.{ap}
use mathlib.Core.Bool.{not}
use borrow.Author.Tests.{not-true, not-false}
use Rattle.std.proofs.lemmas.Result.{err_from_is_err_and}
use Rattle.restricted_judge.specs.Judging.{judgement_of}
use Rattle.restricted_judge.proofs.Accepting.{start-standing, goal-usable, judged-ended, judged-unmet, judged-valid}
use Rattle.restricted_judge.proofs.judge_accepted.Goals as goal

pub walk_plan-requires : goal.walk_plan-requires
walk_plan-requires c = (c.requires, start-standing _ c.requires.accepted c.read_restricted-declared.ensures)

pub returns-in_err-walk_plan : goal.returns-in_err-walk_plan
returns-in_err-walk_plan c =
    let p = err_from_is_err_and c.from_residual.result c.from_residual.ensures.1 in
    rw (p.1, p.2) (ap judgement_of (judged-ended c.requires c.read_restricted-declared.ensures c.in_err-walk_plan.ensures))

pub holds-requires : goal.holds-requires
holds-requires c = goal-usable c.requires c.goal_bytes.ensures c.decode_restricted.ensures

pub returns-then-not-holds : goal.returns-then-not-holds
returns-then-not-holds c =
    let unmet = not-true _ (ap not c.if-not-holds.true) in
    rw c.at.ensures
    (ap judgement_of
    (judged-unmet c.requires c.read_restricted-declared.ensures c.in_ok-walk_plan.ensures c.goal_bytes.ensures c.decode_restricted.ensures
    c.holds.result c.holds.ensures unmet))

pub returns : goal.returns
returns c =
    let met = not-false _ (ap not c.if-not-holds.false) in
    judged-valid c.requires c.read_restricted-declared.ensures c.in_ok-walk_plan.ensures c.goal_bytes.ensures c.decode_restricted.ensures
    c.holds.result c.holds.ensures met
