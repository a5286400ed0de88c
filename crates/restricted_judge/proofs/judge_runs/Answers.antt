-- `restricted_judge::judge_runs` meets its contract: where a run ends, what is left to be judged gives what there was, and every slot holds the
-- action that its tag says. Assumes nothing.
use mathlib.Core.Path.{◌≡◌, refl, ◌∙◌}
use Prim.Native.Nat.{◌<◌}
use native.Mathlib.Omega.{arith}
use mathlib.Core.List.{[]}
use lib.ListN.{get_or}
use borrow.Author.Rules.{rules}
use Rattle.std.proofs.lemmas.Result.{err_from_is_err_and}
use Rattle.answers.specs.Refusals.{refusal_at}
use Rattle.answers.specs.declared.Reason.TheVariants.{DoesNotApply}
use Rattle.restricted_judge.proofs.Walking.{ran-ok, ran-err, walk_start, walk-no-action, walk_can, walk-stops, walk-next}
use Rattle.restricted_judge.proofs.judge_runs.Goals as goal

pub loop-i-init : goal.loop-i-init
loop-i-init c = (walk_start c.requires.accepted_plan.0 c.requires.accepted_plan.1 c.requires.accepted_plan.2, c.requires.in_bounds.1, refl)

pub returns-then-count-number : goal.returns-then-count-number
returns-then-count-number c =
    rw c.at.ensures (walk-no-action c.loop-i.invariant.0 c.action_of-k.result c.action_of-k.ensures c.loop-i-test.true c.if-count-number.true _)

pub take_run-run-requires : goal.take_run-run-requires
take_run-run-requires c =
    let known : c.action_of-k.result < c.args.count = omega arith in
    walk_can c.loop-i.invariant.0 c.action_of-k.result c.action_of-k.ensures c.loop-i-test.true known
    (get_or c.keep_action.new.marks c.slot_of-slot.result []) (get_or c.keep_action.new.numbers c.slot_of-slot.result []) c.keep_action.ensures.is

pub returns-in_err-i : goal.returns-in_err-i
returns-in_err-i c =
    let known : c.action_of-k.result < c.args.count = omega arith in
    let (at, stuck, made) = ran-err c.take_run-run.result c.in_err-i.field-0.0 _ c.take_run-run.ensures c.in_err-i.ensures.cases in
    let is : c.in_err-i.field-0.0 ≡ refusal_at DoesNotApply at = search rules in
    let p = err_from_is_err_and c.from_residual.result c.from_residual.ensures.1 in
    rw (p.1, p.2, is)
    (walk-stops c.loop-i.invariant.0 c.action_of-k.result c.action_of-k.ensures c.loop-i-test.true known
    (get_or c.keep_action.new.marks c.slot_of-slot.result []) (get_or c.keep_action.new.numbers c.slot_of-slot.result []) c.keep_action.ensures.is stuck _)

pub loop-i-preserved : goal.loop-i-preserved
loop-i-preserved c =
    let known : c.action_of-k.result < c.args.count = omega arith in
    let passed = ran-ok c.take_run-run.result c.in_ok-i.i c.take_run-run.ensures c.in_ok-i.ensures.cases in (
      walk-next c.loop-i.invariant.0 c.action_of-k.result c.action_of-k.ensures c.loop-i-test.true known
          (get_or c.keep_action.new.marks c.slot_of-slot.result []) (get_or c.keep_action.new.numbers c.slot_of-slot.result []) c.keep_action.ensures.is passed,
      c.keep_action.ensures.held,
      c.keep_action.ensures.slots_are ∙ c.loop-i.invariant.2,
    )
