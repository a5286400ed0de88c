-- `plan_bytes::pass_ones` meets its contract. Assumes nothing.
use mathlib.Core.Path.{sym, ◌∙◌}
use native.Mathlib.Omega.{arith}
use lib.Seq.{get_or-drop}
use Rattle.model.specs.Plans.{plan_numbers}
use Rattle.plan_bytes.proofs.Agreeing.{passed-next, passed-stop, passed-end}
use Rattle.plan_bytes.proofs.pass_ones.Goals as goal

pub returns-then-action_of-number : goal.returns-then-action_of-number
returns-then-action_of-number c =
    passed-stop c.loop-i.invariant c.loop-i-test.true
    (λ e. c.if-action_of-number.true (c.action_of.ensures ∙ sym (e ∙ get_or-drop c.args.at (plan_numbers c.args.plan.now) c.loop-i.i 0)))

pub loop-i-preserved : goal.loop-i-preserved
loop-i-preserved c =
    passed-next c.loop-i.invariant c.loop-i-test.true
    (get_or-drop c.args.at (plan_numbers c.args.plan.now) c.loop-i.i 0 ∙ sym c.action_of.ensures ∙ c.if-action_of-number.false)

pub returns : goal.returns
returns c = omega (arith, passed-end c.loop-i.invariant c.loop-i-test.false)
