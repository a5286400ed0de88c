-- `source_walk::walk` meets its contract. The loop's invariant: what is left of the plan comes to what the whole comes to. Assumes nothing.
use native.Mathlib.Omega.{arith}
use mathlib.Core.Path.{refl, ◌∙◌}
use Rattle.model.specs.Plans.{plan_numbers}
use Rattle.plan_bytes.proofs.Steps.{halves_long}
use Rattle.source_step.specs.Step.{state}
use Rattle.source_step.specs.Table.{table}
use Rattle.source_walk.proofs.Loop.{begins, over, no-action, not-applied, goes}
use Rattle.source_walk.proofs.walk.Goals as goal

pub loop-i-init : goal.loop-i-init
loop-i-init c =
    let T = table c.args.count c.args.marks.now c.args.numbers.now c.args.n c.args.m in
    (begins T c.args.priced (plan_numbers c.args.plan.now) c.args.values.now c.args.modes.now c.requires.3, refl)

pub action_of-k-requires : goal.action_of-k-requires
action_of-k-requires c = omega (arith, halves_long c.args.plan.now, c.loop-i-test.true, c.requires.1)

pub returns-then-count-k : goal.returns-then-count-k
returns-then-count-k c =
    let stopped = rw c.at.ensures at (c.stopped.ensures (state c.loop-i.values c.loop-i.modes)) in
    stopped ∙ no-action c.loop-i.invariant.0 c.action_of-k.result c.action_of-k.ensures (omega (arith, c.loop-i-test.true, c.requires.1)) c.if-count-k.true

pub returns-in_default : goal.returns-in_default
returns-in_default c =
    let t = c.take_turn.new in
    let stopped = rw c.at-in_default.ensures at (c.stopped-in_default.ensures (state t.values t.modes)) in
    stopped
    ∙ not-applied c.loop-i.invariant.0 c.action_of-k.result c.action_of-k.ensures (omega (arith, c.loop-i-test.true, c.requires.1)) c.if-count-k.false
    c.in_default.ensures.turn_of

pub overflow_add-price : goal.overflow_add-price
overflow_add-price c =
    omega (arith, c.in-Some.ensures.turn_of.few, c.loop-i.invariant.0.few, c.loop-i-test.true, c.requires.2)

pub loop-i-preserved : goal.loop-i-preserved
loop-i-preserved c =
    let t = c.in-Some.ensures in (
      goes c.loop-i.invariant.0 c.action_of-k.result c.action_of-k.ensures
          (omega (arith, c.loop-i-test.true, c.requires.1))
          c.if-count-k.false c.requires.0 c.in-Some.cost t.turn_of
          c.first_passing-passing.ensures,
      t.times_len,
    )

pub returns : goal.returns
returns c = over c.loop-i.invariant.0 (omega (arith, c.loop-i-test.false, c.requires.1))
