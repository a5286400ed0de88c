-- `listing::put_lines` meets its contract. The loop's invariant is `Writing`: what is left is still to be written, and to be paid. Assumes nothing.
use mathlib.Core.Path.{refl, sym}
use native.Mathlib.Omega.{arith}
use Rattle.lists.proofs.Numbers.{length-halves}
use Rattle.plan_bytes.proofs.Steps.{halves_long}
use Rattle.listing.proofs.Lining as lining
use Rattle.listing.proofs.put_lines.Goals as goal

pub loop-i-init : goal.loop-i-init
loop-i-init c = (lining.writing_begins _ _ _ _ _ _ _ c.requires.listable _ _, refl)

pub action_of-k-requires : goal.action_of-k-requires
action_of-k-requires c = omega (arith, halves_long c.args.plan.now, c.loop-i-test.true, c.requires.listable.in_plan)

pub shape_of-out-then-count-k : goal.shape_of-out-then-count-k
shape_of-out-then-count-k c = lining.writing-long c.requires.listable c.loop-i.invariant.0

pub returns-then-count-k : goal.returns-then-count-k
returns-then-count-k c =
    lining.writing-no-action c.requires.listable c.loop-i.invariant.0 _ c.action_of-k.ensures
    c.loop-i-test.true c.if-count-k.true _ (sym (length-halves c.args.plan.now))

pub bounds-marks-k : goal.bounds-marks-k
bounds-marks-k c =
    let u = c.requires.listable.usables in omega (arith, u.actions_few, u.marks_long, c.if-count-k.false)

pub bounds-numbers-k : goal.bounds-numbers-k
bounds-numbers-k c =
    let u = c.requires.listable.usables in omega (arith, u.actions_few, u.numbers_long, c.if-count-k.false)

pub bounds-numbers-33 : goal.bounds-numbers-33
bounds-numbers-33 c = let u = c.requires.listable.usables in omega (arith, u.numbers_long)

pub take_priced-requires : goal.take_priced-requires
take_priced-requires c =
    let u = c.requires.listable.usables in
    record {
      n_bound = (u.variables_few, u.modes_few, c.loop-i.invariant.0.reached.modes_long, c.loop-i.invariant.1);
      usable = u.usable _ (omega (arith, c.if-count-k.false));
    }

pub shape_of-out-in-Err : goal.shape_of-out-in-Err
shape_of-out-in-Err c = lining.writing-long c.requires.listable c.loop-i.invariant.0

pub returns-in-Err : goal.returns-in-Err
returns-in-Err c =
    lining.writing-not-applied c.requires.listable c.loop-i.invariant.0 _ c.action_of-k.ensures
    c.loop-i-test.true c.if-count-k.false c.in-Err.ensures.turned.stepped _ (sym (length-halves c.args.plan.now))

pub put_step_line-place-requires : goal.put_step_line-place-requires
put_step_line-place-requires c =
    let L = c.requires.listable in
    let turned = c.in-Ok.ensures.turned in (
      L.usables.variables_few,
      (lining.writing-reached L c.loop-i.invariant.0 _ c.action_of-k.ensures c.loop-i-test.true c.if-count-k.false turned).values_long,
      lining.writing-room L c.loop-i.invariant.0 _ c.action_of-k.ensures c.loop-i-test.true c.if-count-k.false turned c.requires.room_for,
    )

pub overflow_add-spent : goal.overflow_add-spent
overflow_add-spent c =
    omega (arith, c.loop-i.invariant.0.cheap, c.in-Ok.ensures.turned.few, c.loop-i-test.true, c.requires.listable.few)

pub loop-i-preserved : goal.loop-i-preserved
loop-i-preserved c = (
  lining.writing-next c.requires.listable c.loop-i.invariant.0 _ c.action_of-k.ensures c.loop-i-test.true c.if-count-k.false
      c.in-Ok.ensures.turned c.put_step_line-place.ensures.0 c.put_step_line-place.ensures.1,
  c.in-Ok.ensures.times_len,
)

pub shape_of-out : goal.shape_of-out
shape_of-out c = lining.writing-long c.requires.listable c.loop-i.invariant.0

pub returns : goal.returns
returns c = lining.writing-over c.requires.listable c.loop-i.invariant.0 c.loop-i-test.false
