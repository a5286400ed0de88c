-- `plan_expand::put_plan` meets its contract. The loop's invariant: what is left to write is the expansion of what is left of the plan, from the
-- state reached. Assumes nothing.
use Prim.Native.Nat.{◌<◌}
use mathlib.Core.Path.{refl}
use native.Mathlib.Omega.{arith}
use lib.ListN.{length}
use Rattle.model.specs.Plans.{plan_numbers}
use Rattle.plan_bytes.proofs.Steps.{halves_long}
use Rattle.source_step.proofs.Taking.{read-when-held}
use Rattle.plan_expand.proofs.Writing.{begins, ends, as_long, named, holds, has_room, goes_on_lem}
use Rattle.plan_expand.proofs.put_plan.Goals as goal

pub loop-i-init : goal.loop-i-init
loop-i-init c = (begins _ _ _ _ _ _ c.requires.usables.3 c.requires.modes_value, refl)

pub action_of-k-requires : goal.action_of-k-requires
action_of-k-requires c = omega (arith, halves_long c.args.plan.now, c.loop-i-test.true, c.requires.usables.2)

pub bounds-openings-k : goal.bounds-openings-k
bounds-openings-k c =
    let within : c.loop-i.i < length (plan_numbers c.args.plan.now) = omega (arith, c.loop-i-test.true, c.requires.usables.2) in
    omega (arith, named c.loop-i.invariant.0 within _ c.action_of-k.ensures, c.requires.usables.0.actions_few)

pub bounds-marks-k : goal.bounds-marks-k
bounds-marks-k c =
    let within : c.loop-i.i < length (plan_numbers c.args.plan.now) = omega (arith, c.loop-i-test.true, c.requires.usables.2) in
    let u = c.requires.usables.0 in
    omega (arith, named c.loop-i.invariant.0 within _ c.action_of-k.ensures, u.actions_few, u.marks_long)

pub bounds-numbers-k : goal.bounds-numbers-k
bounds-numbers-k c =
    let within : c.loop-i.i < length (plan_numbers c.args.plan.now) = omega (arith, c.loop-i-test.true, c.requires.usables.2) in
    let u = c.requires.usables.0 in
    omega (arith, named c.loop-i.invariant.0 within _ c.action_of-k.ensures, u.actions_few, u.numbers_long)

pub put_turn-place-requires : goal.put_turn-place-requires
put_turn-place-requires c =
    let within : c.loop-i.i < length (plan_numbers c.args.plan.now) = omega (arith, c.loop-i-test.true, c.requires.usables.2) in
    let u = c.requires.usables.0 in
    let (g, times) = c.loop-i.invariant in
    let below = named g within _ c.action_of-k.ensures in
    let row = u.usable c.action_of-k.result (omega (arith, below)) in
    record {
      opening_bound = (c.requires.usables.1 _ below, u.variables_few, u.modes_few, g.long, times);
      keep_or_set = (
        row.keeps,
        read-when-held c.args.m c.loop-i.values c.loop-i.modes u.variables_few row (holds g within _ c.action_of-k.ensures),
      );
      room = has_room g within _ c.action_of-k.ensures c.requires.room;
    }

pub loop-i-preserved : goal.loop-i-preserved
loop-i-preserved c =
    let within : c.loop-i.i < length (plan_numbers c.args.plan.now) = omega (arith, c.loop-i-test.true, c.requires.usables.2) in
    let t = c.put_turn-place.ensures in
    (goes_on_lem c.loop-i.invariant.0 within _ c.action_of-k.ensures c.requires.usables.0 t.turn_taken t.wrote, t.times_len)

pub shape_of-out : goal.shape_of-out
shape_of-out c = as_long c.loop-i.invariant.0

pub returns : goal.returns
returns c = ends c.loop-i.invariant.0 (omega (arith, c.loop-i-test.false, c.requires.usables.2))
