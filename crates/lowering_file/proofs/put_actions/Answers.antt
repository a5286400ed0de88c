-- `lowering_file::put_actions` meets its contract: the loop writes what each action becomes. Assumes nothing.
use mathlib.Core.Path.{refl}
use native.Mathlib.Omega.{arith}
use lib.ListN.{length}
use Rattle.lists.proofs.Writing.{long}
use Rattle.lowering_stages.specs.Shapes.{lower_of, upper_of}
use Rattle.lowering_rows.specs.Macros.{stages_in}
use Rattle.lowering_file.proofs.Walk.{few-actions, numbers-low, walk_none, own_room, macro-ready, told, goal-sum-is}
use Rattle.lowering_file.proofs.WalkLoops.{putting-start, putting-room, putting-next, putting-end}
use Rattle.lowering_file.proofs.put_actions.Goals as goal

pub loop-k-init : goal.loop-k-init
loop-k-init c =
    (putting-start c.requires.accepted_with.1 c.requires.marks_len.2, c.requires.marks_len.0, c.requires.marks_len.1)

pub decode_action-effects-requires : goal.decode_action-effects-requires
decode_action-effects-requires c =
    let inv = c.loop-k.invariant in record { places_of = (c.requires.accepted_with.2, c.loop-k-test.true, few-actions inv.0.walk.held); marks_len = (inv.1, inv.2) }

pub push_own-own-requires : goal.push_own-own-requires
push_own-own-requires c =
    let walk = c.loop-k.invariant.0.walk in
    let below = c.loop-k-test.true in
    let decoded = c.decode_action-effects.ensures in
    record {
      places_of = (c.requires.accepted_with.2, below, few-actions walk.held);
      k_value = walk_none walk c.requires.accepted_with.0 below;
      parts_fit = (own_room walk c.requires.accepted_with.0 below decoded, decoded.parts.numbers_long, numbers-low walk);
    }

pub put_macro-place-requires : goal.put_macro-place-requires
put_macro-place-requires c =
    let own = c.push_own-own.ensures in
    let inv = c.loop-k.invariant in
    let below = c.loop-k-test.true in
    let r = c.decode_action-effects in record { lowerable = macro-ready inv.0.walk below _ _ r.result own.own r.ensures own.decoded own.says; room = putting-room below _ _ r.result r.ensures own (length (stages_in c.args.shape r.result)) refl inv.0 c.requires.room }

pub stage_count-requires : goal.stage_count-requires
stage_count-requires c =
    let decoded = c.decode_action-effects.ensures in
    record { few = decoded.few; terms_few = decoded.terms_few }

pub overflow_cast-from : goal.overflow_cast-from
overflow_cast-from c = omega (arith, c.stage_count.ensures.1)

pub overflow_add-from : goal.overflow_add-from
overflow_add-from c =
    let walk = c.loop-k.invariant.0.walk in
    omega (arith, walk.high, c.loop-k-test.true, few-actions walk.held, c.stage_count.ensures.1)

pub overflow_add-sum : goal.overflow_add-sum
overflow_add-sum c =
    let own = c.push_own-own.ensures in
    omega (arith, own.counted, own.decoded.few, numbers-low c.loop-k.invariant.0.walk)

pub some_several-several-requires : goal.some_several-several-requires
some_several-several-requires c =
    let decoded = c.decode_action-effects.ensures in
    record { few = decoded.few; terms_few = decoded.terms_few }

pub loop-k-preserved : goal.loop-k-preserved
loop-k-preserved c =
    let h = c.args.shape in
    let inv = c.loop-k.invariant in
    let count = c.stage_count in
    let macro = c.put_macro-place.ensures in
    let own = c.push_own-own.ensures in
    let r = c.decode_action-effects in (
      putting-next c.loop-k-test.true _ _ r.result r.ensures own
          count.result (count.ensures.0 (lower_of h) (upper_of h)) inv.0
          count.ensures.1 c.some_several-several.result c.some_several-several.ensures macro.wrote,
      macro.marks_long,
      macro.numbers_long,
    )

pub shape_of-out : goal.shape_of-out
shape_of-out c = long c.loop-k.invariant.0.left

pub returns : goal.returns
returns c =
    let inv = c.loop-k.invariant in
    record {
      rows = record { wrote = putting-end inv.0 c.loop-k-test.false; marks_long = inv.1; numbers_long = inv.2 };
      told = told inv.0.walk c.loop-k-test.false;
      goal_sum_is = goal-sum-is inv.0.walk c.loop-k-test.false;
    }
