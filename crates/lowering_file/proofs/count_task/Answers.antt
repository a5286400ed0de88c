-- `lowering_file::count_task` meets its contract: its parts are written one after another, the actions first. Assumes nothing.
use mathlib.Core.Path.{sym}
use native.Mathlib.Omega.{arith}
use Rattle.lists.proofs.Writing.{step, done, room, room_as, wrote_as}
use Rattle.lowering_file.proofs.Walk.{bounded}
use Rattle.lowering_file.proofs.Keeping.{goal-from}
use Rattle.lowering_file.proofs.File.{starts-are, starts_fit, modes-are, goal-are, count-begun}
use Rattle.lowering_file.proofs.count_task.Goals as goal

pub put_actions-acted-requires : goal.put_actions-acted-requires
put_actions-acted-requires c =
    record {
      accepted_with = (c.requires.accepted_with.0, c.requires.accepted_with.1.held, c.requires.accepted_with.2);
      marks_len = c.requires.marks_len;
      room = room c.requires.room (count-begun c.args.file.now c.args.out.now);
    }

pub put_starts-modes-requires : goal.put_starts-modes-requires
put_starts-modes-requires c =
    let d = c.requires.accepted_with.1 in
    let keeps = c.requires.marks_len.2 in
    let e = c.put_actions-acted.ensures in
    record {
      n_bound = ((bounded d.held).variables_few, d.starts_long);
      values_near = (d.starts_small, keeps.sums.few, keeps.sums.blank.small);
      all = starts_fit d keeps;
      room = room_as (sym (starts-are d e.told keeps)) (room c.requires.room (step (count-begun c.args.file.now c.args.out.now) e.rows.wrote));
    }

pub put_modes-goal-requires : goal.put_modes-goal-requires
put_modes-goal-requires c =
    let d = c.requires.accepted_with.1 in
    let e = c.put_actions-acted.ensures in
    let two = step (step (count-begun c.args.file.now c.args.out.now) e.rows.wrote) (wrote_as (starts-are d e.told c.requires.marks_len.2) c.put_starts-modes.ensures) in record { n_bound = (bounded d.held).modes_few; room = room_as (sym (modes-are d e.told)) (room c.requires.room two) }

pub read_goal-requires : goal.read_goal-requires
read_goal-requires c =
    let keeps = c.requires.marks_len.2 in
    let e = c.put_actions-acted.ensures in
    record {
      accepted_with = (c.requires.accepted_with.0, c.requires.accepted_with.2);
      sums_value = (keeps.sums.counted, goal-from keeps e.goal_sum_is);
      marks_len = (e.rows.marks_long, e.rows.numbers_long);
    }

pub overflow_cast-shape : goal.overflow_cast-shape
overflow_cast-shape c =
    omega (arith, (bounded c.requires.accepted_with.1.held).modes_few)

pub put_goal-place-requires : goal.put_goal-place-requires
put_goal-place-requires c =
    let d = c.requires.accepted_with.1 in
    let e = c.put_actions-acted.ensures in
    let goal = c.read_goal.ensures in
    let one = step (count-begun c.args.file.now c.args.out.now) e.rows.wrote in
    let two = step one (wrote_as (starts-are d e.told c.requires.marks_len.2) c.put_starts-modes.ensures) in
    let three = step two (wrote_as (modes-are d e.told) c.put_modes-goal.ensures) in record { goal_writable = goal.writable; room = room_as (sym (goal-are d goal)) (room c.requires.room three) }

pub returns : goal.returns
returns c =
    let d = c.requires.accepted_with.1 in
    let e = c.put_actions-acted.ensures in
    let goal = c.put_goal-place.ensures in
    let one = step (count-begun c.args.file.now c.args.out.now) e.rows.wrote in
    let two = step one (wrote_as (starts-are d e.told c.requires.marks_len.2) c.put_starts-modes.ensures) in
    let three = step two (wrote_as (modes-are d e.told) c.put_modes-goal.ensures) in
    record {
      rows = record {
        wrote = done (step three (wrote_as (goal-are d c.read_goal.ensures) goal.wrote));
        marks_long = goal.marks_long;
        numbers_long = goal.numbers_long;
      };
      told = e.told;
      goal_sum_is = e.goal_sum_is;
    }
