-- `lowering_file::put_task` meets its contract: its parts are written one after another. Assumes nothing.
use mathlib.Core.Path.{sym}
use native.Mathlib.Omega.{arith}
use Rattle.lists.proofs.Writing.{step, done, room, room_as, wrote_as, wrote-long}
use Rattle.lowering_file.proofs.Walk.{bounded}
use Rattle.lowering_file.proofs.Keeping.{goal-from}
use Rattle.lowering_file.proofs.File.{starts-are, starts_fit, modes-are, goal-are, file-begun}
use Rattle.lowering_file.proofs.put_task.Goals as goal

-- all of it
pub returns : goal.returns
returns c =
    let d = c.requires.accepted_with.1 in
    let told = c.requires.marks_len.2 in
    let one = step (file-begun c.args.file.now c.args.out.now) (wrote_as (starts-are d told c.requires.marks_len.3) c.put_starts-modes.ensures) in
    let two = step one (wrote_as (modes-are d told) c.put_modes-behind.ensures) in
    let three = step two c.put_actions-acted.ensures.rows.wrote in
    let goal = c.read_goal.ensures in
    done (step three (wrote_as (goal-are d goal) c.put_goal.ensures.wrote))

pub put_starts-modes-requires : goal.put_starts-modes-requires
put_starts-modes-requires c =
    let d = c.requires.accepted_with.1 in
    let keeps = c.requires.marks_len.3 in
    record {
      n_bound = ((bounded d.held).variables_few, d.starts_long);
      values_near = (d.starts_small, keeps.sums.few, keeps.sums.blank.small);
      all = starts_fit d keeps;
      room = room_as (sym (starts-are d c.requires.marks_len.2 keeps)) (room c.requires.room (file-begun c.args.file.now c.args.out.now));
    }

pub put_modes-behind-requires : goal.put_modes-behind-requires
put_modes-behind-requires c =
    let d = c.requires.accepted_with.1 in
    let told = c.requires.marks_len.2 in
    let one = step (file-begun c.args.file.now c.args.out.now) (wrote_as (starts-are d told c.requires.marks_len.3) c.put_starts-modes.ensures) in record { n_bound = (bounded d.held).modes_few; room = room_as (sym (modes-are d told)) (room c.requires.room one) }

pub put_actions-acted-requires : goal.put_actions-acted-requires
put_actions-acted-requires c =
    let d = c.requires.accepted_with.1 in
    let told = c.requires.marks_len.2 in
    let keeps = c.requires.marks_len.3 in
    let one = step (file-begun c.args.file.now c.args.out.now) (wrote_as (starts-are d told keeps) c.put_starts-modes.ensures) in
    let two = step one (wrote_as (modes-are d told) c.put_modes-behind.ensures) in
    record {
      accepted_with = (c.requires.accepted_with.0, d.held, c.requires.accepted_with.2);
      marks_len = (c.requires.marks_len.0, c.requires.marks_len.1, keeps);
      room = room c.requires.room two;
    }

pub read_goal-requires : goal.read_goal-requires
read_goal-requires c =
    let keeps = c.requires.marks_len.3 in
    let e = c.put_actions-acted.ensures in
    record {
      accepted_with = (c.requires.accepted_with.0, c.requires.accepted_with.2);
      sums_value = (keeps.sums.counted, goal-from keeps e.goal_sum_is);
      marks_len = (e.rows.marks_long, e.rows.numbers_long);
    }

pub overflow_cast-shape : goal.overflow_cast-shape
overflow_cast-shape c =
    omega (arith, (bounded c.requires.accepted_with.1.held).modes_few)

pub put_goal-requires : goal.put_goal-requires
put_goal-requires c =
    let d = c.requires.accepted_with.1 in
    let told = c.requires.marks_len.2 in
    let goal = c.read_goal.ensures in
    let one = step (file-begun c.args.file.now c.args.out.now) (wrote_as (starts-are d told c.requires.marks_len.3) c.put_starts-modes.ensures) in
    let two = step one (wrote_as (modes-are d told) c.put_modes-behind.ensures) in
    let three = step two c.put_actions-acted.ensures.rows.wrote in record { goal_writable = goal.writable; room = room_as (sym (goal-are d goal)) (room c.requires.room three) }

pub shape_of-out : goal.shape_of-out
shape_of-out c = wrote-long (returns c)
