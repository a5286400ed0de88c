-- `listing::put_sheet` meets its contract: the header or none, the lines until the end of the part, and the goal's line or none. Assumes nothing.
use Rattle.listing.proofs.Parts.{part-listable, header-room, lines-room, part-broken, goal-room, part-last}
use Rattle.listing.proofs.put_sheet.Goals as goal

pub put_header-lines_at-requires : goal.put_header-lines_at-requires
put_header-lines_at-requires c = header-room c.args.most c.requires.most_nonzero.1 c.requires.room_for

pub put_lines-lined-requires : goal.put_lines-lined-requires
put_lines-lined-requires c =
    let h = c.put_header-lines_at.ensures in
    rw c.part_end-until.ensures
    (record {
      listable = part-listable c.args.most c.requires.most_nonzero.1;
      room_for = lines-room c.args.most c.requires.most_nonzero.1 c.requires.room_for h;
    })

pub returns-then-until-task : goal.returns-then-until-task
returns-then-until-task c =
    let e = c.part_end-until.ensures in
    part-broken c.args.most c.requires.most_nonzero.1 c.requires.room_for c.put_header-lines_at.ensures (rw e at c.put_lines-lined.ensures) c.requires.most_nonzero.0 (rw e at c.if-until-task.true)

pub put_goal_line-requires : goal.put_goal_line-requires
put_goal_line-requires c =
    let e = c.part_end-until.ensures in
    goal-room c.args.most c.requires.most_nonzero.1 c.requires.room_for c.put_header-lines_at.ensures (rw e at c.put_lines-lined.ensures) (rw e at c.if-until-task.false)

pub returns : goal.returns
returns c =
    let e = c.part_end-until.ensures in
    part-last c.args.most c.requires.most_nonzero.1 c.requires.room_for c.put_header-lines_at.ensures (rw e at c.put_lines-lined.ensures)
    (rw e at c.if-until-task.false)
    c.put_goal_line.ensures.0 c.put_goal_line.ensures.1
