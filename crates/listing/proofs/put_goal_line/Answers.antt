-- `listing::put_goal_line` meets its contract: the word, the total, and the line's end. Assumes nothing.
use native.Mathlib.Omega.{arith}
use Rattle.lists.proofs.Writing.{step, done, wrote-long}
use Rattle.listing.proofs.Lines.{count_most, goal-line-begins, room-next}
use Rattle.listing.proofs.put_goal_line.Goals as goal

pub put_bytes-total_at-requires : goal.put_bytes-total_at-requires
put_bytes-total_at-requires c = room-next (goal-line-begins c.args.total _ _) (omega arith) c.requires

pub put_count-end-requires : goal.put_count-end-requires
put_count-end-requires c =
    let word = c.put_bytes-total_at.ensures in
    room-next (step (goal-line-begins c.args.total _ _) word) (omega (arith, word.place, count_most c.args.total (omega arith))) c.requires

pub put_number-requires : goal.put_number-requires
put_number-requires c =
    let word = c.put_bytes-total_at.ensures in
    let total = c.put_count-end.ensures in
    room-next (step (step (goal-line-begins c.args.total _ _) word) total)
    (omega (arith, word.place, total.place, count_most c.args.total (omega arith))) c.requires

pub shape_of-out : goal.shape_of-out
shape_of-out c =
    wrote-long
    (done (step (step (step (goal-line-begins c.args.total _ _) c.put_bytes-total_at.ensures) c.put_count-end.ensures) c.put_number.ensures))

pub returns : goal.returns
returns c =
    let word = c.put_bytes-total_at.ensures in
    let total = c.put_count-end.ensures in
    let end = c.put_number.ensures in (
      done (step (step (step (goal-line-begins c.args.total _ _) word) total) end),
      omega (arith, word.place, total.place, end.place, count_most c.args.total (omega arith)),
    )
