-- `listing::put_refused_line` meets its contract: the word, the number, the place, and the line's end. Assumes nothing.
use native.Mathlib.Omega.{arith}
use Rattle.lists.proofs.Writing.{step, done, wrote-long}
use Rattle.listing.proofs.Lines.{count_most, refused-line-begins, room-next}
use Rattle.listing.proofs.put_refused_line.Goals as goal

pub put_bytes-number_at-requires : goal.put_bytes-number_at-requires
put_bytes-number_at-requires c = room-next (refused-line-begins c.args.number c.args.place _ _) (omega arith) c.requires

pub put_count-place_at-requires : goal.put_count-place_at-requires
put_count-place_at-requires c =
    let word = c.put_bytes-number_at.ensures in
    room-next (step (refused-line-begins c.args.number c.args.place _ _) word)
    (omega (arith, word.place, count_most c.args.number (omega arith))) c.requires

pub put_count-end-requires : goal.put_count-end-requires
put_count-end-requires c =
    let word = c.put_bytes-number_at.ensures in
    let number = c.put_count-place_at.ensures in
    room-next (step (step (refused-line-begins c.args.number c.args.place _ _) word) number)
    (omega (arith, word.place, number.place, count_most c.args.number (omega arith), count_most c.args.place (omega arith))) c.requires

pub put_number-requires : goal.put_number-requires
put_number-requires c =
    let word = c.put_bytes-number_at.ensures in
    let number = c.put_count-place_at.ensures in
    let place = c.put_count-end.ensures in
    let few = count_most c.args.number (omega arith) in
    room-next (step (step (step (refused-line-begins c.args.number c.args.place _ _) word) number) place)
    (omega (arith, word.place, number.place, place.place, few, count_most c.args.place (omega arith))) c.requires

pub shape_of-out : goal.shape_of-out
shape_of-out c =
    let begun = refused-line-begins c.args.number c.args.place c.args.out.now c.args.at in
    let word = c.put_bytes-number_at.ensures in
    wrote-long (done (step (step (step (step begun word) c.put_count-place_at.ensures) c.put_count-end.ensures) c.put_number.ensures))

pub returns : goal.returns
returns c =
    let word = c.put_bytes-number_at.ensures in
    let number = c.put_count-place_at.ensures in
    let place = c.put_count-end.ensures in
    let end = c.put_number.ensures in
    let few = count_most c.args.number (omega arith) in (
      done (step (step (step (step (refused-line-begins c.args.number c.args.place _ _) word) number) place) end),
      omega (arith, word.place, number.place, place.place, end.place, few, count_most c.args.place (omega arith)),
    )
