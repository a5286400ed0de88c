-- `lowering_file::lower_accepted` meets its contract: the file is counted, and refused or written. Assumes nothing.
use mathlib.Core.Path.{refl, sym}
use native.Mathlib.Omega.{arith}
use Rattle.lists.proofs.Writing.{room-count, room_as, wrote_as}
use Rattle.answers.proofs.Lent.{counted-short, counted-room, counted-written}
use Rattle.lowering_file.proofs.Sums.{few-variables, kept_of_lem}
use Rattle.lowering_file.proofs.File.{file-is, same-long, task-short, accepted-lowers}
use Rattle.lowering_file.proofs.lower_accepted.Goals as goal

pub find_sums-sums-requires : goal.find_sums-sums-requires
find_sums-sums-requires c = (c.requires, c.find_places-places.ensures, refl)

pub first_kept-first-requires : goal.first_kept-first-requires
first_kept-first-requires c =
    (c.requires, c.find_places-places.ensures, few-variables c.read_declarations-declared.ensures.held)

pub count_task-counted-requires : goal.count_task-counted-requires
count_task-counted-requires c =
    let d = c.read_declarations-declared.ensures in
    let file = c.args.file.now in
    let keeps = kept_of_lem d.held c.find_sums-sums.ensures.0 c.first_kept-first.ensures.0 c.first_kept-first.ensures.1 in
    record {
      accepted_with = (c.requires, d, c.find_places-places.ensures);
      marks_len = (refl, refl, keeps);
      room = room-count refl (omega (arith, same-long file, task-short file d.held.is));
    }

pub returns-then-out-need : goal.returns-then-out-need
returns-then-out-need c =
    let file = c.args.file.now in
    rw c.at.ensures (counted-short _ (accepted-lowers file c.read_declarations-declared.ensures.held.is) (same-long file)
    c.count_task-counted.ensures.rows.wrote c.if-out-need.true)

pub put_task-requires : goal.put_task-requires
put_task-requires c =
    let d = c.read_declarations-declared.ensures in
    let file = c.args.file.now in
    let keeps = kept_of_lem d.held c.find_sums-sums.ensures.0 c.first_kept-first.ensures.0 c.first_kept-first.ensures.1 in
    let e = c.count_task-counted.ensures in
    let fits = counted-room _ (accepted-lowers file d.held.is) (same-long file) e.rows.wrote c.if-out-need.false in
    record {
      accepted_with = (c.requires, d, c.find_places-places.ensures);
      marks_len = (e.rows.marks_long, e.rows.numbers_long, e.told, keeps);
      room = room_as (sym (file-is file)) fits;
    }

pub returns : goal.returns
returns c =
    let file = c.args.file.now in
    counted-written _ (accepted-lowers file c.read_declarations-declared.ensures.held.is) (same-long file)
    c.count_task-counted.ensures.rows.wrote c.if-out-need.false
    (wrote_as (file-is file) c.put_task.ensures)
