-- `listing::put_rest` meets its contract, by what is left. Assumes nothing.
use mathlib.Core.Path.{refl}
use native.Mathlib.Omega.{arith}
use Rattle.model.specs.Plans.{plan_numbers}
use Rattle.listing.proofs.Parts.{refusal-room, part-refusal}
use Rattle.listing.proofs.put_rest.Goals as goal

pub put_refused_line-requires : goal.put_refused_line-requires
put_refused_line-requires c =
    let r = c.in-Refusal in refusal-room r.number r.place c.args.most (rw r.is at c.requires.room_for)

pub put_sheet-requires : goal.put_sheet-requires
put_sheet-requires c =
    let l = c.in-Lines in
    record { most_nonzero = (c.requires.most_nonzero.0, rw l.is at c.requires.most_nonzero.1); room_for = rw l.is at c.requires.room_for }

pub returns-in-Nothing : goal.returns-in-Nothing
returns-in-Nothing c =
    rw c.in-Nothing.is
    (record { wrote = record { place = refl; bytes = refl }; few = omega arith; left = refl; pending = tt; fewer = omega arith })

pub returns-in-Refusal : goal.returns-in-Refusal
returns-in-Refusal c =
    let r = c.in-Refusal in
    let w = c.put_refused_line.ensures in
    rw r.is
    (part-refusal r.number r.place c.args.most (plan_numbers c.args.plan.now) c.args.marks.now c.args.numbers.now w.0 w.1)

pub returns-in-Lines : goal.returns-in-Lines
returns-in-Lines c = rw c.in-Lines.is c.put_sheet.ensures
