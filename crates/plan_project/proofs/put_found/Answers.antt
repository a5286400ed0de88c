-- `plan_project::put_found` meets its contract: the numbers noted are all that are found, or the plan is scanned. Assumes nothing.
use mathlib.Core.Path.{sym, ap}
use Rattle.lists.proofs.Writing.{room_as, wrote_as}
use Rattle.model.specs.Plans.{plan_bytes_of}
use Rattle.plan_project.proofs.Putting.{noted-are}
use Rattle.plan_project.proofs.put_found.Goals as goal

pub put_noted-requires : goal.put_noted-requires
put_noted-requires c = (room_as (ap plan_bytes_of (sym (noted-are c.requires.notes.0 c.requires.notes.1 c.if-found-le-NOTED.true))) c.requires.room.0, c.if-found-le-NOTED.true, c.requires.notes.0.long)

pub returns-then-found-le-NOTED : goal.returns-then-found-le-NOTED
returns-then-found-le-NOTED c = wrote_as (ap plan_bytes_of (noted-are c.requires.notes.0 c.requires.notes.1 c.if-found-le-NOTED.true)) c.put_noted.ensures
