-- `listing::put_field` meets its contract: a space, and the number behind it. Assumes nothing.
use mir.Facts.{to_z-of_z}
use Rattle.lists.proofs.Writing.{step, done, room}
use Rattle.listing.proofs.Lines.{field-begins}
use Rattle.listing.proofs.put_field.Goals as goal

pub put_number-behind-requires : goal.put_number-behind-requires
put_number-behind-requires c = room c.requires (field-begins c.args.z _ _)

pub put_integer-requires : goal.put_integer-requires
put_integer-requires c =
    rw (to_z-of_z c.ranges.z) (room c.requires (step (field-begins c.args.z _ _) c.put_number-behind.ensures))

pub returns : goal.returns
returns c =
    let number = rw (to_z-of_z c.ranges.z) at c.put_integer.ensures in
    done (step (step (field-begins c.args.z _ _) c.put_number-behind.ensures) number)
