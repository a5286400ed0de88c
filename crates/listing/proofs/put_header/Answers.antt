-- `listing::put_header` meets its contract: no byte, or the header. Assumes nothing.
use mathlib.Core.Path.{refl, sym}
use Rattle.lists.proofs.Writing.{room_as, wrote_as}
use Rattle.listing.proofs.Parts.{no_header, first-header}
use Rattle.listing.proofs.put_header.Goals as goal

pub returns-then-next-gt0 : goal.returns-then-next-gt0
returns-then-next-gt0 c = wrote_as (sym (no_header c.args.next c.if-next-gt0.true)) (record { place = refl; bytes = refl })

pub put_bytes-requires : goal.put_bytes-requires
put_bytes-requires c = room_as (first-header c.args.next c.if-next-gt0.false) c.requires

pub returns : goal.returns
returns c =
    wrote_as (sym (first-header c.args.next c.if-next-gt0.false)) c.put_bytes.ensures
