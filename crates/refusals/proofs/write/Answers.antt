-- `refusals::write` meets its contract: the text does not fit, or it is put at the front. Assumes nothing.
use native.Mathlib.Omega.{arith}
use mathlib.Core.Path.{refl}
use Rattle.lists.proofs.Writing.{room_by}
use Rattle.answers.proofs.Lent.{too_short, written}
use Rattle.refusals.proofs.write.Goals as goal

pub returns-then-out-length : goal.returns-then-out-length
returns-then-out-length c = rw c.at.ensures (too_short refl refl (omega (arith, c.if-out-length.true)))

pub put_bytes-requires : goal.put_bytes-requires
put_bytes-requires c = room_by (omega arith)

pub returns : goal.returns
returns c = written refl refl c.if-out-length.false c.put_bytes.ensures
