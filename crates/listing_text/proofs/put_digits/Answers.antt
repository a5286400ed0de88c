-- `listing_text::put_digits` meets its contract: into output of length 0 the digits are only counted. Assumes nothing.
use mathlib.Core.Path.{◌≡◌, ap}
use native.Mathlib.Omega.{arith}
use lib.ListN.{length}
use Rattle.lists.specs.Writing.{capacity}
use Rattle.lists.proofs.Writing.{room-some, wrote_none}
use Rattle.listing_text.proofs.put_digits.Goals as goal

pub behind_digits-requires : goal.behind_digits-requires
behind_digits-requires c =
    let e : length c.args.out.now ≡ 0 = omega arith in
    (c.requires.0, c.requires.1, c.requires.2, c.requires.3, omega (arith, c.requires.4.fits, ap capacity e))

pub returns-then-out-eq0 : goal.returns-then-out-eq0
returns-then-out-eq0 c = wrote_none (omega arith) c.behind_digits.ensures

pub store_digits-requires : goal.store_digits-requires
store_digits-requires c =
    (c.requires.0, c.requires.1, c.requires.2, c.requires.3, room-some c.requires.4 (omega arith))
