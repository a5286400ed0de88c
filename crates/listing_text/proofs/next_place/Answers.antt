-- `listing_text::next_place` meets its contract. Assumes nothing.
use mathlib.Core.Path.{refl}
use borrow.Author.Tests.{lt-ltb, le-ltb}
use Rattle.listing_text.proofs.next_place.Goals as goal

pub returns-then-n-power : goal.returns-then-n-power
returns-then-n-power c = rw (lt-ltb _ _ c.if-n-power.true) refl

pub returns : goal.returns
returns c = rw (le-ltb _ _ c.if-n-power.false) refl
