-- `listing_text::take_off` meets its contract. Assumes nothing.
use mathlib.Core.Path.{refl}
use borrow.Author.Tests.{lt-ltb, le-ltb}
use Rattle.listing_text.proofs.take_off.Goals as goal

pub returns-then-counted-all : goal.returns-then-counted-all
returns-then-counted-all c = rw (lt-ltb _ _ c.if-counted-all.true) refl

pub returns : goal.returns
returns c = rw (le-ltb _ _ c.if-counted-all.false) refl
