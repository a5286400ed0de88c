-- `listing_text::behind_sign` meets its contract. Assumes nothing.
use mathlib.Core.Path.{refl}
use mir.Facts.{to_z-of_z}
use Rattle.listing_text.proofs.behind_sign.Goals as goal

pub returns-then-z-lt0 : goal.returns-then-z-lt0
returns-then-z-lt0 c = rw (rw (to_z-of_z c.ranges.z) at c.if-z-lt0.true) refl

pub returns : goal.returns
returns c = rw (rw (to_z-of_z c.ranges.z) at c.if-z-lt0.false) refl
