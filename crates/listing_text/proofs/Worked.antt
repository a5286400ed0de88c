-- The worked examples hold, by computing.
-- Assumes nothing.
use mathlib.Core.Path.{refl}
use Rattle.integers.specs.All.{All}
use Rattle.model.specs.Listing.{digits, decimal, decimal_signed}
use Rattle.listing_text.specs.Worked.{Holds, examples}

pub examples-hold : All Holds examples
unfolding digits decimal decimal_signed
examples-hold = (refl, (refl, (refl, (refl, (refl, (refl, (refl, (refl, (refl, (refl, tt))))))))))
