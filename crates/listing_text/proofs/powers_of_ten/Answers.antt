-- `listing_text::powers_of_ten` meets its contract: the table is computed. Assumes nothing.
use mathlib.Core.Path.{refl}
use Rattle.lists.specs.Each.{tabulate}
use Rattle.listing_text.proofs.powers_of_ten.Goals as goal

pub returns : goal.returns
unfolding tabulate
returns c = refl
