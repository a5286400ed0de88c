-- `listing_text::store_digits` meets its contract. The loop's invariant is `Storing`. Assumes nothing.
use Rattle.listing_text.proofs.Fronts.{Storing}
use Rattle.listing_text.proofs.store_digits.Given as goal

abbrev pub invariant-loop-left : goal.invariant-loop-left
invariant-loop-left l = Storing l.initial.out l.at l.n l.out l.place l.rest l.left

abbrev pub decreases-loop-left : goal.decreases-loop-left
decreases-loop-left l = l.left
