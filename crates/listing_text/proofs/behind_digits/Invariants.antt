-- `listing_text::behind_digits` meets its contract. The loop's invariant is `Passing`. Assumes nothing.
use Rattle.listing_text.proofs.Fronts.{Passing}
use Rattle.listing_text.proofs.behind_digits.Given as goal

abbrev pub invariant-loop-left : goal.invariant-loop-left
invariant-loop-left l = Passing l.at l.n l.place l.left

abbrev pub decreases-loop-left : goal.decreases-loop-left
decreases-loop-left l = l.left
