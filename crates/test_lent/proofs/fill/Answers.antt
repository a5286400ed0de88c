-- `test_lent::fill` meets its contract: each byte below the index is the pattern's, and at the end these are all. Assumes nothing.
use Rattle.std.proofs.Common.{arith, rules}
use Rattle.std.proofs.lemmas.List.FromFn.{fill_by_all}
use Rattle.test_lent.specs.Lent.{pattern}
use Rattle.test_lent.proofs.fill.Goals as goal

pub returns : goal.returns
unfolding pattern
returns c = fill_by_all _ c.loop-i.out _ 0 (search rules) (λ k h. c.loop-i.invariant k (omega arith))
