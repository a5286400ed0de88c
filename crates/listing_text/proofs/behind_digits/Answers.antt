-- `listing_text::behind_digits` meets its contract. The loop's invariant is `Passing`. Assumes nothing.
use Prim.Native.Nat.{◌-◌}
use native.Mathlib.Omega.{arith}
use borrow.Author.Rules.{rules}
use Rattle.listing_text.proofs.Fronts.{power_at, passing-start, passing-short, passing-next, passing-end}
use Rattle.listing_text.proofs.behind_digits.Goals as goal

pub loop-left-init : goal.loop-left-init
loop-left-init c = passing-start c.args.at c.args.n c.args.k c.requires.0 c.requires.1 c.requires.2

pub overflow_sub-left : goal.overflow_sub-left
overflow_sub-left c = search (rules, arith)

pub next_place-place-requires : goal.next_place-place-requires
next_place-place-requires c = omega (arith, passing-short c.loop-left.invariant, c.requires.4)

pub loop-left-preserved : goal.loop-left-preserved
loop-left-preserved c =
    let k = c.loop-left.left - 1 in
    passing-next c.loop-left.invariant k _ _ (omega arith) (omega arith) (power_at c.requires.3 k (omega (arith, c.loop-left.invariant.few))) c.next_place-place.ensures

pub returns : goal.returns
returns c = passing-end c.loop-left.invariant (omega arith)
