-- `listing_text::store_digits` meets its contract. The loop's invariant is `Storing`. Assumes nothing.
use mathlib.Core.Path.{◌≡◌}
use Prim.Native.Nat.{◌-◌, ◌^◌, ◌<◌}
use native.Mathlib.Omega.{arith}
use lib.ListN.{length, get_or}
use borrow.Author.Rules.{rules}
use Rattle.lists.proofs.Writing.{wrote-long}
use Rattle.listing_text.proofs.Fronts.{power_at, storing-start, storing-room, storing-below, storing-next, storing-end, digit-small}
use Rattle.listing_text.proofs.store_digits.Goals as goal
use Rattle.listing_text.proofs.store_digits.Lts as lts
use Rattle.listing_text.proofs.store_digits.Reads as reads
use Rattle.listing_text.proofs.store_digits.Tie as tie

-- the power of the next place, from the table
power-is : (c : lts.In-loop tie.the-claims reads.Pre reads.Post goal.the-invariant-loop-left goal.the-decreases-loop-left) → let k = c.loop-left.left - 1 in get_or c.args.powers.now k 0 ≡ 10 ^ k
power-is c = power_at c.requires.3 (c.loop-left.left - 1) (omega (arith, c.loop-left.invariant.few))

-- a digit has room
fits : (c : lts.In-loop tie.the-claims reads.Pre reads.Post goal.the-invariant-loop-left goal.the-decreases-loop-left) → c.loop-left.place < length c.loop-left.out
fits c = storing-room c.loop-left.invariant c.requires.4

pub loop-left-init : goal.loop-left-init
loop-left-init c = storing-start c.args.out.now c.args.at c.args.n c.args.k c.requires.0 c.requires.1 c.requires.2

pub overflow_sub-left : goal.overflow_sub-left
overflow_sub-left c = search (rules, arith)

pub count_off-counted-requires : goal.count_off-counted-requires
count_off-counted-requires c = storing-below c.loop-left.invariant (c.loop-left.left - 1) _ (omega arith) (power-is c.before.before.before)

pub overflow_add-out : goal.overflow_add-out
overflow_add-out c = omega (arith, c.count_off-counted.ensures.2)

pub overflow_cast-out : goal.overflow_cast-out
overflow_cast-out c = omega (arith, c.count_off-counted.ensures.2)

pub bounds-out-place : goal.bounds-out-place
bounds-out-place c = omega (arith, fits c.before.before.before.before.before)

pub next_place-place-requires : goal.next_place-place-requires
next_place-place-requires c = omega (arith, fits c.before.before.before.before.before, c.loop-left.invariant.long)

pub loop-left-preserved : goal.loop-left-preserved
loop-left-preserved c =
    let n = c.count_off-counted.ensures in
    rw (n.0, n.1)
    (storing-next c.loop-left.invariant (c.loop-left.left - 1) (omega arith) (omega arith) _ _ (power-is c.before.before.before.before.before.before) c.next_place-place.ensures)

pub overflow_add-out-2 : goal.overflow_add-out-2
overflow_add-out-2 c = omega (arith, digit-small c.loop-left.invariant (omega arith))

pub overflow_cast-out-2 : goal.overflow_cast-out-2
overflow_cast-out-2 c = omega (arith, digit-small c.loop-left.invariant (omega arith))

pub bounds-out-place-2 : goal.bounds-out-place-2
bounds-out-place-2 c = storing-room c.loop-left.invariant c.requires.4

pub overflow_add-result : goal.overflow_add-result
overflow_add-result c = omega (arith, storing-room c.loop-left.invariant c.requires.4)

pub shape_of-out : goal.shape_of-out
shape_of-out c = wrote-long (storing-end c.loop-left.invariant (omega arith))

pub returns : goal.returns
returns c = storing-end c.loop-left.invariant (omega arith)
