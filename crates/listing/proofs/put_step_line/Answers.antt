-- `listing::put_step_line` meets its contract: the step, the action, the price, and the values. Assumes nothing.
use native.Mathlib.Omega.{arith}
use Prim.Native.Nat.{ℕ, ◌^◌, ◌≤◌, ◌<◌}
use lib.ListN.{length, take}
use lib.IntN.{pos}
use Rattle.lists.proofs.Writing.{step, done, wrote-long}
use Rattle.listing_text.proofs.Digits.{at_most}
use Rattle.model.specs.Listing.{decimal}
use Rattle.listing.specs.Lines.{field}
use Rattle.listing.proofs.Lines.{count_most, step-line-begins, room-next, room-for-next}
use Rattle.listing.proofs.put_step_line.Goals as goal

-- how long the three numbers are at most
widths : (i k price : ℕ) → i < 2 ^ 64 → k < 2 ^ 64 → price < 2 ^ 64
    → (length (decimal i) ≤ 20) × (length (field (pos k)) ≤ 21) × (length (field (pos price)) ≤ 21)
widths i k price hi hk hp = (at_most 19 i (omega arith), count_most k hk, count_most price hp)

pub put_natural-action_at-requires : goal.put_natural-action_at-requires
put_natural-action_at-requires c =
    let begun = step-line-begins c.args.i c.args.k c.args.price (take c.args.n c.args.values.now) c.args.out.now c.args.at in
    room-next begun (omega (arith, at_most 19 c.args.i (omega arith))) c.requires.2

pub put_count-price_at-requires : goal.put_count-price_at-requires
put_count-price_at-requires c =
    let begun = step-line-begins c.args.i c.args.k c.args.price (take c.args.n c.args.values.now) c.args.out.now c.args.at in
    let action = c.put_natural-action_at.ensures in
    room-next (step begun action)
    (omega (arith, action.place, at_most 19 c.args.i (omega arith), count_most c.args.k (omega arith))) c.requires.2

pub put_count-values_at-requires : goal.put_count-values_at-requires
put_count-values_at-requires c =
    let begun = step-line-begins c.args.i c.args.k c.args.price (take c.args.n c.args.values.now) c.args.out.now c.args.at in
    let action = c.put_natural-action_at.ensures in
    let price = c.put_count-price_at.ensures in
    let longest = widths c.args.i c.args.k c.args.price (omega arith) (omega arith) (omega arith) in
    room-next (step (step begun action) price) (omega (arith, action.place, price.place, longest)) c.requires.2

pub put_fields-requires : goal.put_fields-requires
put_fields-requires c =
    let begun = step-line-begins c.args.i c.args.k c.args.price (take c.args.n c.args.values.now) c.args.out.now c.args.at in
    let action = c.put_natural-action_at.ensures in
    let price = c.put_count-price_at.ensures in
    let values = c.put_count-values_at.ensures in
    let longest = widths c.args.i c.args.k c.args.price (omega arith) (omega arith) (omega arith) in (
      c.requires.0,
      c.requires.1,
      room-for-next (step (step (step begun action) price) values)
          (omega (arith, action.place, price.place, values.place, longest, c.requires.0)) c.requires.2,
    )

pub shape_of-out : goal.shape_of-out
shape_of-out c =
    let begun = step-line-begins c.args.i c.args.k c.args.price (take c.args.n c.args.values.now) c.args.out.now c.args.at in
    let numbers = step (step (step begun c.put_natural-action_at.ensures) c.put_count-price_at.ensures) c.put_count-values_at.ensures in
    wrote-long (done (step numbers c.put_fields.ensures.0))

pub returns : goal.returns
returns c =
    let begun = step-line-begins c.args.i c.args.k c.args.price (take c.args.n c.args.values.now) c.args.out.now c.args.at in
    let action = c.put_natural-action_at.ensures in
    let price = c.put_count-price_at.ensures in
    let values = c.put_count-values_at.ensures in
    let longest = widths c.args.i c.args.k c.args.price (omega arith) (omega arith) (omega arith) in (
      done (step (step (step (step begun action) price) values) c.put_fields.ensures.0),
      omega (arith, action.place, price.place, values.place, longest, c.put_fields.ensures.1, c.requires.0),
    )
