-- `plan_strokes::price_of` meets its contract. The loop's invariant: the price so far and that of the strokes that are left make the whole.
-- Assumes nothing.
use mathlib.Core.Path.{◌≡◌}
use Prim.Native.Nat.{◌≤◌}
use native.Mathlib.Omega.{arith}
use borrow.Author.Rules.{rules}
use mir.Facts.{to_z-of_z}
use mir.Syntax.{w64}
use mir.Val.{SFits}
use lib.IntN.{pos, nat_abs}
use lib.ListN.{get_or, take, length-take}
use Rattle.plan_strokes.proofs.Prices.{pricing-start, pricing-next, pricing-end}
use Rattle.plan_strokes.proofs.price_of.Goals as goal
use Rattle.plan_strokes.proofs.price_of.Goals.{After-unsigned_abs}

pub loop-z-init : goal.loop-z-init
loop-z-init c = pricing-start (take c.args.count c.args.times.now)

-- what one turn adds
module _ (c : After-unsigned_abs) where
  added : c.unsigned_abs.result ≡ nat_abs (get_or (take c.args.count c.args.times.now) c.loop-z.z-index (pos 0))
  added =
      let a : SFits w64 (get_or (take c.args.count c.args.times.now) c.loop-z.z-index (pos 0)) = search rules in
      simp (to_z-of_z, a) at c.unsigned_abs.ensures.value

  few : c.unsigned_abs.result ≤ 1000000000
  few = omega (arith, added, (c.requires.2 c.loop-z.z-index).within)

pub overflow_add-price : goal.overflow_add-price
overflow_add-price c = omega (arith, few c)

pub overflow_add-price-in-loop-z : goal.overflow_add-price-in-loop-z
overflow_add-price-in-loop-z c =
    let g = c.loop-z.invariant in omega (arith, few c, g.few, g.bound, length-take c.args.count c.args.times.now, c.requires.0)

pub loop-z-preserved : goal.loop-z-preserved
loop-z-preserved c = pricing-next c.loop-z.invariant c.loop-z-test.true c.requires.2 c.unsigned_abs.result (added c)

pub returns : goal.returns
returns c =
    let g = c.loop-z.invariant in
    (pricing-end g c.loop-z-test.false, omega (arith, g.few, g.bound, length-take c.args.count c.args.times.now, c.requires.0))
