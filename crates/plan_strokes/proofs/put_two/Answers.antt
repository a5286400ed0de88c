-- `plan_strokes::put_two` meets its contract: one stroke, and one behind it. Assumes nothing.
use native.Mathlib.Omega.{arith}
use mir.Facts.{to_z-of_z}
use Rattle.plan_strokes.proofs.Making.{then}
use Rattle.plan_strokes.proofs.put_two.Goals as goal

pub put_one-next-requires : goal.put_one-next-requires
put_one-next-requires c = (omega (arith, c.requires.0), c.requires.1)

pub put_one-requires : goal.put_one-requires
put_one-requires c = let m = c.put_one-next.ensures in (omega (arith, m.counted, c.requires.0), m.long)

pub returns : goal.returns
returns c =
    then (simp (to_z-of_z, c.ranges.first) at c.put_one-next.ensures) (simp (to_z-of_z, c.ranges.second) at c.put_one.ensures)
