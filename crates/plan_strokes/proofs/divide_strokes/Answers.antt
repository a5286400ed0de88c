-- `plan_strokes::divide_strokes` meets its contract, by the sign of c. Assumes nothing.
use mathlib.Core.Path.{ap, ◌∙◌}
use lib.IntN.{pos, ◌-ℤ◌}
use mir.Facts.{to_z-of_z}
use mir.Syntax.{w64}
use mir.Val.{SFits}
use Rattle.integers.proofs.Parts.{ints, sub, abs}
use Rattle.plan_strokes.proofs.Making.{floor-up, floor-down}
use Rattle.plan_strokes.proofs.divide_strokes.Goals as goal
use Rattle.plan_strokes.proofs.divide_strokes.Lts as lts
use Rattle.plan_strokes.proofs.divide_strokes.Reads as reads

pub returns-then-c-ge0 : goal.returns-then-c-ge0
returns-then-c-ge0 c =
    rw (to_z-of_z c.ranges.quotient) (λ y e. e ∙ floor-up y c.args.c (simp (to_z-of_z, c.ranges.c) at c.if-c-ge0.true))

-- its opposite fits
opposite : (s : lts.Start reads.Pre reads.Post) → SFits w64 (pos 0 -ℤ s.args.quotient)
opposite s = omega (ints, sub (pos 0) s.args.quotient, abs s.args.quotient, s.requires.within)

pub overflow_sub-result : goal.overflow_sub-result
overflow_sub-result c = rw (to_z-of_z c.ranges.quotient) (opposite c.before)

pub returns : goal.returns
returns c =
    rw (to_z-of_z c.ranges.quotient, to_z-of_z (opposite c.before))
    (λ y e. ap (λ z. pos 0 -ℤ z) e ∙ floor-down y c.args.c (simp (to_z-of_z, c.ranges.c) at c.if-c-ge0.false))
