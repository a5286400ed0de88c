-- `plan_strokes::effect_size` meets its contract, kind by kind. Assumes nothing.
use native.Mathlib.Omega.{arith}
use Rattle.plan_strokes.proofs.Counting.{add-size, linear-size, division-size}
use Rattle.plan_strokes.proofs.effect_size.Goals as goal

pub returns-then-kind-eq-ADD : goal.returns-then-kind-eq-ADD
returns-then-kind-eq-ADD c = add-size c.args.marks.now c.args.e c.if-kind-eq-ADD.true

pub returns-then-kind-eq-LINEAR : goal.returns-then-kind-eq-LINEAR
returns-then-kind-eq-LINEAR c =
    linear-size c.args.marks.now c.args.e c.if-kind-eq-LINEAR.true c.min.result c.min.ensures

pub returns : goal.returns
returns c = division-size c.args.marks.now c.args.e (omega (arith, c.if-kind-eq-LINEAR.false, c.if-kind-eq-ADD.false))
