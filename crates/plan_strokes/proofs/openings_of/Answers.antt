-- `plan_strokes::openings_of` meets its contract. Assumes nothing.
use native.Mathlib.Omega.{arith}
use Rattle.plan_strokes.proofs.Counting.{counting-start, counting-next, counting-end}
use Rattle.plan_strokes.proofs.openings_of.Goals as goal

pub loop-k-init : goal.loop-k-init
loop-k-init c = counting-start c.args.marks.now c.args.count

pub overflow_add-next : goal.overflow_add-next
overflow_add-next c = let l = c.loop-k.invariant in omega (arith, l.small, l.bound, c.requires.0, c.macro_size-next.ensures.few)

pub loop-k-preserved : goal.loop-k-preserved
loop-k-preserved c = counting-next c.macro_size-next.result c.loop-k.invariant c.loop-k-test.true c.requires.0 c.macro_size-next.ensures

pub returns : goal.returns
returns c = counting-end c.loop-k.invariant c.loop-k-test.false
