-- `plan_strokes::put_terms` meets its contract. The loop's invariant: the strokes made, and behind them those of the terms that are left, are
-- those of all terms. Assumes nothing.
use native.Mathlib.Omega.{arith}
use mir.Facts.{to_z-of_z}
use mir.Syntax.{w64}
use mir.Val.{SFits}
use Rattle.plan_strokes.proofs.Making.{draining-start, draining-next, draining-end}
use borrow.Author.Rules.{rules}
use Rattle.plan_strokes.proofs.put_terms.Goals as goal

pub loop-i-init : goal.loop-i-init
loop-i-init c = (
  draining-start c.args.marks.now c.args.e _ c.args.times.now c.args.at c.requires.1,
  c.min-k.ensures,
)

pub put_two-count-requires : goal.put_two-count-requires
put_two-count-requires c =
    let d = c.loop-i.invariant in
    (omega (arith, d.0.counted, d.1, c.loop-i-test.true, c.requires.0), d.0.long)

pub loop-i-preserved : goal.loop-i-preserved
loop-i-preserved c =
    let v = c.value_of-value in
    let a : SFits w64 v.result = search rules in
    let l = c.loop-i.invariant in
    (draining-next l.0 (omega (arith, l.1, c.loop-i-test.true)) v.ensures (simp (to_z-of_z, a) at c.put_two-count.ensures), l.1)

pub returns : goal.returns
returns c = let l = c.loop-i.invariant in draining-end l.0 (omega (arith, l.1, c.loop-i-test.false))
