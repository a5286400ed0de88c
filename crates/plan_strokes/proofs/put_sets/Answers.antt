-- `plan_strokes::put_sets` meets its contract. The loop's invariant: the strokes made, and behind them those of the targets that are left, are
-- those of all targets. Assumes nothing.
use native.Mathlib.Omega.{arith}
use mir.Facts.{to_z-of_z}
use mir.Syntax.{w64}
use mir.Val.{SFits}
use mathlib.Core.Path.{refl}
use lib.IntN.{pos}
use lib.ListN.{get_or}
use Rattle.plan_strokes.proofs.Making.{setting-start, setting-next, setting-end}
use borrow.Author.Rules.{rules}
use Rattle.plan_strokes.proofs.put_sets.Goals as goal

pub loop-e-init : goal.loop-e-init
loop-e-init c = setting-start c.args.marks.now c.args.results.now _ c.args.times.now c.args.at c.requires.1

pub put_two-place-requires : goal.put_two-place-requires
put_two-place-requires c =
    let g = c.loop-e.invariant in
    (omega (arith, g.counted, c.loop-e-test.true, c.requires.0, c.requires.4), g.long)

pub loop-e-preserved : goal.loop-e-preserved
loop-e-preserved c =
    let v = c.value_of-before in
    let a : SFits w64 v.result = search rules in
    let b : SFits w64 (get_or c.args.results.now c.loop-e.e (pos 0)) = search rules in
    setting-next c.loop-e.invariant (omega (arith, c.requires.4, c.loop-e-test.true)) v.ensures refl
    (simp (to_z-of_z, a, b) at c.put_two-place.ensures)

pub returns : goal.returns
returns c = setting-end c.loop-e.invariant (omega (arith, c.requires.4, c.loop-e-test.false))
