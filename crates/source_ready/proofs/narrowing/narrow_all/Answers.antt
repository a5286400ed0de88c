-- `source_ready::narrowing::narrow_all` meets its contract: what is left of the conditions makes of the row what all make of the first. Assumes nothing.
use mathlib.Core.Path.{ap}
use mir.Facts.{to_z-of_z}
use mir.Syntax.{w64}
use mir.Val.{SFits}
use lib.IntN.{pos}
use lib.ListN.{get_or}
use native.Mathlib.Omega.{arith}
use Prim.Native.Nat.{◌<◌}
use borrow.Author.Rules.{rules}
use Rattle.model.specs.Steps.{natural_at}
use Rattle.source_step.proofs.Rows.{left-start, left-next, left-none, row-tabulate}
use Rattle.file_parts.specs.Layout.{condition_count}
use Rattle.source_ready.specs.Narrowed.{narrowed_all}
use Rattle.source_ready.proofs.narrowing.narrow_all.Goals as goal

pub loop-i-init : goal.loop-i-init
loop-i-init c =
    left-start (λ cs. narrowed_all cs c.args.numbers.now) (row-tabulate (natural_at c.args.parts.now condition_count) _)

pub narrow-requires : goal.narrow-requires
narrow-requires c =
    let b : c.loop-i.i < natural_at c.args.parts.now condition_count = omega (arith, c.loop-i-test.true, c.from-count.ensures) in
    let a : SFits w64 (get_or c.args.constants.now c.loop-i.i (pos 0)) = search rules in
    simp (to_z-of_z, a) (c.requires.declared c.loop-i.i b, c.requires.in_range c.loop-i.i b)

pub loop-i-preserved : goal.loop-i-preserved
loop-i-preserved c =
    let b : c.loop-i.i < natural_at c.args.parts.now condition_count = omega (arith, c.loop-i-test.true, c.from-count.ensures) in
    let a : SFits w64 (get_or c.args.constants.now c.loop-i.i (pos 0)) = search rules in
    left-next c.loop-i.invariant _ b (λ rest. ap (narrowed_all rest) (simp (to_z-of_z, a) at c.narrow.ensures))

pub returns : goal.returns
returns c = left-none c.loop-i.invariant (omega (arith, c.loop-i-test.false, c.from-count.ensures))
