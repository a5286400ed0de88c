-- `source_ready::narrowing::hold_all` meets its contract. Assumes nothing.
use mathlib.Core.Path.{ap}
use native.Mathlib.Omega.{arith}
use Prim.Native.Nat.{◌<◌}
use Rattle.model.specs.Steps.{natural_at}
use Rattle.source_step.proofs.Rows.{left-start, left-next, left-none, row-tabulate}
use Rattle.file_parts.specs.Layout.{mode_condition_count}
use Rattle.source_ready.specs.Narrowed.{held_all}
use Rattle.source_ready.proofs.narrowing.hold_all.Goals as goal

pub loop-i-init : goal.loop-i-init
loop-i-init c =
    left-start (λ es. held_all es c.args.marks.now) (row-tabulate (natural_at c.args.parts.now mode_condition_count) _)

pub hold-requires : goal.hold-requires
hold-requires c =
    c.requires.each c.loop-i.i (omega (arith, c.loop-i-test.true, c.from-count.ensures))

pub loop-i-preserved : goal.loop-i-preserved
loop-i-preserved c =
    let b : c.loop-i.i < natural_at c.args.parts.now mode_condition_count = omega (arith, c.loop-i-test.true, c.from-count.ensures) in
    left-next c.loop-i.invariant _ b (λ rest. ap (held_all rest) c.hold.ensures)

pub returns : goal.returns
returns c = left-none c.loop-i.invariant (omega (arith, c.loop-i-test.false, c.from-count.ensures))
