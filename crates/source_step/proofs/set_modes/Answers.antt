-- `source_step::set_modes` meets its contract. Assumes nothing.
use native.Mathlib.Omega.{arith}
use mathlib.Core.Path.{refl}
use Prim.Native.Nat.{◌+◌}
use borrow.Author.Rules.{rules}
use Rattle.model.specs.Steps.{natural_at}
use Rattle.source_step.proofs.Modes.{none-set, one_set, all_set, kept-below}
use Rattle.source_step.proofs.set_modes.Goals as goal

pub loop-i-init : goal.loop-i-init
loop-i-init c = none-set c.args.m c.args.marks.now c.args.modes.now c.requires.1

pub overflow_mul-modes : goal.overflow_mul-modes
overflow_mul-modes c =
    let i = c.loop-i.i in omega (
      arith,
      kept-below (natural_at c.loop-i.modes i) (natural_at c.args.marks.now (8 + i)) (search (rules, arith)),
      c.requires.2 i (omega (arith, c.loop-i-test.true, c.requires.0)),
    )

pub overflow_add-modes : goal.overflow_add-modes
overflow_add-modes c =
    let i = c.loop-i.i in omega (
      arith,
      kept-below (natural_at c.loop-i.modes i) (natural_at c.args.marks.now (8 + i)) (search (rules, arith)),
      c.requires.2 i (omega (arith, c.loop-i-test.true, c.requires.0)),
    )

pub loop-i-preserved : goal.loop-i-preserved
loop-i-preserved c = one_set c.loop-i.invariant c.loop-i-test.true refl

pub returns : goal.returns
returns c = all_set c.loop-i.invariant c.loop-i-test.false
