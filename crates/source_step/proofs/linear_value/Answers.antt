-- `source_step::linear_value` meets its contract. The loop's invariant: the sum with the terms that are left is the sum of all terms, and each
-- term adds 100,000,000 at most. Assumes nothing.
use native.Mathlib.Omega.{arith}
use mathlib.Core.Path.{refl}
use Prim.Native.Nat.{◌<◌}
use mir.Facts.{to_z-of_z}
use mir.Syntax.{w64}
use mir.Val.{SFits, to_z}
use Rattle.source_step.specs.Row.{constant_at, weight_at}
use Rattle.source_step.proofs.Numbers.{product-fits, with-term-fits, with-term-small}
use Rattle.source_step.proofs.Rows.{left-start, left-next, left-none, row-tabulate}
use borrow.Author.Rules.{rules}
use Rattle.source_step.proofs.linear_value.Goals as goal

pub loop-i-init : goal.loop-i-init
loop-i-init c =
    let k : SFits w64 (constant_at c.args.numbers.now c.args.e) = search rules in
    let q = rw c.from.ensures at c.min-count.ensures in
    rw (to_z-of_z k) (rw q (left-start _ (row-tabulate _ _)), omega (arith, c.requires.0.effects.constants c.args.e c.requires.1), omega arith)

pub overflow_mul-sum-in-loop-i : goal.overflow_mul-sum-in-loop-i
overflow_mul-sum-in-loop-i c =
    let l = c.loop-i.invariant in
    let k : c.loop-i.i < 4 = omega (arith, l.2, c.loop-i-test.true) in
    let v = c.value_of-value in
    let a : SFits w64 v.result = search rules in
    let b : SFits w64 (weight_at c.args.numbers.now c.args.e c.loop-i.i) = search rules in
    rw (to_z-of_z a, to_z-of_z b, v.ensures) (product-fits c.requires.0 c.args.e c.requires.1 c.loop-i.i k)

pub overflow_add-sum-in-loop-i : goal.overflow_add-sum-in-loop-i
overflow_add-sum-in-loop-i c =
    let l = c.loop-i.invariant in
    let k : c.loop-i.i < 4 = omega (arith, l.2, c.loop-i-test.true) in
    let v = c.value_of-value in
    let a : SFits w64 v.result = search rules in
    let b : SFits w64 (weight_at c.args.numbers.now c.args.e c.loop-i.i) = search rules in
    let p = product-fits c.requires.0 c.args.e c.requires.1 c.loop-i.i k in
    rw (to_z-of_z a, to_z-of_z b, v.ensures, to_z-of_z p) (with-term-fits c.requires.0 c.args.e c.requires.1 c.loop-i.i k _ l.1)

pub loop-i-preserved : goal.loop-i-preserved
loop-i-preserved c =
    let l = c.loop-i.invariant in
    let k : c.loop-i.i < 4 = omega (arith, l.2, c.loop-i-test.true) in
    let v = c.value_of-value in
    let a : SFits w64 v.result = search rules in
    let b : SFits w64 (weight_at c.args.numbers.now c.args.e c.loop-i.i) = search rules in
    let p = product-fits c.requires.0 c.args.e c.requires.1 c.loop-i.i k in
    let q = with-term-fits c.requires.0 c.args.e c.requires.1 c.loop-i.i k (to_z w64 c.loop-i.sum-bits) l.1 in
    rw (to_z-of_z a, to_z-of_z b, v.ensures, to_z-of_z p, to_z-of_z q) (
      left-next l.0 _ c.loop-i-test.true (λ rest. refl),
      with-term-small c.requires.0 c.args.e c.requires.1 c.loop-i.i k _ l.1,
      l.2,
    )

pub returns : goal.returns
returns c =
    let l = c.loop-i.invariant in
    (left-none l.0 c.loop-i-test.false, record { within = omega (arith, l.0.bound, l.1, l.2) })
