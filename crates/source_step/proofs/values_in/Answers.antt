-- `source_step::values_in` meets its contract. Assumes nothing.
use mathlib.Core.Path.{refl, sym, ◌∙◌}
use Prim.Native.Nat.{◌+◌}
use mir.Facts.{to_z-of_z}
use mir.Syntax.{w64}
use mir.Val.{SFits}
use Rattle.lists.specs.Loops.{every}
use Rattle.model.specs.Steps.{integer_at}
use Rattle.source_step.proofs.Rows.{left-start, left-none, left-pass, left-stop, row-tabulate}
use borrow.Author.Rules.{rules}
use Rattle.source_step.proofs.values_in.Goals as goal

pub loop-i-init : goal.loop-i-init
loop-i-init c = left-start (every (λ b. b)) (row-tabulate _ _)

pub returns-then-not-is_between : goal.returns-then-not-is_between
returns-then-not-is_between c =
    let a : SFits w64 (integer_at c.args.numbers.now c.loop-i.i) = search rules in
    let x : SFits w64 (integer_at c.args.values.now c.loop-i.i) = search rules in
    let b : SFits w64 (integer_at c.args.numbers.now (8 + c.loop-i.i)) = search rules in
    let tested = simp (to_z-of_z, a, x, b) at c.is_between.ensures in
    left-stop c.loop-i.invariant c.loop-i-test.true _ (λ rest. refl) (sym tested ∙ c.if-not-is_between.true)

pub loop-i-preserved : goal.loop-i-preserved
loop-i-preserved c =
    let a : SFits w64 (integer_at c.args.numbers.now c.loop-i.i) = search rules in
    let x : SFits w64 (integer_at c.args.values.now c.loop-i.i) = search rules in
    let b : SFits w64 (integer_at c.args.numbers.now (8 + c.loop-i.i)) = search rules in
    let tested = simp (to_z-of_z, a, x, b) at c.is_between.ensures in
    left-pass c.loop-i.invariant c.loop-i-test.true _ (λ rest. refl) (sym tested ∙ c.if-not-is_between.false)

pub returns : goal.returns
returns c = left-none c.loop-i.invariant c.loop-i-test.false
