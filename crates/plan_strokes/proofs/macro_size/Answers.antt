-- `plan_strokes::macro_size` meets its contract. The loop's invariant: the sizes of the effects passed are summed up. Assumes nothing.
use mathlib.Core.Path.{sym, ◌∙◌, subst}
use Prim.Native.Nat.{◌-◌, ◌≤◌}
use native.Mathlib.Omega.{arith}
use mathlib.Core.Bool.{true}
use borrow.Author.Tests.{not-true, not-false}
use Rattle.plan_strokes.specs.Made.{MacroIs}
use Rattle.plan_strokes.specs.Opening.{Sized}
use Rattle.plan_strokes.proofs.Effects.{macro-has-some}
use Rattle.plan_strokes.proofs.Counting.{stays-one, summing_start, summing-next, one-sized, several-sized}
use mathlib.Core.Path.{ap}
use mathlib.Core.Bool.{not}
use Rattle.plan_strokes.proofs.macro_size.Goals as goal
use Rattle.plan_strokes.proofs.macro_size.Goals.{Else-not-makes_macro, Then-count-eq1}

pub returns-then-not-makes_macro : goal.returns-then-not-makes_macro
returns-then-not-makes_macro c =
    let marks = c.args.marks.now in
    stays-one marks (subst (MacroIs marks) (not-true _ (ap not c.if-not-makes_macro.true)) c.makes_macro.ensures)

pub loop-e-init : goal.loop-e-init
loop-e-init c = (summing_start c.args.marks.now, c.effect_count-count.ensures)

pub effect_size-size-requires : goal.effect_size-size-requires
effect_size-size-requires c = omega (arith, c.loop-e.invariant.1, c.loop-e-test.true)

pub overflow_add-size : goal.overflow_add-size
overflow_add-size c = let g = c.loop-e.invariant.0 in omega (arith, g.few, g.bound, c.effect_size-size.ensures.few)

pub loop-e-preserved : goal.loop-e-preserved
loop-e-preserved c =
    let l = c.loop-e.invariant in
    (summing-next l.0 (omega (arith, l.1, c.loop-e-test.true)) c.effect_size-size.ensures, l.1)

-- its action becomes a macro
macro : (c : Else-not-makes_macro) → MacroIs c.args.marks.now true
macro c = subst (MacroIs c.args.marks.now) (not-false _ (ap not c.if-not-makes_macro.false)) c.makes_macro.ensures

ones : (c : Then-count-eq1) → MacroIs c.args.marks.now true → (3 ≤ c.loop-e.size) × Sized c.args.marks.now (c.loop-e.size - 3)
ones c m =
    let l = c.loop-e.invariant in
    one-sized l.0 (omega (arith, l.1, c.loop-e-test.false)) m (sym l.1 ∙ c.if-count-eq1.true)

pub overflow_sub-result : goal.overflow_sub-result
overflow_sub-result c = let at = goal.at.overflow_sub-result c in (ones at.Then-count-eq1 (macro at.Else-not-makes_macro)).0

pub returns-then-count-eq1 : goal.returns-then-count-eq1
returns-then-count-eq1 c = let at = goal.at.returns-then-count-eq1 c in (ones at.Then-count-eq1 (macro at.Else-not-makes_macro)).1

pub returns : goal.returns
returns c =
    let l = c.loop-e.invariant in
    let two = c.if-count-eq1.false in
    several-sized l.0 (omega (arith, l.1, c.loop-e-test.false)) (omega (arith, l.1, two, macro-has-some (macro (goal.at.returns c).Else-not-makes_macro)))
