-- `plan_strokes::take_priced` meets its contract: the test of the rows; then of an action that stays one the rest of the step, and of a macro the
-- strokes and their price before it. Assumes nothing.
use mathlib.Core.Path.{◌≡◌, refl, sym, ◌∙◌, subst}
use mathlib.Core.Bool.{true, false}
use native.Mathlib.Omega.{arith}
use mir.Facts.{to_z-of_z}
use mir.Syntax.{w64}
use mir.Val.{SFits}
use borrow.Author.Tests.{not-true, not-false}
use Rattle.source_step.specs.Row.{held, Reads}
use Rattle.source_step.proofs.Taking.{read-when-held}
use Rattle.plan_strokes.specs.Made.{MacroIs}
use Rattle.plan_strokes.proofs.Effects.{stays-few}
use Rattle.plan_strokes.proofs.Prices.{turned-away, turned-single, turned}
use borrow.Author.Rules.{rules}
use mathlib.Core.Path.{ap}
use mathlib.Core.Bool.{not}
use Rattle.plan_strokes.proofs.take_priced.Goals as goal
use Rattle.plan_strokes.proofs.take_priced.Goals.{Else-not-holds, Then-not-makes_macro}

pub returns-then-not-holds : goal.returns-then-not-holds
returns-then-not-holds c = record { turned = turned-away (sym c.holds.ensures ∙ not-true _ (ap not c.if-not-holds.true)); times_len = c.requires.n_bound.3 }

-- the rows' test passed
module _ (c : Else-not-holds) where
  passed : held c.args.n c.args.m c.args.marks.now c.args.numbers.now c.args.sums.now c.args.values.now c.args.modes.now ≡ true
  passed = sym c.holds.ensures ∙ not-false _ (ap not c.if-not-holds.false)

  row_reads : Reads c.args.n c.args.values.now c.args.marks.now c.args.numbers.now
  row_reads = read-when-held c.args.m c.args.values.now c.args.modes.now c.requires.n_bound.0 c.requires.usable passed

-- the action stays one
single : (c : Then-not-makes_macro) → MacroIs c.args.marks.now false
single c = subst (MacroIs c.args.marks.now) (not-true _ (ap not c.if-not-makes_macro.true)) c.makes_macro.ensures

pub result_of-result-requires : goal.result_of-result-requires
result_of-result-requires c = (row_reads (goal.at.result_of-result-requires c).Else-not-holds, omega arith)

pub finish_single-applied-requires : goal.finish_single-applied-requires
finish_single-applied-requires c =
    let z : SFits w64 c.result_of-result.result = search rules in
    let n = c.requires.n_bound in (
      n.0,
      n.1,
      n.2,
      c.requires.usable.keeps,
      (stays-few (single (goal.at.finish_single-applied-requires c).Then-not-makes_macro), λ q. rw (to_z-of_z z) c.result_of-result.ensures.0),
    )

pub returns-then-not-makes_macro : goal.returns-then-not-makes_macro
returns-then-not-makes_macro c =
    let at = goal.at.returns-then-not-makes_macro c in record {
      turned = rw c.priced.ensures
          (turned-single (passed at.Else-not-holds) (single at.Then-not-makes_macro) c.finish_single-applied.result c.finish_single-applied.ensures);
      times_len = c.requires.n_bound.3;
    }

pub put_strokes-count-requires : goal.put_strokes-count-requires
put_strokes-count-requires c =
    (c.requires.n_bound.3, refl, row_reads (goal.at.put_strokes-count-requires c).Else-not-holds)

pub price_of-price-requires : goal.price_of-price-requires
price_of-price-requires c = let l = c.put_strokes-count.ensures.listed in (l.few, l.long, rw l.is l.within)

pub returns : goal.returns
returns c = record {
  turned = rw c.priced-2.ensures (turned (passed (goal.at.returns c).Else-not-holds) c.put_strokes-count.ensures c.price_of-price.result
      c.price_of-price.ensures c.finish-applied.result c.finish-applied.ensures);
  times_len = c.put_strokes-count.ensures.listed.long;
}
