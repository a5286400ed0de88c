-- `plan_strokes::put_strokes` meets its contract: no strokes, those of a single effect, or of several those up to the holds and behind them
-- those of the targets. Assumes nothing.
use mathlib.Core.Path.{sym, ◌∙◌, subst}
use native.Mathlib.Omega.{arith}
use mathlib.Core.Bool.{true}
use mir.Facts.{to_z-of_z}
use mir.Syntax.{w64}
use mir.Val.{SFits}
use borrow.Author.Tests.{not-true, not-false}
use Rattle.plan_strokes.specs.Made.{MacroIs}
use Rattle.plan_strokes.proofs.Effects.{macro-has-some}
use Rattle.plan_strokes.proofs.Making.{first-given, none_made, held-few, several-made}
use borrow.Author.Rules.{rules}
use mathlib.Core.Path.{ap}
use mathlib.Core.Bool.{not}
use Rattle.plan_strokes.proofs.put_strokes.Goals as goal
use Rattle.plan_strokes.proofs.put_strokes.Lts as lts
use Rattle.plan_strokes.proofs.put_strokes.Reads as reads
use Rattle.plan_strokes.proofs.put_strokes.Tie as tie

pub returns-then-not-makes_macro : goal.returns-then-not-makes_macro
returns-then-not-makes_macro c =
    let z : SFits w64 c.result_of.result = search rules in
    let m = subst (MacroIs c.args.marks.now) (not-true _ (ap not c.if-not-makes_macro.true)) c.makes_macro.ensures in
    let given = first-given c.args.n c.args.numbers.now c.args.values.now c.args.results.now _ m c.requires.1 c.result_of.ensures.0 in
    rw (to_z-of_z z) (none_made c.requires.2 m c.requires.0 given)

-- its action becomes a macro
macro : (c : lts.Else1 tie.the-claims reads.Pre reads.Post) → MacroIs c.args.marks.now true
macro c = subst (MacroIs c.args.marks.now) (not-false _ (ap not c.if-not-makes_macro.false)) c.makes_macro.ensures

pub put_single-requires : goal.put_single-requires
put_single-requires c =
    (c.requires.0, c.requires.1, c.requires.2, macro c.before.before.before.before, sym c.effect_count-count.ensures ∙ c.if-count-eq1.true)

pub put_sets-requires : goal.put_sets-requires
put_sets-requires c =
    let g = c.put_held-held.ensures in
    (held-few c.requires.2 g, g.long, g.results_long, c.requires.2.variables_few, c.effect_count-count.ensures)

pub returns : goal.returns
returns c =
    let e = c.before.before.before.before.before.before.before in
    several-made c.requires.2 c.put_held-held.ensures (macro e)
    (omega (arith, c.if-count-eq1.false, c.effect_count-count.ensures, macro-has-some (macro e))) c.put_sets.ensures
