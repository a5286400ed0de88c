-- `plan_project::advance` meets its contract: an action that stays one is its opening, which stands there. Assumes nothing.
use mathlib.Core.Bool.{true, false}
use mathlib.Core.Path.{subst}
use native.Mathlib.Omega.{arith}
use borrow.Author.Tests.{not-true, not-false}
use Rattle.model.specs.Plans.{plan_numbers}
use Rattle.plan_strokes.specs.Made.{MacroIs}
use Rattle.plan_strokes.proofs.Effects.{stays-few}
use Rattle.plan_project.proofs.Advancing.{one-taken, one-refused}
use mathlib.Core.Path.{ap}
use mathlib.Core.Bool.{not}
use Rattle.plan_project.proofs.advance.Goals as goal
use Rattle.plan_project.proofs.advance.Lts as lts
use Rattle.plan_project.proofs.advance.Reads as reads
use Rattle.plan_project.proofs.advance.Tie as tie

-- its action stays one
stays : (f : lts.Then1 tie.the-claims reads.Pre reads.Post tie.handed_clauses) → MacroIs f.args.marks.now false
stays f = subst (MacroIs f.args.marks.now) (not-true _ (ap not f.if-not-makes_macro.true)) f.makes_macro.ensures

pub take_single-requires : goal.take_single-requires
take_single-requires c =
    (c.requires.n_bound.0, c.requires.n_bound.1, c.requires.n_bound.2, c.requires.usable, stays-few (stays c.before.before.before))

pub returns-then-take_single : goal.returns-then-take_single
returns-then-take_single c = record {
  advanced = one-taken c.args.n c.args.m c.args.marks.now c.args.numbers.now c.args.sums.now c.args.values.now
      c.args.modes.now c.args.total c.args.at (plan_numbers c.args.plan.now) c.args.opening (stays c.before.before.before.before.before)
      c.take_single.ensures c.requires.steps_value.3 (omega (arith, c.requires.steps_value.0, c.requires.steps_value.1)) c.if-take_single.true;
  times_len = c.requires.n_bound.3;
}

pub returns-then-not-makes_macro : goal.returns-then-not-makes_macro
returns-then-not-makes_macro c = rw c.at.ensures (record {
  advanced = one-refused c.args.n c.args.m c.args.marks.now c.args.numbers.now c.args.sums.now c.args.values.now
      c.args.modes.now c.args.total c.args.at (plan_numbers c.args.plan.now) c.args.opening (stays c.before.before.before.before.before.before)
      c.take_single.ensures c.if-take_single.false;
  times_len = c.requires.n_bound.3;
})

pub advance_macro-requires : goal.advance_macro-requires
advance_macro-requires c =
    let several : MacroIs c.args.marks.now true = subst (MacroIs c.args.marks.now) (not-false _ (ap not c.if-not-makes_macro.false)) c.makes_macro.ensures in
    record { n_bound = c.requires.n_bound; usable = c.requires.usable; macro_is = (several, c.requires.steps_value.0, c.requires.steps_value.1, c.requires.steps_value.2) }
