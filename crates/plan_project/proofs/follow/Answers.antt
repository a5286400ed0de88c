-- `plan_project::follow` meets its contract. The loop's invariant is `Going`: what is left projects to what the whole projects to. Assumes nothing.
use mathlib.Core.Path.{refl}
use native.Mathlib.Omega.{arith}
use Rattle.std.proofs.lemmas.Result.{err_from_is_err_and}
use Rattle.plan_bytes.proofs.Steps.{halves_long}
use Rattle.plan_project.proofs.Going.{begins, over, no-action, number_small, rows-here, stopped, rises, goes}
use borrow.Author.Rules.{rules}
use Rattle.plan_project.proofs.follow.Goals as goal

pub loop-at-init : goal.loop-at-init
loop-at-init c = (begins _ _ _ _ _ _ c.requires.modes_len.0 c.requires.modes_len.1, refl)

pub action_of-opening-requires : goal.action_of-opening-requires
action_of-opening-requires c = omega (arith, halves_long c.args.plan.now, c.loop-at-test.true, c.requires.usables.2)

pub astray-requires : goal.astray-requires
astray-requires c = c.requires.usables.2

pub returns-then-count-k : goal.returns-then-count-k
returns-then-count-k c =
    let (u, b, s) = c.requires.usables in
    no-action c.loop-at.invariant.0 u b _ c.action_of-opening.ensures c.loop-at-test.true s c.source_of-source.ensures
    c.if-count-k.true c.astray.ensures

pub bounds-marks-k : goal.bounds-marks-k
bounds-marks-k c =
    let (u, b, s) = c.requires.usables in
    (rows-here c.loop-at.invariant.0 u b _ c.action_of-opening.ensures c.loop-at-test.true s c.source_of-source.ensures c.if-count-k.false).0

pub bounds-numbers-k : goal.bounds-numbers-k
bounds-numbers-k c =
    let (u, b, s) = c.requires.usables in
    (rows-here c.loop-at.invariant.0 u b _ c.action_of-opening.ensures c.loop-at-test.true s c.source_of-source.ensures c.if-count-k.false).1

pub bounds-numbers-33 : goal.bounds-numbers-33
bounds-numbers-33 c =
    let (u, b, s) = c.requires.usables in
    (rows-here c.loop-at.invariant.0 u b _ c.action_of-opening.ensures c.loop-at-test.true s c.source_of-source.ensures c.if-count-k.false).2

pub advance-requires : goal.advance-requires
advance-requires c =
    let (u, b, s) = c.requires.usables in
    let (g, times) = c.loop-at.invariant in
    let number = c.action_of-opening.ensures in
    record {
      n_bound = (u.variables_few, u.modes_few, g.long, times);
      usable = u.usable _ (omega (arith, c.if-count-k.false));
      steps_value = (
        s,
        c.loop-at-test.true,
        number_small g u b _ number c.loop-at-test.true s c.source_of-source.ensures c.if-count-k.false,
        number,
      );
    }

pub returns-in_err-at : goal.returns-in_err-at
returns-in_err-at c =
    let (u, b, s) = c.requires.usables in
    let p = err_from_is_err_and c.from_residual.result c.from_residual.ensures.1 in
    rw (p.1, p.2)
    (stopped c.loop-at.invariant.0 u b _ c.action_of-opening.ensures c.loop-at-test.true s c.source_of-source.ensures
    c.if-count-k.false c.advance.ensures.advanced c.in_err-at.was)

pub overflow_add-found : goal.overflow_add-found
overflow_add-found c = omega (arith, c.loop-at.invariant.0.few, c.loop-at-test.true)

pub loop-at-smaller : goal.loop-at-smaller
loop-at-smaller c =
    let (u, b, s) = c.requires.usables in
    let r = rises c.loop-at.invariant.0 u b _ c.action_of-opening.ensures c.loop-at-test.true s c.source_of-source.ensures
    c.if-count-k.false c.advance.ensures.advanced c.in_ok-at.was in
    omega (arith, r.0, r.1, s)

pub loop-at-preserved : goal.loop-at-preserved
loop-at-preserved c =
    let (u, b, s) = c.requires.usables in (
      goes c.loop-at.invariant.0 u b _ c.action_of-opening.ensures c.loop-at-test.true s c.source_of-source.ensures
          c.if-count-k.false c.advance.ensures.advanced c.in_ok-at.was c.note.ensures,
      c.advance.ensures.times_len,
    )

pub returns : goal.returns
returns c = over c.loop-at.invariant.0 (omega (arith, c.loop-at-test.false, c.requires.usables.2))
