-- `restricted_runs::leap_far` meets its contract: leaps one after another, of as many steps at most as are left. Assumes nothing.
use native.Mathlib.Omega.{arith}
use Rattle.restricted_runs.proofs.Leaps.{leapt-none, leapt-then}
use Rattle.restricted_runs.proofs.leap_far.Goals as goal

pub loop-times-init : goal.loop-times-init
loop-times-init c = (leapt-none c.requires.1.within, omega arith)

pub loop-times-preserved : goal.loop-times-preserved
loop-times-preserved c =
    let v = c.loop-times.invariant in
    (leapt-then v.0 c.leap-leapt.ensures v.1, omega (arith, v.1, c.leap-leapt.ensures.few, c.min-times.ensures))
