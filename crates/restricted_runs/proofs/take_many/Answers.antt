-- `restricted_runs::take_many` meets its contract: a run that goes on behind leaps. Assumes nothing.
use native.Mathlib.Omega.{arith}
use Rattle.restricted_runs.proofs.Running.{run-leaps, run_on, can-run-on}
use Rattle.restricted_runs.proofs.take_many.Goals as goal

pub take_steps-requires : goal.take_steps-requires
take_steps-requires c =
    let leaps = c.leap_far-taken.ensures in
    let counted = c.count_alike-alike.ensures in
    can-run-on c.requires leaps.within (omega (arith, leaps.few, counted.some, counted.there)) (counted.alike _ (omega (arith, leaps.few, counted.some)))

pub returns : goal.returns
returns c = run_on (run-leaps c.count_alike-alike.ensures c.leap_far-taken.ensures) c.take_steps.result _ c.take_steps.ensures
