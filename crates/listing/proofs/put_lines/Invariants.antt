-- `listing::put_lines` meets its contract. The loop's invariant is `Writing`: what is left is still to be written, and to be paid. Assumes nothing.
use mathlib.Core.Path.{◌≡◌}
use lib.ListN.{length}
use Rattle.model.specs.Plans.{plan_numbers}
use Rattle.source_step.specs.Step.{state}
use Rattle.source_step.specs.Table.{table}
use Rattle.listing.proofs.Lining as lining
use Rattle.listing.proofs.put_lines.Given as goal

abbrev pub invariant-loop-i : goal.invariant-loop-i
invariant-loop-i l =
    lining.Writing (table l.count l.marks l.numbers l.n l.m) (plan_numbers l.plan) l.from l.until l.before (state l.initial.values l.initial.modes)
    l.initial.out l.at l.values l.modes l.i l.out l.place l.spent
    × (length l.times ≡ 33)
