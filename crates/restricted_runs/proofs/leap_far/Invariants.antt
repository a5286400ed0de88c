-- `restricted_runs::leap_far` meets its contract: leaps one after another, of as many steps at most as are left. Assumes nothing.
use Prim.Native.Nat.{◌+◌, ◌≤◌}
use Rattle.restricted_step.specs.Steps.{state_of}
use Rattle.file_parts.specs.Row.{row_is}
use Rattle.restricted_runs.specs.Repeats.{Leapt}
use Rattle.restricted_runs.proofs.leap_far.Given as goal

abbrev pub invariant-loop-times : goal.invariant-loop-times
invariant-loop-times l =
    Leapt (row_is l.marks l.numbers) (state_of l.initial.values l.initial.modes) l.most l.taken (state_of l.values l.modes) × (l.taken + l.times ≤ l.most)

abbrev pub decreases-loop-times : goal.decreases-loop-times
decreases-loop-times l = l.times
