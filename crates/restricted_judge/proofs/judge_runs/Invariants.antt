-- `restricted_judge::judge_runs` meets its contract: where a run ends, what is left to be judged gives what there was, and every slot holds the
-- action that its tag says. Assumes nothing.
use mathlib.Core.Path.{◌≡◌}
use Prim.Native.Nat.{◌-◌}
use lib.ListN.{length}
use Rattle.restricted_step.specs.Steps.{state_of}
use Rattle.restricted_runs.specs.Slots.{Held}
use Rattle.restricted_judge.proofs.Walking.{Walking}
use Rattle.restricted_judge.proofs.judge_runs.Given as goal

abbrev pub invariant-loop-i : goal.invariant-loop-i
invariant-loop-i l =
    Walking l.file l.plan l.places l.count l.steps (state_of l.initial.values l.initial.modes) l.i (state_of l.values l.modes)
    × Held l.file l.count l.tags l.marks l.numbers × (length l.tags ≡ length l.initial.tags)

abbrev pub decreases-loop-i : goal.decreases-loop-i
decreases-loop-i l = l.steps - l.i
