-- `restricted_runs::take_steps` meets its contract: at each step the run has come so far. Assumes nothing.
use Rattle.restricted_step.specs.Steps.{state_of}
use Rattle.file_parts.specs.Row.{row_is}
use Rattle.restricted_runs.proofs.Running.{Running}
use Rattle.restricted_runs.proofs.take_steps.Given as goal

abbrev pub invariant-loop-i : goal.invariant-loop-i
invariant-loop-i l = Running (row_is l.marks l.numbers) (state_of l.initial.values l.initial.modes) l.k l.plan l.from l.steps l.i (state_of l.values l.modes)
