-- `action_of` reads the two bytes of the step.
-- Assumes nothing.
use native.Mathlib.Omega.{arith}
use Rattle.plan_bytes.proofs.Halves.{half_at}
use Rattle.plan_bytes.proofs.action_of.Goals as goal

pub returns : goal.returns
returns c = omega (arith, c.from_le_bytes.ensures, half_at c.args.plan.now c.args.i c.requires)
