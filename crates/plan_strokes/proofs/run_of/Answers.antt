-- `plan_strokes::run_of` meets its contract, for every z, the least included. Assumes nothing.
use mathlib.Core.Path.{◌≡◌}
use lib.IntN.{nat_abs}
use lib.ListN.{replicate}
use mir.Facts.{to_z-of_z}
use Rattle.model.specs.Expansion.{strokes}
use Rattle.plan_strokes.proofs.Writing.{falls, rises}
use Rattle.plan_strokes.proofs.run_of.Goals as goal
use Rattle.plan_strokes.proofs.run_of.Goals.{then-z-ge0, else-z-ge0}

pub returns : goal.returns
returns c =
    let z = c.args.z in
    let many : c.unsigned_abs.result ≡ nat_abs z = simp (to_z-of_z, c.ranges.z) at c.unsigned_abs.ensures.value in
    let is : strokes c.args.first z ≡ replicate (nat_abs z) c.if-z-ge0.number =
    elim c.if-z-ge0.branch [
      | then-z-ge0 w ↦ rw w.number-is (falls c.args.first z (simp (to_z-of_z, c.ranges.z) at w.if-z-ge0.true))
      | else-z-ge0 w ↦ rw w.number-is (rises c.args.first z (simp (to_z-of_z, c.ranges.z) at w.if-z-ge0.false))
    ] in
    record { is = rw many is; many = many }
