-- `test_digits::powers` is safe and ends: a power is at least 1, and ten times one that the loop takes is at most 10 to the power of 19.
-- Assumes nothing.
use Rattle.std.proofs.Common.{◌-◌, ◌≤◌}
use Rattle.test_digits.proofs.powers.Given as goal

abbrev pub invariant-loop-power : goal.invariant-loop-power
invariant-loop-power g l = (1 ≤ l.power) × (l.power ≤ 10000000000000000000)

abbrev pub decreases-loop-power : goal.decreases-loop-power
decreases-loop-power g l = 10000000000000000000 - l.power
