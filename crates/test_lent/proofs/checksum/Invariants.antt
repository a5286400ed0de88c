-- `test_lent::checksum` meets its contract: the bytes that are left give from the sum so far what all of them give from 0, and the sum stays below
-- the prime. Assumes nothing.
use Rattle.std.specs.List.{fold}
use Rattle.std.proofs.Common.{◌≡◌, ◌<◌, drop}
use Rattle.test_lent.specs.Lent.{checksum_of, with_byte}
use Rattle.test_lent.proofs.checksum.Given as goal

abbrev pub invariant-loop-byte : goal.invariant-loop-byte
invariant-loop-byte l = (l.sum < 1000000007) × (fold with_byte l.sum (drop l.byte-index l.bytes) ≡ checksum_of l.bytes)
