-- `integers::number_at` meets its contract: the bytes are read from the last on. Assumes nothing.
use lib.ListN.{take, drop}
use Rattle.integers.proofs.Numbers.{Backward}
use Rattle.integers.proofs.number_at.Given as goal

abbrev pub invariant-loop-byte : goal.invariant-loop-byte
invariant-loop-byte l = Backward (take l.width (drop l.place l.s)) l.byte-iterator.iter.rest.now l.number
