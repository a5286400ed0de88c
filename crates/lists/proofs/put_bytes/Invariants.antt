-- `lists::put_bytes` meets its contract: the loop writes each byte as a list of one. Assumes nothing.
use Prim.Native.Nat.{◌+◌}
use lib.ListN.{length}
use Rattle.lists.proofs.Each.{single}
use Rattle.lists.proofs.WritingLoops.{Going}
use Rattle.lists.proofs.put_bytes.Given as goal

abbrev pub invariant-loop-i : goal.invariant-loop-i
invariant-loop-i l = Going single (length l.bytes) l.bytes (length l.bytes) l.initial.out l.at l.out (l.at + l.i) l.i
