-- `listing::put_values` meets its contract: the loop writes the field of each value. Assumes nothing.
use Prim.Native.Nat.{◌+◌, ◌*◌, ◌≤◌}
use Rattle.lists.proofs.WritingLoops.{Going}
use Rattle.listing.specs.Lines.{field}
use Rattle.listing.proofs.put_values.Given as goal

abbrev pub invariant-loop-z : goal.invariant-loop-z
invariant-loop-z l = Going field l.n l.values l.n l.initial.out l.at l.out l.place l.z-index × (l.place ≤ l.at + 21 * l.z-index)
