-- `source_ready::narrowing::put_bounds` meets its contract. Assumes nothing.
use Prim.Native.Nat.{◌≤◌}
use Rattle.source_ready.specs.Narrowed.{BoundsPut}
use Rattle.source_ready.proofs.narrowing.put_bounds.Given as goal

abbrev pub invariant-loop-i : goal.invariant-loop-i
invariant-loop-i l = (l.i ≤ 8) × BoundsPut l.i l.lower l.upper l.initial.numbers l.numbers
