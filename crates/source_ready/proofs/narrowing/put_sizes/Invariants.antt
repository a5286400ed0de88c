-- `source_ready::narrowing::put_sizes` meets its contract. Assumes nothing.
use Prim.Native.Nat.{◌≤◌}
use Rattle.source_ready.specs.Narrowed.{SizesPut}
use Rattle.source_ready.proofs.narrowing.put_sizes.Given as goal

abbrev pub invariant-loop-i : goal.invariant-loop-i
invariant-loop-i l = (l.i ≤ l.m) × SizesPut l.i l.sizes l.initial.marks l.marks
