-- `lists::put_number` meets its contract: what is left to write are the bytes of `rest`. Assumes nothing.
use Prim.Native.Nat.{◌-◌}
use mathlib.Core.List.{[], ◌∷◌}
use Rattle.integers.specs.Numbers.{bytes_of}
use Rattle.lists.proofs.Writing.{Left}
use Rattle.lists.proofs.put_number.Given as goal

abbrev pub invariant-loop-slot : goal.invariant-loop-slot
invariant-loop-slot l = Left l.initial.slot-items 0 (bytes_of l.width l.n) l.slot-items l.slot-index (bytes_of (l.width - l.slot-index) l.rest ∷ [])
