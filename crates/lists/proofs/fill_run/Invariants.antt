-- `lists::fill_run` meets its contract: what is left to write is a shorter run. Assumes nothing.
use mathlib.Core.List.{[], ◌∷◌}
use Prim.Native.Nat.{◌*◌, ◌-◌}
use lib.ListN.{replicate}
use Rattle.lists.specs.Numbers.{numbers_bytes}
use Rattle.lists.proofs.Writing.{Left}
use Rattle.lists.proofs.fill_run.Given as goal

abbrev pub invariant-loop-i : goal.invariant-loop-i
invariant-loop-i l =
    Left l.initial.run 0 (numbers_bytes 2 (replicate l.count l.number)) l.run (2 * l.i) (numbers_bytes 2 (replicate (l.count - l.i) l.number) ∷ [])
