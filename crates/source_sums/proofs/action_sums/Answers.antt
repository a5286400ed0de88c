-- `source_sums::action_sums` meets its contract: the places are those of the action's bytes. Assumes nothing.
use Prim.Native.Nat.{◌+◌}
use native.Mathlib.Numerals.{add-one}
use native.Mathlib.Omega.{arith}
use Rattle.source_sums.proofs.action_sums.Goals as goal

pub returns : goal.returns
returns c =
    let k = c.args.k in
    let from = c.requires.0 k (omega (arith, c.requires.1)) in
    let to = c.requires.0 (k + 1) (omega (arith, c.requires.1)) in
    rw (c.part.ensures, from, to, add-one) at c.decode_sums.ensures
