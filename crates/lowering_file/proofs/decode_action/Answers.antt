-- `lowering_file::decode_action` meets its contract: the places are those of the action's bytes. Assumes nothing.
use Prim.Native.Nat.{◌+◌}
use native.Mathlib.Numerals.{add-one}
use native.Mathlib.Omega.{arith}
use Rattle.lowering_file.proofs.decode_action.Goals as goal

pub returns : goal.returns
returns c =
    let k = c.args.k in
    let from = c.requires.places_of.0 k (omega (arith, c.requires.places_of.1)) in
    let to = c.requires.places_of.0 (k + 1) (omega (arith, c.requires.places_of.1)) in
    rw (c.part.ensures, from, to, add-one) at c.decode_source.ensures
