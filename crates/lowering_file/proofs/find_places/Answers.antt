-- `lowering_file::find_places` meets its contract, by what is stored for an accepted file. Assumes nothing.
use native.Mathlib.Omega.{arith}
use Rattle.file_actions.proofs.Accepted.{bytes-of}
use Rattle.lowering_file.proofs.Declared.{placed}
use Rattle.lowering_file.proofs.find_places.Goals as goal

pub returns : goal.returns
returns c =
    let file = c.args.file.now in
    let bytes = bytes-of file (λ i. omega (arith, c.shared_slice_known-1.given i)) in
    placed file c.args.count bytes c.requires _ c.action_places.ensures
