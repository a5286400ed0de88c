-- `lowering_file::read_declarations` meets its contract, by what is read of an accepted file. Assumes nothing.
use native.Mathlib.Omega.{arith}
use Rattle.file_declarations.proofs.Accepted.{source-held}
use Rattle.file_actions.proofs.Accepted.{bytes-of}
use Rattle.source_step.proofs.Judging.{accepted-task, zero_room}
use Rattle.source_sums.specs.Found.{task_of}
use Rattle.lowering_file.proofs.Declared.{declared}
use Rattle.lowering_file.proofs.read_declarations.Goals as goal

pub returns : goal.returns
returns c =
    let file = c.args.file.now in
    let bytes = bytes-of file (λ i. omega (arith, c.shared_slice_known-1.given i)) in
    declared file c.args.count bytes c.requires c.read_source-declared.result _ _ _ _ _ (source-held zero_room c.read_source-declared.ensures (task_of file) (accepted-task file c.args.count c.requires))
