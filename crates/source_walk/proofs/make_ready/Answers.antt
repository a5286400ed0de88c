-- `source_walk::make_ready` meets its contract: what the file declares is held by the arrays, and with it the rows are made. Assumes nothing.
use Rattle.file_declarations.proofs.Accepted.{source-held}
use Rattle.source_step.proofs.Judging.{zero_room, zeros-kept}
use Rattle.source_walk.proofs.Opening.{started}
use Rattle.source_walk.proofs.make_ready.Goals as goal

pub prepare-requires : goal.prepare-requires
prepare-requires c =
    let D = rw (c.requires.values_value.0, c.requires.values_value.1) at c.read_source-declared.ensures in
    (c.requires.accepted_with.0, record { starts = _; modes = _; holds = source-held zero_room D }, c.requires.accepted_with.2, c.requires.accepted_with.3)

pub returns : goal.returns
returns c =
    let D = rw (c.requires.values_value.0, c.requires.values_value.1) at c.read_source-declared.ensures in
    started c.requires.accepted_with.0 c.requires.accepted_with.1 (source-held zero_room D) c.prepare.ensures (zeros-kept D)
