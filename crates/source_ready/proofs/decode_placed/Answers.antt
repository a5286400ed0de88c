-- `source_ready::decode_placed` meets its contract: the places are the edges of the action. Assumes nothing.
use native.Mathlib.Numerals.{add-one}
use Rattle.source_ready.proofs.decode_placed.Goals as goal

pub returns : goal.returns
returns c =
    rw (c.part.ensures, c.requires.1.start, c.requires.1.end, add-one) at c.decode_source.ensures
