-- `file_actions::place_action` meets its contract, by what the file has. Assumes nothing.
use borrow.Author.Tests.{lt-ltb}
use Rattle.file_actions.proofs.Edges.{sought-first}
use Rattle.file_actions.proofs.place_action.Goals as goal

pub returns : goal.returns
returns c =
    let (starts, next) = c.edge_from-start.ensures.is _ (sought-first _ _) in
    rw (c.in_ok-accepted.was, lt-ltb _ _ c.if-accepted-k.false, ← starts, ← (c.edge_from-end.ensures.is _ next).0)
