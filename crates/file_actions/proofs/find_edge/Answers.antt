-- `file_actions::find_edge` meets its contract: from the front on the k-th is number k. Assumes nothing.
use Rattle.file_actions.proofs.Edges.{sought-first}
use Rattle.file_actions.proofs.find_edge.Goals as goal

pub returns : goal.returns
returns c = (c.edge_from.ensures.is _ (sought-first _ _)).0
