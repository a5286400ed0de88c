-- `ruphenqo::ruphenqo_source_action` meets its contract. Assumes nothing.
use Rattle.ruphenqo.proofs.Telling.{told-as}
use Rattle.ruphenqo.proofs.ruphenqo_source_action.Goals as goal

pub returns : goal.returns
returns c = told-as c.place_source_action.ensures c.tell_place.ensures
