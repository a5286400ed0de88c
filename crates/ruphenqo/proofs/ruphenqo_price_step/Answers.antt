-- `ruphenqo::ruphenqo_price_step` meets its contract. Assumes nothing.
use Rattle.ruphenqo.proofs.Telling.{told-as}
use Rattle.ruphenqo.proofs.ruphenqo_price_step.Goals as goal

pub returns : goal.returns
returns c = told-as c.price_step.ensures c.tell_price.ensures
