-- `ruphenqo::ruphenqo_price_plan` meets its contract. Assumes nothing.
use Rattle.ruphenqo.proofs.Telling.{told-as}
use Rattle.ruphenqo.proofs.ruphenqo_price_plan.Goals as goal

pub returns : goal.returns
returns c = told-as c.price_plan.ensures c.tell_price.ensures
