-- `ruphenqo::ruphenqo_lower` meets its contract. Assumes nothing.
use mathlib.Core.Path.{ap}
use Rattle.ruphenqo.proofs.Telling.{told-as}
use Rattle.ruphenqo.proofs.ruphenqo_lower.Goals as goal

pub returns : goal.returns
returns c =
    let e = c.lower.ensures.meets in record { told = told-as (ap (λ p. p.0) e) c.tell_written.ensures; out_after = ap (λ p. p.1) e }
