-- `source_step::set_value` meets its contract. Assumes nothing.
use mir.Facts.{to_z-of_z}
use Rattle.source_step.proofs.Sound.{store_in, store_out}
use Rattle.source_step.proofs.set_value.Goals as goal

pub returns-then-i-n : goal.returns-then-i-n
returns-then-i-n c =
    let w = c.from-i in
    rw (to_z-of_z c.ranges.value) (store_in c.args.n c.args.values.now w.result c.args.variable w.ensures c.args.value c.if-i-n.true)

pub returns-else-i-n : goal.returns-else-i-n
returns-else-i-n c =
    let w = c.from-i in store_out c.args.n c.args.values.now w.result c.args.variable w.ensures c.args.value c.if-i-n.false
