-- `source_walk::take_turn` meets its contract: a step at its price, or at none. Assumes nothing.
use Rattle.source_walk.proofs.Turns.{at-its-price, at-no-price}
use Rattle.source_walk.proofs.take_turn.Goals as goal

pub returns-then-priced : goal.returns-then-priced
returns-then-priced c =
    let turned = at-its-price c.take_priced.result c.take_priced.ensures.turned in
    rw (c.if-priced.true, c.ok.ensures.value) (record { turn_of = turned; times_len = c.take_priced.ensures.times_len })

pub returns : goal.returns
returns c = rw (c.if-priced.false, c.then_some.ensures) (record { turn_of = at-no-price c.take.result c.take.ensures; times_len = c.requires.n_bound.3 })
