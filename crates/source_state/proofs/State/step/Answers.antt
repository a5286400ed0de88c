-- `source_state::State::step` meets its contract. Assumes nothing.
use Rattle.source_state.proofs.Alone.{given-if}
use Rattle.source_state.proofs.State.step.Goals as goal

pub returns : goal.returns
returns c =
    let a = c.args in
    rw c.then_some.ensures
    (given-if a.n a.m a.marks.now a.numbers.now a.sums.now a.self _ _ c.applies-applied.ensures c.next-state.ensures)
