-- `source_state::State::applies` meets its contract: the step is taken on a copy. Assumes nothing.
use Rattle.source_state.proofs.State.applies.Goals as goal

pub returns : goal.returns
returns c = c.take.ensures.is
