-- `source_state::State::next` meets its contract: the step is taken on a copy, which comes back. Assumes nothing.
use mathlib.Core.Path.{ap}
use mathlib.Core.Bool.{Bool}
use Rattle.model.specs.Tasks.{State}
use Rattle.source_state.proofs.Alone.{stepped-whole}
use Rattle.source_state.proofs.State.next.Goals as goal

pub returns : goal.returns
returns c = ap (λ (p : Bool × State). p.1) (stepped-whole c.args.sums.now c.take.ensures)
