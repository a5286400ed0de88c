-- `source_state::step_accepted` meets its contract, whether the step applies or not. Assumes nothing.
use mathlib.Core.Path.{◌≡◌, ◌∙◌}
use mathlib.Core.Bool.{true, false}
use lib.ListN.{length}
use Rattle.source_state.proofs.Alone.{step-taken}
use borrow.Author.Rules.{rules}
use Rattle.source_state.proofs.step_accepted.Goals as goal

pub returns-in-Some : goal.returns-in-Some
returns-in-Some c =
    let v : length c.args.state.values ≡ 8 = search rules in
    let m : length c.args.state.modes ≡ 4 = search rules in
    record { meets = λ k e. step-taken c.read_row-declared.ensures k e _ _ v m true _ _ c.in-Some.ensures }

pub returns-in-None : goal.returns-in-None
returns-in-None c =
    let v : length c.args.state.values ≡ 8 = search rules in
    let m : length c.args.state.modes ≡ 4 = search rules in
    let refused = rw c.at.ensures at c.answer_refused.ensures in
    record { meets = λ k e. refused ∙ step-taken c.read_row-declared.ensures k e _ _ v m false _ _ c.in-None.ensures }
