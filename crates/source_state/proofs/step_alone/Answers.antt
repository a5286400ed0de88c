-- `source_state::step_alone` meets its contract: the action's bytes and with them the step, or the refusal. Assumes nothing.
use mathlib.Core.Path.{sym, ap, ◌∙◌}
use native.Mathlib.Omega.{arith}
use Rattle.model.specs.Limits.{source_limits}
use Rattle.file_actions.proofs.Refusals.{told-bytes, told-refusal}
use Rattle.file_actions.proofs.Accepted.{bytes-of}
use Rattle.source_state.specs.Step.{whole_is}
use Rattle.source_state.specs.Alone.{returned}
use Rattle.source_state.proofs.Alone.{alone-refused}
use Rattle.source_state.proofs.step_alone.Goals as goal

pub step_accepted-requires : goal.step_accepted-requires
step_accepted-requires c = record { number = c.args.k; are = told-bytes source_limits c.args.file.now c.args.k c.in-Ok.action c.in-Ok.ensures }

pub returns-in-Ok : goal.returns-in-Ok
returns-in-Ok c = c.step_accepted.ensures.meets c.args.k (told-bytes source_limits c.args.file.now c.args.k c.in-Ok.action c.in-Ok.ensures)

pub returns-in-Err : goal.returns-in-Err
returns-in-Err c =
    let file = c.args.file.now in
    let x = whole_is c.args.state in
    let bytes = bytes-of file (λ i. omega (arith, c.type_inv.file i)) in
    let refusal = told-refusal source_limits file c.args.k c.in-Err.refusal c.in-Err.ensures in
    rw c.at_step.ensures at c.answer_refused.ensures ∙ sym (ap (returned x) (alone-refused file bytes x c.args.k refusal))
