-- `restricted_state::step_accepted` meets its contract: the rows are those of the action that has the bytes, the counts and sizes are the task's.
-- Assumes nothing.
use mathlib.Core.Path.{◌∙◌}
use mathlib.Core.Bool.{true, false}
use borrow.Author.Rules.{rules}
use Rattle.file_actions.proofs.Accepted.{bytes-of}
use Rattle.restricted_state.proofs.Accepting.{row-for, step-taken}
use Rattle.restricted_state.proofs.step_accepted.Goals as goal

pub step-requires : goal.step-requires
step-requires c =
    let bytes = bytes-of c.args.file.now (λ i. search rules) in
    row-for c.args.file.now bytes c.requires.number c.requires.are c.read_restricted-declared.ensures c.decode_restricted.ensures

pub returns-in-Some : goal.returns-in-Some
returns-in-Some c =
    let bytes = bytes-of c.args.file.now (λ i. search rules) in
    record { meets = λ k of. step-taken c.args.file.now bytes k of c.read_restricted-declared.ensures c.decode_restricted.ensures _ _ true c.in-Some.ensures }

pub returns-in-None : goal.returns-in-None
returns-in-None c =
    let bytes = bytes-of c.args.file.now (λ i. search rules) in
    record {
      meets = λ k of.
          rw c.at.ensures at c.answer_refused.ensures
          ∙ step-taken c.args.file.now bytes k of c.read_restricted-declared.ensures c.decode_restricted.ensures _ _ false c.in-None.ensures;
    }
