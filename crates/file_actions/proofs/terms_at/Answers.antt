-- `file_actions::terms_at` meets its contract. The loop's invariant: the T's read, with those that are left, are all of them.
-- Assumes nothing.
use mathlib.Core.Path.{sym, ◌∙◌}
use Rattle.file_actions.proofs.NumericPart.{terms-end, terms-stop, terms-next}
use Rattle.file_actions.proofs.Walking.{here}
use Rattle.file_actions.proofs.terms_at.Goals as goal

pub loop-at-preserved : goal.loop-at-preserved
loop-at-preserved c =
    rw c.with_term-terms.ensures
    (terms-next c.loop-at.invariant (here c.loop-at-test.true c.size_of-at.ensures.0 c.size_of-at.ensures.1) c.in-Term.variable c.in-Term.bits
    (sym c.in-Term.is ∙ c.read.ensures))

pub returns-in_default : goal.returns-in_default
returns-in_default c =
    terms-stop c.loop-at.invariant (here c.loop-at-test.true c.size_of-at.ensures.0 c.size_of-at.ensures.1) c.read.ensures c.in_default.in_default-own.keys2

pub returns : goal.returns
returns c = terms-end c.loop-at.invariant c.loop-at-test.false
