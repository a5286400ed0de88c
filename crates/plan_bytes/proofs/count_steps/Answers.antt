-- `count_steps` makes the tests of the definition, in its order; a plan's numbers are half as many as its bytes.
-- Assumes nothing.
use mathlib.Core.Path.{sym, ap}
use borrow.Author.Tests.{eq-eqb, ne_eqb, lt-ltb, le-ltb}
use Rattle.answers.specs.Answer.{given}
use Rattle.answers.specs.Refusals.{refusal_is}
use Rattle.lists.proofs.Numbers.{length-halves}
use Rattle.model.specs.Plans.{read_plan}
use Rattle.plan_bytes.proofs.count_steps.Goals as goal
use Rattle.plan_bytes.proofs.count_steps.Goals.{then-length-eq1-via-then-length-eq1, then-length-eq1-via-else-length-eq1+then-length-gt-LONGEST}

pub returns-then-length-eq1 : goal.returns-then-length-eq1
unfolding read_plan
returns-then-length-eq1 c =
    elim c.then-length-eq1.branch [
      | then-length-eq1-via-then-length-eq1 w ↦ rw (eq-eqb _ _ w.if-length-eq1.true) (ap refusal_is c.at.ensures)
      | then-length-eq1-via-else-length-eq1+then-length-gt-LONGEST w ↦ rw (ne_eqb _ _ w.if-length-eq1.false, lt-ltb _ _ w.if-length-gt-LONGEST.true) (ap refusal_is c.at.ensures)
    ]

pub returns : goal.returns
unfolding read_plan
returns c = rw (ne_eqb _ _ c.if-length-eq1.false, le-ltb _ _ c.if-length-gt-LONGEST.false) (ap given (sym (length-halves c.args.plan.now)))
