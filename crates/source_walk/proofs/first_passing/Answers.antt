-- `source_walk::first_passing` meets its contract, case by case. Assumes nothing.
use borrow.Author.Tests.{lt-ltb, le-ltb}
use Rattle.source_walk.specs.Walk.{most}
use Rattle.source_walk.proofs.first_passing.Goals as goal

pub returns-then-sum-gt-MOST_STEPS : goal.returns-then-sum-gt-MOST_STEPS
returns-then-sum-gt-MOST_STEPS c = rw (lt-ltb most _ c.if-sum-gt-MOST_STEPS.true)

pub returns-then-after-gt-MOST_STEPS : goal.returns-then-after-gt-MOST_STEPS
returns-then-after-gt-MOST_STEPS c = rw (le-ltb most _ c.if-sum-gt-MOST_STEPS.false, lt-ltb most _ c.if-after-gt-MOST_STEPS.true)

pub returns : goal.returns
returns c = rw (le-ltb most _ c.if-sum-gt-MOST_STEPS.false, le-ltb most _ c.if-after-gt-MOST_STEPS.false)
