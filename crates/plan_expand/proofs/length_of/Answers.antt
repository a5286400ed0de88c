-- `plan_expand::length_of` meets its contract, case by case. Assumes nothing.
use mathlib.Core.Path.{refl}
use borrow.Author.Tests.{lt-ltb, le-ltb}
use Rattle.source_walk.specs.Walk.{most}
use Rattle.plan_expand.proofs.length_of.Goals as goal

pub returns-then-price-gt-MOST_STEPS : goal.returns-then-price-gt-MOST_STEPS
returns-then-price-gt-MOST_STEPS c = rw (c.at.ensures, c.in_ok-verdict.was, lt-ltb most _ c.if-price-gt-MOST_STEPS.true) refl

pub returns : goal.returns
returns c = rw (c.in_ok-verdict.was, le-ltb most _ c.if-price-gt-MOST_STEPS.false) refl
