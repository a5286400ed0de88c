-- `file_actions::decode_source` meets its contract. The parts are gathered first; then, at each command, the effects of those passed are taken,
-- and those that are left give the rest.
-- Assumes nothing.
use Rattle.file_actions.proofs.NumericPart.{effects-begin, effects-end, effects-pass, effects-edge, effects-none, effects-kept, effects-dropped}
use Rattle.file_actions.proofs.Walking.{here}
use Rattle.file_actions.proofs.decode_source.Goals as goal

pub loop-at-init : goal.loop-at-init
loop-at-init c = rw (c.body_start-at.ensures.0, c.no_effects-effects.ensures) (effects-begin _)

pub loop-at-preserved-in-67 : goal.loop-at-preserved-in-67
loop-at-preserved-in-67 c = effects-pass (here c.loop-at-test.true c.size_of-at.ensures.0 c.size_of-at.ensures.1) c.loop-at.invariant c.in-67.is

pub loop-at-preserved-then-count-lt-EFFECTS : goal.loop-at-preserved-then-count-lt-EFFECTS
loop-at-preserved-then-count-lt-EFFECTS c =
    effects-kept (here c.loop-at-test.true c.size_of-at.ensures.0 c.size_of-at.ensures.1) c.loop-at.invariant c.in_default.in_default-own.rest.1
    (rw c.read.ensures at c.in-Some.ensures) c.if-count-lt-EFFECTS.true

pub loop-at-preserved-else-count-lt-EFFECTS : goal.loop-at-preserved-else-count-lt-EFFECTS
loop-at-preserved-else-count-lt-EFFECTS c =
    effects-dropped (here c.loop-at-test.true c.size_of-at.ensures.0 c.size_of-at.ensures.1) c.loop-at.invariant c.in_default.in_default-own.rest.1
    (rw c.read.ensures at c.in-Some.ensures) c.if-count-lt-EFFECTS.false

pub loop-at-preserved : goal.loop-at-preserved
loop-at-preserved c =
    effects-none (here c.loop-at-test.true c.size_of-at.ensures.0 c.size_of-at.ensures.1) c.loop-at.invariant c.in_default.in_default-own.rest.1
    (rw c.read.ensures at c.in_default-effect_given.ensures)

pub returns-in-65 : goal.returns-in-65
returns-in-65 c = effects-edge c.gather_parts.ensures (here c.loop-at-test.true c.size_of-at.ensures.0 c.size_of-at.ensures.1) c.loop-at.invariant c.in-65.is

pub returns-after-loop-at : goal.returns-after-loop-at
returns-after-loop-at c = effects-end c.gather_parts.ensures c.loop-at.invariant c.loop-at-test.false
