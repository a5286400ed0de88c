-- `file_actions::gather_parts` meets its contract: at each command the parts of those passed are taken.
-- Assumes nothing.
use Rattle.file_actions.proofs.Gathering.{gathering-begin, gathering-room, gathering-end}
use Rattle.file_actions.proofs.Gathering.{turn-condition, turn-mode-condition, turn-mode-effect, turn-addition, turn-add, turn-edge, turn-other}
use Rattle.file_actions.proofs.Walking.{here}
use borrow.Author.Rules.{rules}
use Rattle.file_actions.proofs.gather_parts.Goals as goal

pub loop-at-init : goal.loop-at-init
loop-at-init c =
    rw c.body_start-at.ensures.0 (gathering-begin c.args.bytes.now c.args.restricted (c.blank.ensures c.args.numbers.now (search rules)))

pub take_condition-requires : goal.take_condition-requires
take_condition-requires c = (search rules, c.in-67.is, gathering-room c.loop-at.invariant)

pub loop-at-preserved-in-67 : goal.loop-at-preserved-in-67
loop-at-preserved-in-67 c =
    turn-condition (here c.loop-at-test.true c.size_of-at.ensures.0 c.size_of-at.ensures.1) c.loop-at.invariant
    (c.take_condition.ensures c.args.restricted) c.in-67.is

pub take_mode_condition-requires : goal.take_mode_condition-requires
take_mode_condition-requires c = (search rules, c.in-80.is, gathering-room c.loop-at.invariant)

pub loop-at-preserved-in-80 : goal.loop-at-preserved-in-80
loop-at-preserved-in-80 c =
    turn-mode-condition (here c.loop-at-test.true c.size_of-at.ensures.0 c.size_of-at.ensures.1) c.loop-at.invariant
    (c.take_mode_condition.ensures c.args.restricted c.loop-at.numbers) c.in-80.is

pub take_mode_effect-requires : goal.take_mode_effect-requires
take_mode_effect-requires c = (search rules, c.in-69.is, gathering-room c.loop-at.invariant)

pub loop-at-preserved-in-69 : goal.loop-at-preserved-in-69
loop-at-preserved-in-69 c =
    turn-mode-effect (here c.loop-at-test.true c.size_of-at.ensures.0 c.size_of-at.ensures.1) c.loop-at.invariant
    (c.take_mode_effect.ensures c.args.restricted c.loop-at.numbers) c.in-69.is

pub take_addition-requires : goal.take_addition-requires
take_addition-requires c = (search rules, c.in-43.is, gathering-room c.loop-at.invariant)

pub loop-at-preserved-then-restricted : goal.loop-at-preserved-then-restricted
loop-at-preserved-then-restricted c =
    turn-addition (here c.loop-at-test.true c.size_of-at.ensures.0 c.size_of-at.ensures.1) c.loop-at.invariant
    c.if-restricted.true c.take_addition.ensures c.in-43.is

pub loop-at-preserved-else-restricted : goal.loop-at-preserved-else-restricted
loop-at-preserved-else-restricted c =
    turn-add (here c.loop-at-test.true c.size_of-at.ensures.0 c.size_of-at.ensures.1) c.loop-at.invariant c.if-restricted.false c.in-43.is

pub loop-at-preserved : goal.loop-at-preserved
loop-at-preserved c =
    turn-other (here c.loop-at-test.true c.size_of-at.ensures.0 c.size_of-at.ensures.1) c.loop-at.invariant
    c.in_default.in_default-own.rest.0.0.0.0.1 c.in_default.in_default-own.rest.0.0.0.1
    c.in_default.in_default-own.rest.0.0.1 c.in_default.in_default-own.rest.0.1 c.in_default.in_default-own.rest.1

pub returns-in-65 : goal.returns-in-65
returns-in-65 c = turn-edge (here c.loop-at-test.true c.size_of-at.ensures.0 c.size_of-at.ensures.1) c.loop-at.invariant c.in-65.is

pub returns-after-loop-at : goal.returns-after-loop-at
returns-after-loop-at c = gathering-end c.loop-at.invariant c.loop-at-test.false
