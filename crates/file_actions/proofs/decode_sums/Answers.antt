-- `file_actions::decode_sums` meets its contract. At each command, the K of those passed are taken, and those that are left give the rest.
-- Assumes nothing.
use mathlib.Core.Path.{sym, ◌∙◌}
use Rattle.file_actions.proofs.SumPart.{sums-begin, sums-end, sums-edge, sums-pass, sums-short, sums_kept}
use Rattle.file_actions.proofs.Walking.{here}
use Rattle.file_actions.proofs.decode_sums.Goals as goal

pub loop-at-init : goal.loop-at-init
loop-at-init c = rw (c.body_start-at.ensures.0, c.no_sums-sums.ensures) (sums-begin _)

pub loop-at-preserved-in_default-read_sum : goal.loop-at-preserved-in_default-read_sum
loop-at-preserved-in_default-read_sum c =
    sums-short (here c.loop-at-test.true c.size_of-at.ensures.0 c.size_of-at.ensures.1) c.loop-at.invariant
    c.in-75.is c.read_sum.ensures c.in_default-read_sum.in_default-read_sum-own.keys2

pub loop-at-preserved-in-75 : goal.loop-at-preserved-in-75
loop-at-preserved-in-75 c =
    rw c.with_sum-sums.ensures
    (sums_kept (here c.loop-at-test.true c.size_of-at.ensures.0 c.size_of-at.ensures.1) c.loop-at.invariant
    c.in-75.is c.in-Sum.relation c.in-Sum.bits (sym c.in-Sum.is ∙ c.read_sum.ensures) c.terms_at.ensures)

pub loop-at-preserved : goal.loop-at-preserved
loop-at-preserved c =
    sums-pass (here c.loop-at-test.true c.size_of-at.ensures.0 c.size_of-at.ensures.1) c.loop-at.invariant
    c.in_default.in_default-own.rest.0.1 c.in_default.in_default-own.rest.1

pub returns-in-65 : goal.returns-in-65
returns-in-65 c = sums-edge (here c.loop-at-test.true c.size_of-at.ensures.0 c.size_of-at.ensures.1) c.loop-at.invariant c.in-65.is

pub returns-after-loop-at : goal.returns-after-loop-at
returns-after-loop-at c = sums-end c.loop-at.invariant c.loop-at-test.false
