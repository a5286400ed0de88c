-- `source_step::holds` meets its contract: ranges that fail answer for all, and where no condition on a sum is counted none is asked.
-- Assumes nothing.
use mathlib.Core.Path.{sym, ◌∙◌}
use Rattle.source_step.proofs.Sums.{no-sums}
use Rattle.source_step.proofs.Taking.{RangesHold, out_of_range, sums-decide, read-in-range}
use Rattle.source_step.proofs.holds.Goals as goal

pub returns-then-not-ranges_hold : goal.returns-then-not-ranges_hold
returns-then-not-ranges_hold c =
    sym (out_of_range c.args.n c.args.m c.args.marks.now c.args.numbers.now c.args.sums.now c.args.values.now
    c.args.modes.now (sym c.ranges_hold.ensures ∙ c.if-not-ranges_hold.true))

pub returns-then-marks-eq0 : goal.returns-then-marks-eq0
returns-then-marks-eq0 c =
    let ranges : RangesHold c.args.n c.args.m c.args.marks.now c.args.numbers.now c.args.values.now c.args.modes.now
    = record { passes = sym c.ranges_hold.ensures ∙ c.if-not-ranges_hold.false } in
    sym (sums-decide ranges c.args.sums.now ∙ no-sums c.args.n c.args.marks.now c.args.sums.now c.args.values.now c.if-marks-eq0.true)

pub sums_hold-requires : goal.sums_hold-requires
sums_hold-requires c =
    let ranges : RangesHold c.args.n c.args.m c.args.marks.now c.args.numbers.now c.args.values.now c.args.modes.now
    = record { passes = sym c.ranges_hold.ensures ∙ c.if-not-ranges_hold.false } in
    let u = c.requires.2 in
    (c.requires.0, (read-in-range ranges c.requires.0 u).near, u.sums_small, rw (c.from-first.ensures, c.from-count.ensures) u.sums_there)

pub returns : goal.returns
returns c =
    let ranges : RangesHold c.args.n c.args.m c.args.marks.now c.args.numbers.now c.args.values.now c.args.modes.now
    = record { passes = sym c.ranges_hold.ensures ∙ c.if-not-ranges_hold.false } in
    (rw (c.from-first.ensures, c.from-count.ensures) at c.sums_hold.ensures) ∙ sym (sums-decide ranges c.args.sums.now)
