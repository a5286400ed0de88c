-- `source_step::take_any` meets its contract: the ranges, the conditions on sums, the results, then the rest of the step. Assumes nothing.
use mathlib.Core.Path.{refl, sym, ◌∙◌}
use Rattle.source_step.proofs.Taking.{RangesHold, out_of_range, sums-decide, read-in-range, not-held, behind-the-test}
use Rattle.source_step.proofs.take_any.Goals as goal

pub returns-then-not-ranges_hold : goal.returns-then-not-ranges_hold
returns-then-not-ranges_hold c =
    not-held c.args.sums.now
    (out_of_range c.args.n c.args.m c.args.marks.now c.args.numbers.now c.args.sums.now c.args.values.now
    c.args.modes.now (sym c.ranges_hold.ensures ∙ c.if-not-ranges_hold.true))

pub sums_hold-requires : goal.sums_hold-requires
sums_hold-requires c =
    let ranges : RangesHold c.args.n c.args.m c.args.marks.now c.args.numbers.now c.args.values.now c.args.modes.now
    = record { passes = sym c.ranges_hold.ensures ∙ c.if-not-ranges_hold.false } in
    let u = c.requires.3 in
    (c.requires.0, (read-in-range ranges c.requires.0 u).near, u.sums_small, rw (c.from-first.ensures, c.from-count.ensures) u.sums_there)

pub returns-then-not-sums_hold : goal.returns-then-not-sums_hold
returns-then-not-sums_hold c =
    let ranges : RangesHold c.args.n c.args.m c.args.marks.now c.args.numbers.now c.args.values.now c.args.modes.now
    = record { passes = sym c.ranges_hold.ensures ∙ c.if-not-ranges_hold.false } in
    let decided = (rw (c.from-first.ensures, c.from-count.ensures) at c.sums_hold.ensures) ∙ sym (sums-decide ranges c.args.sums.now) in
    not-held c.args.sums.now (sym decided ∙ c.if-not-sums_hold.true)

pub put_results-requires : goal.put_results-requires
put_results-requires c =
    let ranges : RangesHold c.args.n c.args.m c.args.marks.now c.args.numbers.now c.args.values.now c.args.modes.now
    = record { passes = sym c.ranges_hold.ensures ∙ c.if-not-ranges_hold.false } in
    (refl, read-in-range ranges c.requires.0 c.requires.3)

pub returns : goal.returns
returns c =
    let ranges : RangesHold c.args.n c.args.m c.args.marks.now c.args.numbers.now c.args.values.now c.args.modes.now
    = record { passes = sym c.ranges_hold.ensures ∙ c.if-not-ranges_hold.false } in
    let decided = (rw (c.from-first.ensures, c.from-count.ensures) at c.sums_hold.ensures) ∙ sym (sums-decide ranges c.args.sums.now) in
    behind-the-test c.args.sums.now (sym decided ∙ c.if-not-sums_hold.false) c.finish.ensures
