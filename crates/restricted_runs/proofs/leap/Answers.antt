-- `restricted_runs::leap` meets its contract: where the tests before and behind the steps pass, all steps between apply; else the state is put back.
-- Assumes nothing.
use mathlib.Core.Path.{sym, ◌∙◌}
use borrow.Author.Tests.{not-false}
use Rattle.restricted_step.specs.Steps.{state_of}
use Rattle.file_parts.specs.Row.{row_is}
use Rattle.restricted_runs.proofs.Leaps.{conditions-plain, leapt-none, leapt}
use mathlib.Core.Path.{ap}
use mathlib.Core.Bool.{not}
use Rattle.restricted_runs.proofs.leap.Goals as goal

pub returns-then-not-holds : goal.returns-then-not-holds
returns-then-not-holds c = leapt-none c.requires.2.within

pub returns-then-holds : goal.returns-then-holds
returns-then-holds c =
    let added = c.add_times in
    let set = c.set_all in
    leapt (row_is c.args.marks.now c.args.numbers.now) c.args.times (state_of c.args.values.now c.args.modes.now) (state_of added.new.values set.new.modes)
    (rw c.if-add_times.true at added.ensures) set.ensures
    (conditions-plain c.args.marks.now c.args.numbers.now) c.requires.0 c.requires.2.within
    (sym c.holds.ensures ∙ not-false _ (ap not c.if-not-holds.false))
    (sym c.holds-then-add_times.ensures ∙ c.if-holds.true)

pub returns-else-holds : goal.returns-else-holds
returns-else-holds c = leapt-none c.requires.2.within

pub returns-else-add_times : goal.returns-else-add_times
returns-else-add_times c = leapt-none c.requires.2.within
