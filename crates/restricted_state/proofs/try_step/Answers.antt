-- `restricted_state::try_step` meets its contract: a test that fails decides, and else the step by rows does. Assumes nothing.
use mathlib.Core.Path.{◌≡◌, sym, ◌∙◌}
use mathlib.Core.Bool.{true}
use mathlib.Core.Option.{some}
use lib.ListN.{take}
use borrow.Author.Tests.{not-true, not-false}
use Rattle.model.specs.Steps.{values_within, modes_below_sizes, figure}
use Rattle.file_parts.specs.Row.{row_is}
use Rattle.restricted_step.specs.Steps.{state_of, step_by}
use Rattle.restricted_state.proofs.Trying.{values-stop, modes-stop, front, can-take, step-stops, front_long, step-goes}
use mathlib.Core.Path.{ap}
use mathlib.Core.Bool.{not}
use Rattle.restricted_state.proofs.try_step.Goals as goal
use Rattle.restricted_state.proofs.try_step.Lts as lts
use Rattle.restricted_state.proofs.try_step.Reads as reads
use Rattle.restricted_state.proofs.try_step.Tie as tie

within : (e : lts.Else2 tie.the-claims reads.Pre reads.Post) → let s = e.args in values_within figure (take s.n s.values.now) ≡ true
within e = sym e.values_within.ensures ∙ not-false _ (ap not e.if-not-values_within.false)

below : (e : lts.Else2 tie.the-claims reads.Pre reads.Post) → let s = e.args in modes_below_sizes (take s.m s.sizes.now) (take s.m s.modes.now) ≡ true
below e = sym e.modes_below.ensures ∙ not-false _ (ap not e.if-not-modes_below.false)

pub returns-then-not-values_within : goal.returns-then-not-values_within
returns-then-not-values_within c =
    values-stop c.requires.2 c.args.values.now c.args.modes.now c.requires.0 c.requires.1
    (sym c.values_within.ensures ∙ not-true _ (ap not c.if-not-values_within.true))

pub returns-then-not-modes_below : goal.returns-then-not-modes_below
returns-then-not-modes_below c =
    modes-stop c.requires.2 c.args.values.now c.args.modes.now c.requires.0 c.requires.1
    (sym c.modes_below.ensures ∙ not-true _ (ap not c.if-not-modes_below.true))

pub take-requires : goal.take-requires
take-requires c =
    rw c.copy_front.ensures (can-take c.requires.2 c.args.values.now c.args.modes.now c.requires.0 c.requires.1 (within c.before.before.before.before))

pub returns-then-not-take : goal.returns-then-not-take
returns-then-not-take c =
    let e = c.before.before.before.before.before.before in
    step-stops c.requires.2 c.args.values.now c.args.modes.now c.requires.0 c.requires.1 (within e) (below e)
    (rw c.copy_front.ensures at (rw (not-true c.take.result (ap not c.if-not-take.true)) at c.take.ensures))

-- the step by rows was taken
went : (c : lts.Else3 tie.the-claims reads.Pre reads.Post)
    → some (state_of c.take.new.values c.take.new.modes) ≡ step_by (row_is c.args.marks.now c.args.numbers.now)
    (state_of (front c.args.n c.args.values.now) c.args.modes.now)
went c =
    rw c.copy_front.ensures at (rw (not-false c.take.result (ap not c.if-not-take.false)) at c.take.ensures)

pub copy_front-requires-2 : goal.copy_front-requires-2
copy_front-requires-2 c =
    let e = c.before.before.before.before.before.before.before.before in (
      c.requires.2.variables_few,
      c.requires.0,
      front_long c.requires.2 c.args.values.now c.args.modes.now c.requires.0 c.requires.1 (within e)
          (below e) (went c.before.before),
    )

pub returns : goal.returns
returns c =
    let e = c.before.before.before.before.before.before.before.before.before in
    rw c.copy_front-2.ensures
    (step-goes c.requires.2 c.args.values.now c.args.modes.now c.requires.0 c.requires.1 (within e) (below e) (went c.before.before.before))
