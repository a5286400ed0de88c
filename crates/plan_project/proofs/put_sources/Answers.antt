-- `plan_project::put_sources` meets its contract. The loop's invariant is `Putting`: of the plan that is left, the source numbers are left to write. Assumes nothing.
use mathlib.Core.Path.{◌≡◌}
use Prim.Native.Nat.{◌+◌, ◌≤◌, ◌<◌}
use native.Mathlib.Omega.{arith}
use lib.ListN.{length, get_or}
use Rattle.lists.proofs.Writing.{long}
use Rattle.model.specs.Plans.{plan_numbers}
use Rattle.plan_bytes.proofs.Steps.{halves_long}
use Rattle.plan_project.proofs.Putting.{begins, over, room-here, puts, passes, further, passes-run}
use borrow.Author.Rules.{rules}
use Rattle.plan_project.proofs.put_sources.Goals as goal
use Rattle.plan_project.proofs.put_sources.Lts as lts
use Rattle.plan_project.proofs.put_sources.Reads as reads
use Rattle.plan_project.proofs.put_sources.Tie as tie

abbrev start_of : lts.After-source_of tie.the-claims reads.Pre reads.Post goal.the-invariant-loop-at goal.the-decreases-loop-at → lts.Start tie.the-claims reads.Pre reads.Post goal.the-invariant-loop-at goal.the-decreases-loop-at
start_of w = w.before.before.before.before.before.before

number_is_lem : (w : lts.After-source_of tie.the-claims reads.Pre reads.Post goal.the-invariant-loop-at goal.the-decreases-loop-at) → w.action_of-number.result ≡ get_or (plan_numbers (start_of w).args.plan.now) w.loop-at.at 0
number_is_lem w = w.action_of-number.ensures

inside : (w : lts.After-source_of tie.the-claims reads.Pre reads.Post goal.the-invariant-loop-at goal.the-decreases-loop-at) → w.loop-at.at < length (plan_numbers (start_of w).args.plan.now)
inside w = omega (arith, w.loop-at-test.true, (start_of w).requires.1)

pub loop-at-init : goal.loop-at-init
loop-at-init c = begins (plan_numbers c.args.plan.now) c.args.sources.now c.args.out.now

pub action_of-number-requires : goal.action_of-number-requires
action_of-number-requires c = omega (arith, halves_long c.args.plan.now, c.loop-at-test.true, c.requires.1)

pub put_number-place-requires : goal.put_number-place-requires
put_number-place-requires c = let w = c.before.before.before in
    room-here c.loop-at.invariant (number_is_lem w) (inside w) w.source_of-source.ensures c.if-source-lt-NONE.true (start_of w).requires.0

pub overflow_add-at : goal.overflow_add-at
overflow_add-at c = search (rules, arith)

pub loop-at-smaller-then-source-lt-NONE : goal.loop-at-smaller-then-source-lt-NONE
loop-at-smaller-then-source-lt-NONE c = search (rules, arith)

pub loop-at-preserved-then-source-lt-NONE : goal.loop-at-preserved-then-source-lt-NONE
loop-at-preserved-then-source-lt-NONE c = let w = c.before.before.before.before.before.before in
    puts c.loop-at.invariant (number_is_lem w) (inside w) w.source_of-source.ensures c.if-source-lt-NONE.true c.put_number-place.ensures

past-run : (c : lts.After-matches_run tie.the-claims reads.Pre reads.Post goal.the-invariant-loop-at goal.the-decreases-loop-at) → (1 ≤ c.matches_run-at.result) × (c.loop-at.at + c.matches_run-at.result ≤ length (plan_numbers (start_of c.before.before.before).args.plan.now))
past-run c = let w = c.before.before.before in
    further c.loop-at.invariant (number_is_lem w) (inside w) w.source_of-source.ensures c.if-source-lt-NONE.false (start_of w).args.steps (omega (arith, (start_of w).requires.1)) c.matches_run-at.ensures

pub matches_run-at-requires : goal.matches_run-at-requires
matches_run-at-requires c = omega (arith, inside c.before.before.before)

pub overflow_add-at-then-number-last : goal.overflow_add-at-then-number-last
overflow_add-at-then-number-last c = let s = start_of c.before.before.before.before in omega (arith, (past-run c.before).1, halves_long s.args.plan.now)

pub loop-at-smaller-then-number-last : goal.loop-at-smaller-then-number-last
loop-at-smaller-then-number-last c = let w = c.before.before.before.before in omega (arith, (past-run c.before).0, inside w, (start_of w).requires.1)

pub loop-at-preserved-then-number-last : goal.loop-at-preserved-then-number-last
loop-at-preserved-then-number-last c = let w = c.before.before.before.before in
    passes-run c.loop-at.invariant (number_is_lem w) (inside w) w.source_of-source.ensures c.if-source-lt-NONE.false (start_of w).args.steps (omega (arith, (start_of w).requires.1)) c.matches_run-at.ensures

pub overflow_add-at-else-number-last : goal.overflow_add-at-else-number-last
overflow_add-at-else-number-last c = search (rules, arith)

pub loop-at-smaller : goal.loop-at-smaller
loop-at-smaller c = search (rules, arith)

pub loop-at-preserved : goal.loop-at-preserved
loop-at-preserved c = let w = c.before.before.before in
    passes c.loop-at.invariant (number_is_lem w) (inside w) w.source_of-source.ensures c.if-source-lt-NONE.false

pub shape_of-out : goal.shape_of-out
shape_of-out c = long c.loop-at.invariant.left

pub returns : goal.returns
returns c = over c.loop-at.invariant (omega (arith, c.loop-at-test.false, c.requires.1))
