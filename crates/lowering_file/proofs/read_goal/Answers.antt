-- `lowering_file::read_goal` meets its contract: the place behind the actions is that of the goal, which is decoded of an accepted file, its K's too.
-- Assumes nothing.
use mathlib.Core.Path.{ap}
use Prim.Native.Nat.{ℕ, ◌≤◌}
use native.Mathlib.Omega.{arith}
use Rattle.integers.specs.Numbers.{Bytes}
use Rattle.model.specs.Sums.{on_kept}
use Rattle.source_step.specs.Sizes.{ACTIONS}
use Rattle.file_actions.specs.Views.{sums_is as conditions_is}
use Rattle.file_actions.proofs.Accepted.{bytes-of}
use Rattle.lowering_file.proofs.Declared.{actions-few, goal-sums-fit, goal-kept, goal-plain}
use Rattle.source_sums.proofs.Gathering.{none-in-goal}
use borrow.Author.Rules.{rules}
use Rattle.lowering_file.proofs.read_goal.Goals as goal
use Rattle.lowering_file.proofs.read_goal.Lts as lts
use Rattle.lowering_file.proofs.read_goal.Reads as reads
use Rattle.lowering_file.proofs.read_goal.Tie as tie

module _ (c : lts.After-shared_slice_known tie.the-claims reads.Pre reads.Post tie.handed_clauses) where
  bytes : Bytes c.args.file.now
  bytes = bytes-of c.args.file.now (λ i. omega (arith, c.shared_slice_known-1.given i))

  few : c.args.count ≤ ACTIONS
  few = actions-few c.args.file.now c.args.count bytes c.requires.accepted_with.0

pub offset_bounds-places-count : goal.offset_bounds-places-count
offset_bounds-places-count c = let h = few c.before in search rules

pub bounds-places-count : goal.bounds-places-count
bounds-places-count c = let h = few c.before.before in search rules

pub returns-then-sums-eq0 : goal.returns-then-sums-eq0
returns-then-sums-eq0 c =
    let k = c.before.before.before.before.before.before.before.before in
    let place = c.requires.accepted_with.1 c.args.count (omega arith) in
    goal-plain c.args.file.now c.args.count (bytes k) c.requires.accepted_with.0 _ _ c.decode_source.result
    (rw (c.goal_from.ensures, place) at c.decode_source.ensures)
    (none-in-goal c.args.file.now c.args.count (bytes k) c.requires.accepted_with.0 c.args.sums c.requires.sums_value.0 c.if-sums-eq0.true)

pub push_sums-requires : goal.push_sums-requires
push_sums-requires c =
    let place = c.requires.accepted_with.1 c.args.count (omega arith) in
    let own = rw place at c.goal_sums-own.ensures in (
      goal-sums-fit c.args.file.now c.args.count (bytes c.before.before.before.before.before.before.before.before.before.before.before) c.requires.accepted_with.0 _ _ c.decode_source.result
          (rw (c.goal_from.ensures, place) at c.decode_source.ensures) c.goal_sums-own.result own,
      c.decode_source.ensures.parts.numbers_long,
      own.few,
      c.requires.sums_value.1.low,
    )

pub returns : goal.returns
returns c =
    let place = c.requires.accepted_with.1 c.args.count (omega arith) in
    let some = c.if-sums-eq0.false in
    goal-kept c.args.file.now c.args.count (bytes c.before.before.before.before.before.before.before.before.before.before.before.before) c.requires.accepted_with.0 _ _ c.decode_source.result
    (rw (c.goal_from.ensures, place) at c.decode_source.ensures) c.goal_sums-own.result (rw place at c.goal_sums-own.ensures)
    c.args.variable (ap (λ (v : ℕ). on_kept v (conditions_is c.goal_sums-own.result)) (c.requires.sums_value.1.is (omega arith))) c.push_sums.ensures
