-- `source_sums::find_sums` meets its contract: without a K's byte there is no sum; else the loop takes the sums of each action, and those of the
-- goal come behind. Assumes nothing.
use native.Mathlib.Omega.{arith}
use mathlib.Core.Path.{sym, ◌∙◌}
use Rattle.file_actions.proofs.Accepted.{bytes-of}
use Rattle.source_step.proofs.Judging.{few-actions}
use Rattle.source_sums.proofs.NoSum.{no-sum-in-file}
use Rattle.source_sums.proofs.Gathering.{gathered-start, small_at, gathered-room, gathered_next, small-in-goal, goal-room}
use Rattle.source_sums.proofs.Gathering.{all_found, all-ask, none_found, none-ask}
use borrow.Author.Rules.{rules}
use Rattle.source_sums.proofs.find_sums.Goals as goals

pub returns-then-not-has_sum : goals.returns-then-not-has_sum
returns-then-not-has_sum c =
    let file = c.args.file.now in
    let bytes = bytes-of file (λ i. search rules) in
    let none = no-sum-in-file file (sym c.has_sum.ensures ∙ c.if-not-has_sum.true) in (
      none_found file c.args.count bytes c.requires.0 none c.requires.2,
      none-ask file c.args.count bytes c.requires.0 none c.requires.2,
    )

pub loop-k-init : goals.loop-k-init
loop-k-init c = gathered-start (bytes-of c.args.file.now (λ i. search rules)) c.requires.2

pub action_sums-own-requires : goals.action_sums-own-requires
action_sums-own-requires c =
    (c.requires.1, c.loop-k-test.true, few-actions c.args.file.now c.args.count c.loop-k.invariant.bytes c.requires.0)

pub put_sums-requires : goals.put_sums-requires
put_sums-requires c =
    let file = c.args.file.now in
    let inv = c.loop-k.invariant in
    let below = c.loop-k-test.true in
    let own = c.action_sums-own.ensures in (
      gathered-room file c.args.count inv.bytes c.requires.0 c.loop-k.k below own inv,
      small_at file c.args.count inv.bytes c.requires.0 c.loop-k.k below own,
      inv.blank,
    )

pub overflow_add-total : goals.overflow_add-total
overflow_add-total c =
    let inv = c.loop-k.invariant in
    let room = gathered-room c.args.file.now c.args.count inv.bytes c.requires.0 c.loop-k.k c.loop-k-test.true
    c.action_sums-own.ensures inv in
    search rules

pub loop-k-preserved : goals.loop-k-preserved
loop-k-preserved c =
    gathered_next c.args.file.now c.args.count c.loop-k.invariant.bytes c.requires.0 c.loop-k.k c.loop-k-test.true
    c.action_sums-own.ensures c.loop-k.invariant c.put_sums.ensures

pub offset_bounds-places-count : goals.offset_bounds-places-count
offset_bounds-places-count c =
    let few = few-actions c.args.file.now c.args.count c.loop-k.invariant.bytes c.requires.0 in
    search rules

pub bounds-places-count : goals.bounds-places-count
bounds-places-count c =
    let few = few-actions c.args.file.now c.args.count c.loop-k.invariant.bytes c.requires.0 in
    search rules

pub put_sums-requires-2 : goals.put_sums-requires-2
put_sums-requires-2 c =
    let file = c.args.file.now in
    let inv = c.loop-k.invariant in
    let own = rw (c.requires.1 c.args.count (omega arith)) at c.goal_sums-own.ensures in (
      goal-room file c.args.count inv.bytes c.requires.0 own inv c.loop-k-test.false,
      small-in-goal file c.args.count inv.bytes c.requires.0 own,
      inv.blank,
    )

pub overflow_add-result : goals.overflow_add-result
overflow_add-result c =
    let inv = c.loop-k.invariant in
    let own = rw (c.requires.1 c.args.count (omega arith)) at c.goal_sums-own.ensures in
    let room = goal-room c.args.file.now c.args.count inv.bytes c.requires.0 own inv c.loop-k-test.false in
    search rules

pub returns : goals.returns
returns c =
    let file = c.args.file.now in
    let own = rw (c.requires.1 c.args.count (omega arith)) at c.goal_sums-own.ensures in
    let inv = c.loop-k.invariant in
    let put = c.put_sums-2.ensures in (
      all_found file c.args.count inv.bytes c.requires.0 own inv c.loop-k-test.false put,
      all-ask file c.args.count inv.bytes c.requires.0 own inv c.loop-k-test.false put,
    )
