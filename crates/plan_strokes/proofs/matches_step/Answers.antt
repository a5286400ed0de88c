-- `plan_strokes::matches_step` meets its contract: the opening, then the stages. Assumes nothing.
use mathlib.Core.Path.{◌≡◌}
use Prim.Native.Nat.{ℕ, ◌+◌, ◌≤◌}
use native.Mathlib.Omega.{arith}
use mathlib.Core.List.{List}
use lib.ListN.{length, take, drop, length-drop}
use Rattle.lists.proofs.Numbers.{length-halves}
use Rattle.model.specs.Plans.{plan_numbers}
use Rattle.model.proofs.FollowingWalks.{agreeing-there}
use Rattle.plan_strokes.specs.Strokes.{macro_steps}
use Rattle.plan_strokes.proofs.Matching.{not_opened_lem, opened-there, opened}
use Rattle.plan_strokes.proofs.matches_step.Goals as goal
use Rattle.plan_strokes.proofs.matches_step.Lts as lts
use Rattle.plan_strokes.proofs.matches_step.Reads as reads
use Rattle.plan_strokes.proofs.matches_step.Tie as tie

-- the opening's law, over what was found
module _ (c : lts.After-matches_run tie.the-claims reads.Pre reads.Post) where
  abbrev s : lts.Start tie.the-claims reads.Pre reads.Post
  s = c.before.before

  abbrev xs : List ℕ
  xs = plan_numbers s.args.plan.now

  there : (c.matches_run-opened.result ≡ 0 → ⊥) → s.args.at + 1 ≤ length xs
  there h = opened-there s.args.opening (take s.args.count s.args.times.now) xs s.args.at c.matches_run-opened.result c.matches_run-opened.ensures h

pub returns-then-opened-eq0 : goal.returns-then-opened-eq0
returns-then-opened-eq0 c =
    let m = c.before.before in
    not_opened_lem (s m).args.opening (take (s m).args.count (s m).args.times.now) (xs m)
    (s m).args.at m.matches_run-opened.result m.matches_run-opened.ensures c.if-opened-eq0.true

pub overflow_add-at : goal.overflow_add-at
overflow_add-at c = omega (arith, there c.before.before c.if-opened-eq0.false, length-halves (s c.before.before).args.plan.now)

pub matches_stages-requires : goal.matches_stages-requires
matches_stages-requires c = let m = c.before.before in (omega (arith, (s m).requires.0), (s m).requires.1, (s m).requires.2, there m c.if-opened-eq0.false)

pub overflow_add-result : goal.overflow_add-result
overflow_add-result c =
    let m = c.before.before.before in
    let rest = macro_steps ((s m).args.opening + 1) (take (s m).args.count (s m).args.times.now) in
    let few = agreeing-there rest (drop ((s m).args.at + 1) (xs m)) in
    omega (arith, c.matches_stages.ensures, there m c.if-opened-eq0.false, length-halves (s m).args.plan.now, few, length-drop ((s m).args.at + 1) (xs m))

pub returns : goal.returns
returns c =
    let m = c.before.before.before in
    opened (s m).args.opening (take (s m).args.count (s m).args.times.now) (xs m)
    (s m).args.at m.matches_run-opened.result m.matches_run-opened.ensures c.if-opened-eq0.false c.matches_stages.result c.matches_stages.ensures
