-- `plan_strokes::matches_stage` meets its contract. Assumes nothing.
use Prim.Native.Nat.{ℕ, ◌+◌, ◌≤◌}
use native.Mathlib.Omega.{arith}
use mathlib.Core.List.{List, [], ◌∷◌}
use lib.ListN.{length, drop}
use mir.Facts.{to_z-of_z}
use Rattle.lists.proofs.Numbers.{length-halves}
use Rattle.model.specs.Plans.{plan_numbers}
use Rattle.model.proofs.FollowingWalks.{agreeing-few}
use Rattle.plan_strokes.specs.Made.{RunOf}
use Rattle.plan_strokes.proofs.Matching.{run-there, run-differs, run-whole}
use Rattle.plan_strokes.proofs.matches_stage.Goals as goal
use Rattle.plan_strokes.proofs.matches_stage.Lts as lts
use Rattle.plan_strokes.proofs.matches_stage.Reads as reads
use Rattle.plan_strokes.proofs.matches_stage.Tie as tie

-- how much of the run stands there
module _ (c : lts.After-matches_run tie.the-claims reads.Pre reads.Post) where
  abbrev s : lts.Start tie.the-claims reads.Pre reads.Post
  s = c.before.before.before

  abbrev xs : List ℕ
  xs = plan_numbers s.args.plan.now

  is : RunOf s.args.first s.args.z c.run_of-run.result
  is = simp (to_z-of_z, s.ranges.z) at c.run_of-run.ensures

  there : s.args.at + c.matches_run-strokes.result ≤ length xs
  there = run-there is xs s.args.at c.matches_run-strokes.result c.matches_run-strokes.ensures s.requires.1

pub returns-then-strokes-run : goal.returns-then-strokes-run
returns-then-strokes-run c =
    let m = c.before.before.before in
    run-differs (is m) (xs m) (s m).args.at m.matches_run-strokes.result m.matches_run-strokes.ensures c.if-strokes-run.true

pub overflow_add-at : goal.overflow_add-at
overflow_add-at c = let m = c.before.before.before in omega (arith, there m, length-halves (s m).args.plan.now)

pub matches_run-requires : goal.matches_run-requires
matches_run-requires c = there c.before.before.before

pub overflow_add-result : goal.overflow_add-result
overflow_add-result c =
    let m = c.before.before.before.before in
    let turn = agreeing-few (((s m).args.first + 2) ∷ []) (drop ((s m).args.at + m.matches_run-strokes.result) (xs m)) in
    omega (arith, there m, length-halves (s m).args.plan.now, c.matches_run.ensures, turn)

pub returns : goal.returns
returns c =
    let m = c.before.before.before.before in
    run-whole (is m) (xs m) (s m).args.at
    m.matches_run-strokes.result m.matches_run-strokes.ensures c.matches_run.result c.if-strokes-run.false c.matches_run.ensures
