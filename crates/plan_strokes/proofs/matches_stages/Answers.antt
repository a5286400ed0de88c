-- `plan_strokes::matches_stages` meets its contract, stage by stage. Assumes nothing.
use mathlib.Core.Path.{◌≡◌}
use Prim.Native.Nat.{◌+◌, ◌≤◌}
use native.Mathlib.Omega.{arith}
use borrow.Author.Rules.{rules}
use lib.ListN.{get_or, take, drop, length-take}
use lib.IntN.{ℤ, pos}
use mir.Facts.{to_z-of_z}
use mir.Syntax.{w64}
use mir.Val.{SFits}
use Rattle.lists.proofs.Numbers.{length-halves}
use Rattle.model.specs.Following.{agreeing}
use Rattle.model.specs.Plans.{plan_numbers}
use Rattle.plan_strokes.specs.Made.{RunOf}
use Rattle.plan_strokes.specs.Strokes.{stage_steps}
use Rattle.plan_strokes.proofs.Matching.{matching-start, matching-stop, matching-next, matching-end, matched-there}
use Rattle.plan_strokes.proofs.matches_stages.Goals as goal
use Rattle.plan_strokes.proofs.matches_stages.Goals.{In-loop-z, After-matches_stage-stage}

pub loop-z-init : goal.loop-z-init
loop-z-init c = matching-start c.args.first (take c.args.count c.args.times.now) (plan_numbers c.args.plan.now) c.args.at c.requires.3

-- the numbers of the stage are there
numbered : (c : In-loop-z) → c.loop-z.number + 5 ≤ 65536
numbered c = omega (arith, c.loop-z.invariant.numbered, c.loop-z-test.true, length-take c.args.count c.args.times.now, c.requires.0, c.requires.1)

pub run_of-run-requires : goal.run_of-run-requires
run_of-run-requires c = omega (arith, numbered (goal.at.run_of-run-requires c).In-loop-z)

pub overflow_add-at : goal.overflow_add-at
overflow_add-at c = omega (arith, c.loop-z.invariant.there, length-halves c.args.plan.now)

pub matches_stage-stage-requires : goal.matches_stage-stage-requires
matches_stage-stage-requires c =
    (omega (arith, numbered (goal.at.matches_stage-stage-requires c).In-loop-z), c.loop-z.invariant.there)

-- what was found of the stage
module _ (c : After-matches_stage-stage) where
  abbrev z : ℤ
  z = get_or (take c.args.count c.args.times.now) c.loop-z.z-index (pos 0)

  fits : SFits w64 z
  fits = search rules

  is : RunOf c.loop-z.number z c.run_of-run.result
  is = simp (to_z-of_z, fits) at c.run_of-run.ensures

  found : c.matches_stage-stage.result ≡ agreeing (stage_steps c.loop-z.number z) (drop (c.args.at + c.loop-z.matched) (plan_numbers c.args.plan.now))
  found = simp (to_z-of_z, fits) at c.matches_stage-stage.ensures

pub overflow_add-matched : goal.overflow_add-matched
overflow_add-matched c =
    let there = matched-there c.loop-z.invariant c.loop-z-test.true c.run_of-run.result (is c) c.matches_stage-stage.result (found c) in
    omega (arith, there, length-halves c.args.plan.now)

pub returns-then-stage-run : goal.returns-then-stage-run
returns-then-stage-run c =
    let m = (goal.at.returns-then-stage-run c).After-matches_stage-stage in
    matching-stop c.loop-z.invariant c.loop-z-test.true c.run_of-run.result (is m) c.matches_stage-stage.result (found m) (omega (arith, c.if-stage-run.true))

pub overflow_add-number : goal.overflow_add-number
overflow_add-number c = omega (arith, numbered (goal.at.overflow_add-number c).In-loop-z)

pub loop-z-preserved : goal.loop-z-preserved
loop-z-preserved c =
    let m = (goal.at.loop-z-preserved c).After-matches_stage-stage in
    matching-next c.loop-z.invariant c.loop-z-test.true c.run_of-run.result (is m) c.matches_stage-stage.result (found m) (omega (arith, c.if-stage-run.false))

pub returns : goal.returns
returns c = matching-end c.loop-z.invariant c.loop-z-test.false
