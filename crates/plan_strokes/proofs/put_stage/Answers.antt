-- `plan_strokes::put_stage` meets its contract, part by part. Assumes nothing.
use Prim.Native.Nat.{ℕ, ◌+◌}
use mathlib.Core.List.{List}
use lib.ListN.{drop}
use mir.Facts.{to_z-of_z}
use Rattle.lists.proofs.Writing.{Left, start, step, done, room}
use Rattle.model.specs.Plans.{plan_bytes_of}
use Rattle.plan_strokes.specs.Strokes.{stage_steps}
use Rattle.plan_strokes.proofs.Writing.{stage_parts, stage-parts}
use Rattle.plan_strokes.proofs.put_stage.Goals as goal
use Rattle.plan_strokes.proofs.put_stage.Lts as lts
use Rattle.plan_strokes.proofs.put_stage.Reads as reads
use Rattle.plan_strokes.proofs.put_stage.Tie as tie

abbrev Stage : lts.Start tie.the-claims reads.Pre reads.Post tie.handed_clauses → List ℕ → ℕ → List (List ℕ) → Type 0
Stage s out place parts = Left s.args.out.now s.args.at (plan_bytes_of (stage_steps s.args.first s.args.z)) out place parts

l₀ : (c : lts.After-run_of tie.the-claims reads.Pre reads.Post tie.handed_clauses)
    → Stage c.before.before c.args.out.now c.args.at (stage_parts c.run_of-run.result.count c.run_of-run.result.number (c.args.first + 2))
l₀ c =
    let r = simp (to_z-of_z, c.ranges.z) at c.run_of-run.ensures in
    start _ _ (stage-parts c.args.first c.args.z c.run_of-run.result.count c.run_of-run.result.number r.is)

l₁ : (c : lts.After-fill_run tie.the-claims reads.Pre reads.Post tie.handed_clauses)
    → Stage c.before.before.before.before c.fill_run-place.new.out c.fill_run-place.result
    (drop 1 (stage_parts c.run_of-run.result.count c.run_of-run.result.number (c.args.first + 2)))
l₁ c = step (l₀ c.before.before) c.fill_run-place.ensures

pub fill_run-place-requires : goal.fill_run-place-requires
fill_run-place-requires c = room c.requires.room (l₀ c.before)

pub put_number-requires : goal.put_number-requires
put_number-requires c = room c.requires.room (l₁ c.before.before.before)

pub returns : goal.returns
returns c = done (step (l₁ c.before.before.before.before.before.before.before) c.put_number.ensures)
