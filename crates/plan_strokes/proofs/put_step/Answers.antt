-- `plan_strokes::put_step` meets its contract: the opening, then the stages. Assumes nothing.
use Prim.Native.Nat.{◌+◌}
use native.Mathlib.Omega.{arith}
use mathlib.Core.List.{[], ◌∷◌}
use lib.ListN.{take}
use Rattle.lists.proofs.Writing.{Left, step, done, room}
use Rattle.model.specs.Plans.{plan_bytes_of}
use Rattle.plan_strokes.specs.Strokes.{macro_steps, step_numbers}
use Rattle.plan_strokes.proofs.Writing.{opens}
use Rattle.plan_strokes.proofs.put_step.Goals as goal
use Rattle.plan_strokes.proofs.put_step.Lts as lts
use Rattle.plan_strokes.proofs.put_step.Reads as reads
use Rattle.plan_strokes.proofs.put_step.Tie as tie

l₁ : (c : lts.After-put_number tie.the-claims reads.Pre reads.Post tie.handed_clauses)
    → Left c.args.out.now c.args.at (plan_bytes_of (step_numbers c.args.opening (take c.args.count c.args.times.now)))
    c.put_number-place.new.out c.put_number-place.result
    (plan_bytes_of (macro_steps (c.args.opening + 1) (take c.args.count c.args.times.now)) ∷ [])
l₁ c = step (opens c.args.opening (take c.args.count c.args.times.now) _ _) c.put_number-place.ensures

pub put_number-place-requires : goal.put_number-place-requires
put_number-place-requires c = room c.requires.room (opens c.args.opening (take c.args.count c.args.times.now) _ _)

pub put_stages-requires : goal.put_stages-requires
put_stages-requires c = record {
  first_bound = (omega (arith, c.requires.opening_bound.0), c.requires.opening_bound.1, c.requires.opening_bound.2);
  room = room c.requires.room (l₁ c.before.before.before);
}

pub returns : goal.returns
returns c = done (step (l₁ c.before.before.before.before.before.before.before) c.put_stages.ensures)
