-- `plan_bytes::matches_run` meets its contract. Assumes nothing.
use mathlib.Core.Path.{sym, ap, ◌∙◌}
use Prim.Native.Nat.{ℕ, min, ◌+◌, ◌*◌, ◌≤◌}
use native.Mathlib.Omega.{arith}
use lib.ListN.{length, drop, replicate}
use Rattle.lists.proofs.Numbers.{length-halves}
use Rattle.model.specs.Plans.{plan_numbers}
use Rattle.model.specs.Following.{agreeing}
use Rattle.plan_bytes.proofs.Agreeing.{numbers-from, passed_start, as-far-as-there-is}
use Rattle.plan_bytes.proofs.matches_run.Goals as goal
use Rattle.plan_bytes.proofs.matches_run.Goals.{After-min-most}

pub overflow_sub-plan : goal.overflow_sub-plan
overflow_sub-plan c = omega (arith, c.requires, length-halves c.args.plan.now)

-- the numbers that are compared are there
room : (c : After-min-most) → 2 * (c.args.at + c.min-most.result) ≤ length c.args.plan.now
room c = omega (arith, c.requires, length-halves c.args.plan.now, c.min-most.ensures)

pub pass_blocks-sixteens-requires-clause-most_in_bounds : goal.pass_blocks-sixteens-requires-clause-most_in_bounds
pass_blocks-sixteens-requires-clause-most_in_bounds c = room c

pub pass_blocks-sixteens-requires-clause-passed : goal.pass_blocks-sixteens-requires-clause-passed
pass_blocks-sixteens-requires-clause-passed c = passed_start (omega (arith, numbers-from c.args.plan.now c.args.at, room c))

pub pass_blocks-fours-requires-clause-most_in_bounds : goal.pass_blocks-fours-requires-clause-most_in_bounds
pass_blocks-fours-requires-clause-most_in_bounds c = room (goal.at.pass_blocks-fours-requires-clause-most_in_bounds c).After-min-most

pub pass_ones-requires-clause-most_in_bounds : goal.pass_ones-requires-clause-most_in_bounds
pass_ones-requires-clause-most_in_bounds c = room (goal.at.pass_ones-requires-clause-most_in_bounds c).After-min-most

pub returns : goal.returns
returns c =
    let s = c.args.plan.now in
    let xs = drop c.args.at (plan_numbers s) in
    c.pass_ones.ensures
    ∙ ap (λ (m : ℕ). agreeing (replicate m c.args.number) xs) (c.min-most.ensures ∙ ap (min c.args.count) (sym (numbers-from s c.args.at)))
    ∙ as-far-as-there-is c.args.number c.args.count xs
