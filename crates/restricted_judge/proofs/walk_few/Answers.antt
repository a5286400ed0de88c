-- `restricted_judge::walk_few` meets its contract: the table has room for the places of all actions, and at first no slot holds an action. Assumes
-- nothing.
use native.Mathlib.Omega.{arith}
use Rattle.restricted_runs.proofs.Slots.{held_none}
use Rattle.restricted_judge.proofs.Accepting.{few, placed}
use Rattle.restricted_judge.proofs.walk_few.Goals as goal

pub judge_runs-requires : goal.judge_runs-requires
judge_runs-requires c =
    let s = c.requires in
    record { accepted_plan = (s.0, placed s.0 1024 s.1 _ c.action_places.ensures, s.2); in_bounds = (omega arith, held_none _ _ 8 (few s.0)) }
