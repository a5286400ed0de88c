-- `restricted_judge::walk_many` meets its contract: the table has room for the places of the actions of every file, and at first no slot holds an
-- action. Assumes nothing.
use native.Mathlib.Omega.{arith}
use Rattle.restricted_runs.proofs.Slots.{held_none}
use Rattle.restricted_judge.proofs.Accepting.{few, placed}
use Rattle.restricted_judge.proofs.walk_many.Goals as goal

pub judge_runs-requires : goal.judge_runs-requires
judge_runs-requires c =
    let s = c.requires in
    record {
      accepted_plan = (s.0, placed s.0 16385 (omega (arith, few s.0)) _ c.action_places.ensures, s.1);
      in_bounds = (omega arith, held_none _ _ 512 (few s.0));
    }
