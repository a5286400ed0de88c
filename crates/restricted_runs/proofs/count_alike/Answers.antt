-- `restricted_runs::count_alike` meets its contract. Assumes nothing.
use mathlib.Core.Path.{refl}
use Rattle.restricted_runs.proofs.Alike.{counted-one, counted-run}
use Rattle.restricted_runs.proofs.count_alike.Goals as goal

pub returns-then-left-le-SHORT : goal.returns-then-left-le-SHORT
returns-then-left-le-SHORT c = counted-one c.requires.2 c.requires.3

pub returns-then-action_of-k : goal.returns-then-action_of-k
returns-then-action_of-k c = counted-one c.requires.2 c.requires.3

pub returns : goal.returns
returns c = counted-run c.requires.2 c.requires.3 _ _ refl c.requires.0 c.matches_run.ensures
