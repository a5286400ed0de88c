-- `lowering_file::push_own` meets its contract: in a task without sums the action has none, and its rows say the same. Assumes nothing.
use Rattle.lowering_file.proofs.Sums.{none-pushed}
use Rattle.lowering_file.proofs.push_own.Goals as goal

pub returns-then-sums-eq0 : goal.returns-then-sums-eq0
returns-then-sums-eq0 c =
    none-pushed (c.requires.k_value c.if-sums-eq0.true) c.requires.parts_fit.0.long c.requires.parts_fit.1
