-- `lowering_stages::term_stage` meets its contract: Drain first. Assumes nothing.
use mir.Facts.{to_z-of_z}
use Rattle.model.specs.Stages.{drain}
use Rattle.lowering_stages.proofs.Rows.{second, given}
use Rattle.lowering_stages.proofs.term_stage.Goals as goal

pub returns-then-j-eq0 : goal.returns-then-j-eq0
returns-then-j-eq0 c = rw c.if-j-eq0.true (given (rw (to_z-of_z c.ranges.w) at c.drain_of.ensures))

pub returns : goal.returns
returns c = second (drain c.args.t c.args.w) c.refill_of.ensures c.args.j
    c.if-j-eq0.false
