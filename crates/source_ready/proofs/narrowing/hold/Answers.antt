-- `source_ready::narrowing::hold` meets its contract. Assumes nothing.
use Prim.Native.Nat.{◌+◌}
use lib.ListN.{set}
use Rattle.source_ready.proofs.Capping.{capped-lesser_mark, raised-greater_mark}
use Rattle.source_ready.proofs.narrowing.hold.Goals as goal

pub returns : goal.returns
returns c =
    let i = c.from-i.result in
    let raised = raised-greater_mark c.args.marks.now i c.args.value c.max.ensures in
    rw (capped-lesser_mark (set c.args.marks.now i c.max.result) (4 + i) c.args.value c.min.ensures, raised, c.from-i.ensures)
