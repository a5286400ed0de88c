-- `listing_program::print_rest` meets its contract: a part that was written is what was left in front of what is left now. Assumes nothing.
use Rattle.std.proofs.Common.{arith}
use Rattle.listing_program.proofs.Printing.{going-next}
use Rattle.listing_program.proofs.print_rest.Goals as goal

pub loop-left-preserved : goal.loop-left-preserved
loop-left-preserved g c =
    let p = c.put_part-part.ensures in
    record {
      wide = omega (arith, c.put_part-part.auto.out, c.loop-left.invariant.wide);
      pending = p.pending;
      going = going-next c.loop-left.invariant.going _ _ _ p.left c.in_ok-write_all.ensures.bytes;
    }
