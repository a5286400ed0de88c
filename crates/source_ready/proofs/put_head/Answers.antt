-- `source_ready::put_head` meets its contract. Assumes nothing.
use mir.Facts.{to_z-of_z}
use mir.Syntax.{w64}
use mir.Val.{SFits}
use borrow.Author.Rules.{rules}
use Rattle.source_ready.proofs.put_head.Goals as goal

pub returns : goal.returns
returns c =
    let a : SFits w64 c.args.head.constant = search rules in
    let d : SFits w64 c.value_of.result = search rules in
    let e : SFits w64 c.value_of-2.result = search rules in
    record {
      marks_are = rw (c.from-target.ensures, c.from-operand.ensures);
      numbers_are = simp (to_z-of_z, a, d, e) (rw (c.value_of.ensures, c.value_of-2.ensures, c.from-target.ensures));
    }
