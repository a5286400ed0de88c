-- `source_step::value_of` meets its contract. Assumes nothing.
use mir.Facts.{to_z-of_z}
use mir.Syntax.{w64}
use mir.Val.{SFits}
use lib.IntN.{pos}
use Rattle.model.specs.Steps.{integer_at}
use Rattle.source_step.proofs.Sound.{read-in, read_out}
use borrow.Author.Rules.{rules}
use Rattle.source_step.proofs.value_of.Goals as goal

pub returns-then-i-n : goal.returns-then-i-n
returns-then-i-n c =
    let w = c.from-i in
    let v : SFits w64 (integer_at c.args.values.now w.result) = search rules in
    rw (to_z-of_z v) (read-in c.args.n c.args.values.now w.result c.args.variable w.ensures (pos 0) c.if-i-n.true)

pub returns : goal.returns
returns c = let w = c.from-i in read_out c.args.n c.args.values.now w.result c.args.variable w.ensures (pos 0) c.if-i-n.false
