-- `lowering_sums::push_sums` meets its contract: the loop pushes C after C. Assumes nothing.
use native.Mathlib.Omega.{arith}
use mathlib.Core.Path.{◌≡◌}
use lib.ListN.{length}
use mir.Facts.{to_z-of_z}
use mir.Syntax.{w64}
use mir.Val.{SFits}
use borrow.Author.Rules.{rules}
use Rattle.lists.proofs.Loops.{length-mapped}
use Rattle.lowering_sums.proofs.Own.{own_at, become-start, become-room, become-next, become-end}
use Rattle.lowering_sums.proofs.push_sums.Goals as goal
use Rattle.lowering_sums.proofs.push_sums.Lts as lts
use Rattle.lowering_sums.proofs.push_sums.Reads as reads
use Rattle.lowering_sums.proofs.push_sums.Tie as tie

-- there are as many places as there is room for
long : (s : lts.Start tie.the-claims reads.Pre reads.Post goal.the-invariant-loop-i goal.the-decreases-loop-i) → length s.args.own.places ≡ 4
long s = search (rules, length-mapped)

pub loop-i-init : goal.loop-i-init
loop-i-init c = become-start c.args.variable c.args.own (omega (arith, long c, c.requires.2)) c.requires.0.long c.requires.1

pub push_condition-requires : goal.push_condition-requires
push_condition-requires c =
    let below = c.loop-i-test.true in
    (become-room c.loop-i.invariant (omega (arith, c.requires.2)) c.requires.0, c.loop-i.invariant.says.numbers_long)

pub loop-i-preserved : goal.loop-i-preserved
loop-i-preserved c =
    let f : SFits w64 (own_at c.args.own c.loop-i.i).constant = search rules in
    become-next c.loop-i.invariant c.loop-i-test.true (rw (to_z-of_z f) at c.push_condition.ensures)

pub returns : goal.returns
returns c = become-end c.loop-i.invariant c.loop-i-test.false
