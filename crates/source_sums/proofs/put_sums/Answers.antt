-- `source_sums::put_sums` meets its contract: the loop puts K after K behind the others. Assumes nothing.
use mathlib.Core.Path.{◌≡◌}
use Prim.Native.Nat.{◌≤◌}
use native.Mathlib.Omega.{arith}
use lib.ListN.{length}
use borrow.Author.Rules.{rules}
use Rattle.lists.proofs.Loops.{length-mapped}
use Rattle.source_sums.proofs.Own.{own_at_lem}
use Rattle.source_sums.proofs.Filling.{fill_start, fill-next, fill_end}
use Rattle.source_sums.proofs.put_sums.Goals as goal

pub loop-i-init : goal.loop-i-init
loop-i-init c = fill_start c.args.own c.requires.2

pub put_sum-requires : goal.put_sum-requires
put_sum-requires c =
    let long : length c.args.own.places ≡ 4 = search (rules, length-mapped) in
    let all : c.args.own.count ≤ length c.args.own.places = omega (arith, long, c.requires.1.few) in (
      omega (arith, c.requires.0, c.loop-i-test.true),
      own_at_lem c.args.own all c.requires.1 c.loop-i.i c.loop-i-test.true,
      c.loop-i.invariant.blank,
    )

pub loop-i-preserved : goal.loop-i-preserved
loop-i-preserved c =
    let long : length c.args.own.places ≡ 4 = search (rules, length-mapped) in
    let all : c.args.own.count ≤ length c.args.own.places = omega (arith, long, c.requires.1.few) in
    fill-next all c.loop-i.invariant c.loop-i-test.true c.requires.0 c.put_sum.ensures

pub returns : goal.returns
returns c =
    let long : length c.args.own.places ≡ 4 = search (rules, length-mapped) in
    let all : c.args.own.count ≤ length c.args.own.places = omega (arith, long, c.requires.1.few) in
    fill_end all c.loop-i.invariant c.loop-i-test.false
