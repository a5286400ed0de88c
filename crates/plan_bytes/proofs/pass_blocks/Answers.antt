-- `plan_bytes::pass_blocks` meets its contract. Assumes nothing.
use mathlib.Core.Path.{refl}
use native.Mathlib.Omega.{arith}
use borrow.Author.Rules.{rules}
use Rattle.plan_bytes.proofs.Halves.{half_small}
use Rattle.plan_bytes.proofs.Agreeing.{passed-blocks}
use Rattle.plan_bytes.proofs.pass_blocks.Goals as goal

pub loop-i-preserved : goal.loop-i-preserved
loop-i-preserved g c =
    let small = half_small c.args.plan.now (λ j. omega (arith, c.type_inv.plan j)) in
    passed-blocks _ small c.args.at (search rules) c.loop-i.invariant (omega arith) (c.all_fours.ensures c.if-not-all_fours.false) refl refl
