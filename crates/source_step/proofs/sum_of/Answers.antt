-- `source_step::sum_of` meets its contract. The loop's invariant: the sum is what the products of the first entries make together. Behind the n-th
-- value each product is 0.
-- Assumes nothing.
use Prim.Native.Nat.{◌+◌, ◌*◌}
use mir.Facts.{to_z-of_z}
use mir.Syntax.{w64}
use mir.Val.{SFits}
use borrow.Author.Rules.{rules}
use Rattle.model.specs.Steps.{integer_at}
use Rattle.source_step.specs.Sizes.{VARIABLES}
use Rattle.source_step.proofs.Weighing.{summing_start, product-fits, more-fits, summing-next, summing-end, summing-small}
use Rattle.source_step.proofs.sum_of.Goals as goal

pub loop-v-init : goal.loop-v-init
loop-v-init c = summing_start c.args.values.now c.args.n c.args.sums.now c.args.j

pub overflow_mul-sum : goal.overflow_mul-sum
overflow_mul-sum c =
    let v = c.loop-v.v in
    let z : SFits w64 (integer_at c.args.values.now v) = search rules in
    let w : SFits w64 (integer_at c.args.sums.now (VARIABLES * c.args.j + v)) = search rules in
    simp (to_z-of_z, z, w) (product-fits c.loop-v.invariant c.requires.0 c.requires.1 c.requires.2 c.requires.3 c.loop-v-test.true)

pub overflow_add-sum : goal.overflow_add-sum
overflow_add-sum c =
    let v = c.loop-v.v in
    let z : SFits w64 (integer_at c.args.values.now v) = search rules in
    let w : SFits w64 (integer_at c.args.sums.now (VARIABLES * c.args.j + v)) = search rules in
    let p = product-fits c.loop-v.invariant c.requires.0 c.requires.1 c.requires.2 c.requires.3 c.loop-v-test.true in
    simp (to_z-of_z, z, w, p) (more-fits c.loop-v.invariant c.requires.0 c.requires.1 c.requires.2 c.requires.3 c.loop-v-test.true)

pub loop-v-preserved : goal.loop-v-preserved
loop-v-preserved c =
    let v = c.loop-v.v in
    let z : SFits w64 (integer_at c.args.values.now v) = search rules in
    let w : SFits w64 (integer_at c.args.sums.now (VARIABLES * c.args.j + v)) = search rules in
    let p = product-fits c.loop-v.invariant c.requires.0 c.requires.1 c.requires.2 c.requires.3 c.loop-v-test.true in
    let q = more-fits c.loop-v.invariant c.requires.0 c.requires.1 c.requires.2 c.requires.3 c.loop-v-test.true in
    simp (to_z-of_z, z, w, p, q) (summing-next c.loop-v.invariant c.requires.0 c.requires.1 c.requires.2 c.requires.3 c.loop-v-test.true)

pub returns : goal.returns
returns c =
    let h = c.loop-v.invariant in
    (summing-end h c.requires.0 c.loop-v-test.false, summing-small h c.requires.0)
