-- `lowering_sums::kept_amount` meets its contract. The loop's invariant: what the first + add, with what is left, is the whole. Assumes nothing.
use native.Mathlib.Omega.{arith}
use mir.Facts.{to_z-of_z}
use mir.Syntax.{w64}
use mir.Val.{SFits, to_z}
use borrow.Author.Rules.{rules}
use Rattle.model.specs.Steps.{integer_at}
use Rattle.lowering_sums.proofs.Weighing.{sum_fits, adding-start, adding-next, adding-small, adding-end}
use Rattle.lowering_sums.proofs.kept_amount.Goals as goal

pub loop-e-init : goal.loop-e-init
loop-e-init c = adding-start _ _ _ _ _

pub kept_part-total-requires : goal.kept_part-total-requires
kept_part-total-requires c =
    let d : SFits w64 (integer_at c.args.added.amounts c.loop-e.e) = search rules in
    rw (to_z-of_z d) (c.requires.0, c.requires.1, c.requires.2.amounts c.loop-e.e c.loop-e-test.true)

pub loop-e-preserved : goal.loop-e-preserved
loop-e-preserved c =
    let k = c.kept_part-total in
    let d : SFits w64 (integer_at c.args.added.amounts c.loop-e.e) = search rules in
    let p : SFits w64 k.result = search rules in
    let e = rw (to_z-of_z d) at k.ensures in
    let fits = sum_fits (to_z w64 c.loop-e.total-bits) k.result (adding-small c.loop-e.invariant c.requires.2.few) e.1 in
    rw (to_z-of_z p, to_z-of_z fits) (adding-next c.loop-e.invariant c.loop-e-test.true k.result e.0 e.1)

pub returns : goal.returns
returns c =
    let h = c.loop-e.invariant in
    (adding-end h c.loop-e-test.false, adding-small h c.requires.2.few)
