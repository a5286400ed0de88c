-- `lowering_rows::follow` meets its contract: the loop writes the + of each sum. Assumes nothing.
use mathlib.Core.Path.{◌≡◌, refl, sym}
use mathlib.Core.List.{List, flat_map}
use Prim.Native.Nat.{ℕ, ◌+◌}
use native.Mathlib.Omega.{arith}
use lib.IntN.{ℤ}
use mir.Syntax.{w64}
use mir.Val.{SFits}
use mir.Facts.{to_z-of_z}
use borrow.Author.Rules.{rules}
use Rattle.lists.specs.Each.{tabulate}
use Rattle.lists.proofs.Writing.{room_as, wrote_as}
use Rattle.model.specs.Sums.{kept_additions}
use Rattle.source_step.specs.Row.{weights_in}
use Rattle.lowering_sums.specs.declared.Added.{Added}
use Rattle.lowering_sums.specs.Views.{sums_in, added_is}
use Rattle.lowering_rows.specs.Bytes.{addition_bytes}
use Rattle.lowering_rows.proofs.Keeping.{kept-amount-fits, kept-bytes}
use Rattle.lowering_rows.proofs.Loops.{writing_start, writing-room, writing-next, writing-end, writing-long}
use Rattle.lowering_rows.proofs.follow.Invariants.{kept_at}
use Rattle.lowering_rows.proofs.follow.Goals as goal

whole : (added : Added) (first sums : ℕ) (weights : List ℤ) → flat_map addition_bytes (kept_additions first (sums_in sums weights) (added_is added))
    ≡ flat_map (flat_map addition_bytes) (tabulate sums (kept_at added first weights))
whole added first sums weights = kept-bytes (added_is added) sums (weights_in weights) (λ i. first + i) first (λ i. refl)

pub loop-j-init : goal.loop-j-init
loop-j-init c = writing_start

pub kept_amount-d-requires : goal.kept_amount-d-requires
kept_amount-d-requires c =
    let p = c.requires.keeps in
    (omega (arith, c.loop-j-test.true, p.0.few), p.0.small, p.1)

pub overflow_cast-variable : goal.overflow_cast-variable
overflow_cast-variable c = omega (arith, c.loop-j-test.true, c.requires.keeps.0.few)

pub overflow_add-variable : goal.overflow_add-variable
overflow_add-variable c =
    let p = c.requires.keeps.0 in
    omega (arith, c.loop-j-test.true, p.few, p.numbers)

pub put_addition-place-requires : goal.put_addition-place-requires
put_addition-place-requires c =
    let a = c.args in
    let b : SFits w64 c.kept_amount-d.result = search rules in
    let k = c.loop-j-test.true in
    rw (to_z-of_z b, c.kept_amount-d.ensures.0) (record {
      d_bound = kept-amount-fits (added_is a.added) a.kept.sums (weights_in a.kept.weights.now) a.kept.first c.requires.keeps.2 c.loop-j.j k;
      room = writing-room c.loop-j.invariant k (room_as (whole a.added a.kept.first a.kept.sums a.kept.weights.now) c.requires.room);
    })

pub loop-j-preserved : goal.loop-j-preserved
loop-j-preserved c =
    let amount = c.kept_amount-d in
    let b : SFits w64 amount.result = search rules in
    writing-next c.loop-j.invariant c.loop-j-test.true
    (rw (to_z-of_z b, amount.ensures.0) at c.put_addition-place.ensures)

pub shape_of-out : goal.shape_of-out
shape_of-out c = writing-long c.loop-j.invariant

pub returns : goal.returns
returns c =
    let a = c.args in
    wrote_as (sym (whole a.added a.kept.first a.kept.sums a.kept.weights.now)) (writing-end c.loop-j.invariant (omega (arith, c.loop-j-test.false)))
