-- `lowering_rows::put_stages` meets its contract: the loop writes each stage. Assumes nothing.
use mathlib.Core.Path.{◌≡◌, refl, sym, ap, ◌∙◌, subst}
use mathlib.Core.Bool.{false}
use mathlib.Core.Option.{some}
use Prim.Native.Nat.{ℕ, ◌+◌, ◌-◌, ◌<◌}
use native.Mathlib.Omega.{arith}
use lib.Dec.{eqb}
use lib.ListN.{length, get_or, get_elem?}
use Rattle.lists.proofs.Writing.{long, room_as, wrote_as}
use Rattle.model.specs.Stages.{clear}
use Rattle.lowering_stages.specs.Shapes.{next_number}
use Rattle.lowering_stages.proofs.Effects.{turns-on}
use Rattle.lowering_sums.specs.Views.{sums_in}
use Rattle.lowering_rows.specs.Macros.{AllFit, stages_in}
use Rattle.lowering_rows.proofs.Stages.{there, rows_are_lem, stage_is}
use Rattle.lowering_rows.proofs.Staging.{staging-start, staging-fit, staging-room, staging-next, staging-end}
use Rattle.lowering_rows.proofs.put_stages.Goals as goal

pub loop-j-init : goal.loop-j-init
loop-j-init c = (staging-start c.requires.all_fit, refl, refl)

pub stage_at-stage-requires : goal.stage_at-stage-requires
stage_at-stage-requires c =
    let p = c.requires in
    (p.bounded.0.variables_few, p.bounded.1, p.bounded.0, omega (arith, c.loop-j-test.true, p.count_value.0))

pub overflow_sub-count : goal.overflow_sub-count
overflow_sub-count c = omega (arith, c.loop-j-test.true)

pub next_stage-next-requires : goal.next_stage-next-requires
next_stage-next-requires c = omega (
  arith,
  c.loop-j.invariant.0.number_is,
  c.loop-j-test.true,
  c.requires.count_value.1,
  c.requires.count_value.3,
)

pub put_stage-place-requires : goal.put_stage-place-requires
put_stage-place-requires c =
    let loop = c.loop-j in
    let h = c.args.shape in
    let ds = stages_in h c.args.effects in
    let size = c.requires.count_value.0 in
    let j = loop.j in
    let n = loop.number in
    let d = get_or ds j (clear 0) in
    let below : j < length ds = omega (arith, c.loop-j-test.true, size) in
    let is : get_elem? ds j ≡ some d = there ds j (clear 0) below in
    let stands = c.stage_at-stage.ensures d is in
    let next = c.next_stage-next.result in
    let on : next ≡ next_number n (length ds - (j + 1)) = c.next_stage-next.ensures ∙ ap (λ (z : ℕ). next_number n (z - (j + 1))) size in
    let high : 0 < n = omega (arith, loop.invariant.0.number_is, c.requires.count_value.2) in
    let turns = subst (λ (z : ℕ). eqb n z ≡ false) (sym c.next_stage-next.ensures) (turns-on n (c.args.count - (j + 1)) high) in
    let sums = sums_in c.args.kept.sums c.args.kept.weights.now in
    record {
      marks_len = (loop.invariant.1, loop.invariant.2, stands.small, c.requires.bounded.2);
      all_fit = subst AllFit (sym (rows_are_lem c.args.kept.first sums h.variables h.modes n next stands turns)) (staging-fit loop.invariant.0 d is below next on);
      room = room_as (sym (stage_is c.args.kept.first sums h.variables h.modes n next stands turns))
          (staging-room loop.invariant.0 d is below next on c.requires.room);
    }

pub overflow_add-number : goal.overflow_add-number
overflow_add-number c = omega (
  arith,
  c.loop-j.invariant.0.number_is,
  c.loop-j-test.true,
  c.requires.count_value.1,
  c.requires.count_value.3,
)

pub loop-j-preserved : goal.loop-j-preserved
loop-j-preserved c =
    let loop = c.loop-j in
    let h = c.args.shape in
    let ds = stages_in h c.args.effects in
    let size = c.requires.count_value.0 in
    let j = loop.j in
    let n = loop.number in
    let d = get_or ds j (clear 0) in
    let below : j < length ds = omega (arith, c.loop-j-test.true, size) in
    let is : get_elem? ds j ≡ some d = there ds j (clear 0) below in
    let stands = c.stage_at-stage.ensures d is in
    let next = c.next_stage-next.result in
    let on : next ≡ next_number n (length ds - (j + 1)) = c.next_stage-next.ensures
    ∙ ap (λ (z : ℕ). next_number n (z - (j + 1))) size in
    let high : 0 < n = omega (arith, loop.invariant.0.number_is, c.requires.count_value.2) in
    let turns = subst (λ (z : ℕ). eqb n z ≡ false) (sym c.next_stage-next.ensures)
    (turns-on n (c.args.count - (j + 1)) high) in
    let wrote = wrote_as (stage_is c.args.kept.first (sums_in c.args.kept.sums c.args.kept.weights.now) h.variables h.modes n next stands turns)
    c.put_stage-place.ensures.wrote in
    (staging-next loop.invariant.0 d is below next on wrote, c.put_stage-place.ensures.marks_long, c.put_stage-place.ensures.numbers_long)

pub shape_of-out : goal.shape_of-out
shape_of-out c = long c.loop-j.invariant.0.left

pub returns : goal.returns
returns c =
    let inv = c.loop-j.invariant in
    staging-end inv.0 (omega (arith, c.loop-j-test.false, c.requires.count_value.0))
