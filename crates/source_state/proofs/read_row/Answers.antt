-- `source_state::read_row` meets its contract: what the file declares is held by the arrays, and with it the row of its action is made; its own
-- conditions on sums stand in a row of their own, and its marks name them. Assumes nothing.
use mathlib.Core.Path.{refl, sym, ◌∙◌}
use native.Mathlib.Omega.{arith}
use Rattle.model.specs.Limits.{source_limits}
use Rattle.file_actions.proofs.Accepted.{bytes-of, source-action-decoded}
use Rattle.file_actions.proofs.Refusals.{given-of}
use Rattle.file_declarations.proofs.Accepted.{source-held}
use Rattle.source_step.proofs.Judging.{task-of, counted-task, accepted-by, task-by, zero_room}
use Rattle.source_sums.proofs.Asking.{blank-start, asked-by-name}
use Rattle.source_sums.proofs.Gathering.{own-long, small_at}
use Rattle.source_ready.proofs.Naming.{own-named}
use Rattle.source_ready.proofs.Preparing.{action-fits}
use Rattle.source_state.proofs.read_row.Goals as goal

pub put_sums-requires : goal.put_sums-requires
put_sums-requires c =
    let file = c.args.file.now in
    let bytes = bytes-of file (λ i. omega (arith, c.type_inv.file i)) in
    let k = c.requires.bytes_of_some.0.number in
    let of = c.requires.bytes_of_some.0.are in
    let g = given-of source_limits file k of in
    let decoded = rw g.are at c.decode_sums-own.ensures in
    (omega (arith, decoded.few), small_at file g.actions bytes (accepted-by file k of) k g.below decoded, rw c.requires.numbers_value.1 blank-start)

pub name_sums-requires : goal.name_sums-requires
name_sums-requires c =
    (omega (arith, c.decode_sums-own.ensures.few), rw c.requires.bytes_of_some.1 refl)

pub put_row-requires : goal.put_row-requires
put_row-requires c =
    let file = c.args.file.now in
    let bytes = bytes-of file (λ i. omega (arith, c.type_inv.file i)) in
    let k = c.requires.bytes_of_some.0.number in
    let of = c.requires.bytes_of_some.0.are in
    let g = given-of source_limits file k of in
    let held = source-held zero_room c.read_source-declared.ensures in
    let decoded = rw g.are at c.decode_source-effects.ensures in
    let sums = rw g.are at c.decode_sums-own.ensures in
    let accepted = accepted-by file k of in (
      (own-named c.requires.bytes_of_some.1 c.decode_sums-own.ensures 0 c.name_sums.ensures).named,
      c.requires.numbers_value.0,
      action-fits file bytes g.actions _ _ _ _ _ accepted (record { starts = _; modes = _; holds = held }) k g.below _ _ _ _ decoded sums,
    )

pub returns : goal.returns
returns c =
    let file = c.args.file.now in
    let bytes = bytes-of file (λ i. omega (arith, c.type_inv.file i)) in
    let held = source-held zero_room c.read_source-declared.ensures in
    let h = held (task-of file 0) (task-by file c.requires.bytes_of_some.0.number c.requires.bytes_of_some.0.are) in
    let own = c.decode_sums-own in
    let put = c.put_sums.ensures in
    let names = own-named c.requires.bytes_of_some.1 own.ensures 0 c.name_sums.ensures in
    let asked = asked-by-name _ _ own.result 0 names.first_is (names.count_is ∙ sym names.counted) (own-long own.ensures)
    (omega (arith, own.ensures.few)) put.blank.small put.asks in
    record {
      lower = _;
      upper = _;
      start = _;
      sizes = _;
      first = _;
      action = _;
      row = c.put_row.ensures.row _ _ asked;
      few = (h.variables_few, h.modes_few);
      holds = held;
      found = λ t e k of. let g = given-of source_limits file k of in
          let counted = counted-task file g.actions bytes (accepted-by file k of) t e in
          source-action-decoded file bytes t e k (omega (arith, counted, g.below)) _ _ c.decode_source-effects.result own.result
          (rw g.are at c.decode_source-effects.ensures) (rw g.are at own.ensures);
    }
