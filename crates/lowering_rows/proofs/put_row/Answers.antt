-- `lowering_rows::put_row` meets its contract: its parts are written one after another. Assumes nothing.
use Rattle.file_parts.specs.Row.{row_is}
use Rattle.model.specs.FourRelations.{in_four}
use Rattle.lowering_rows.proofs.Writing.{row-begun}
use Rattle.lists.proofs.Writing.{step, done, room}
use Rattle.lowering_rows.proofs.put_row.Goals as goal

pub put_number-modes-requires : goal.put_number-modes-requires
put_number-modes-requires c = room c.requires.room (row-begun _ _ c.args.byte (in_four (row_is c.args.marks.now c.args.numbers.now)))

pub put_mode_parts-conditions-requires : goal.put_mode_parts-conditions-requires
put_mode_parts-conditions-requires c = record { fit = c.requires.writable.few; room = room c.requires.room (step (row-begun _ _ c.args.byte (in_four (row_is c.args.marks.now c.args.numbers.now))) c.put_number-modes.ensures) }

pub put_conditions-effects-requires : goal.put_conditions-effects-requires
put_conditions-effects-requires c = record { writable = c.requires.writable; room = room c.requires.room (step (step (row-begun _ _ c.args.byte (in_four (row_is c.args.marks.now c.args.numbers.now))) c.put_number-modes.ensures) c.put_mode_parts-conditions.ensures) }

pub put_mode_parts-additions-requires : goal.put_mode_parts-additions-requires
put_mode_parts-additions-requires c = record { fit = c.requires.writable.few; room = room c.requires.room (step (step (step (row-begun _ _ c.args.byte (in_four (row_is c.args.marks.now c.args.numbers.now))) c.put_number-modes.ensures) c.put_mode_parts-conditions.ensures) c.put_conditions-effects.ensures) }

pub put_additions-requires : goal.put_additions-requires
put_additions-requires c = record { writable = c.requires.writable; room = room c.requires.room (step (step (step (step (row-begun _ _ c.args.byte (in_four (row_is c.args.marks.now c.args.numbers.now))) c.put_number-modes.ensures) c.put_mode_parts-conditions.ensures) c.put_conditions-effects.ensures) c.put_mode_parts-additions.ensures) }

pub returns : goal.returns
returns c = done (step (step (step (step (step (row-begun _ _ c.args.byte (in_four (row_is c.args.marks.now c.args.numbers.now))) c.put_number-modes.ensures) c.put_mode_parts-conditions.ensures) c.put_conditions-effects.ensures) c.put_mode_parts-additions.ensures) c.put_additions.ensures)
