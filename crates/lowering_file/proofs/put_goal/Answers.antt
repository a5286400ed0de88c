-- `lowering_file::put_goal` meets its contract: its row with control, then the end. Assumes nothing.
use mathlib.Core.Path.{sym, ap}
use mathlib.Core.List.{List, [], ◌∷◌}
use Prim.Native.Nat.{ℕ}
use native.Mathlib.Omega.{arith}
use lib.ListN.{length-append}
use Rattle.lists.proofs.Writing.{step, done, room, room_as, wrote_as}
use Rattle.commands.specs.Table.{letter_g}
use Rattle.model.specs.Tasks.{RestrictedAction}
use Rattle.file_parts.specs.Row.{row_is}
use Rattle.lowering_stages.proofs.Rows.{sized}
use Rattle.model.specs.FourRelations.{in_four}
use Rattle.lowering_rows.specs.Bytes.{row_bytes}
use Rattle.lowering_rows.proofs.Stages.{writable}
use Rattle.lowering_file.proofs.File.{goal-begun}
use Rattle.lowering_file.proofs.put_goal.Goals as goal

-- an action as its row is written
abbrev bytes : RestrictedAction → List ℕ
bytes x = row_bytes letter_g (in_four x)

pub put_row-end-requires : goal.put_row-end-requires
put_row-end-requires c =
    let numbers = c.args.numbers.now in
    let z = sized numbers c.requires.goal_writable.room in
    let says = c.push_mode_condition.ensures numbers c.requires.goal_writable.numbers_long in record {
      writable = writable says
          (record {
            conditions = z.conditions;
            mode_conditions = omega (arith, z.mode_conditions, length-append (row_is c.args.marks.now numbers).mode_conditions ((c.args.control, 0) ∷ []));
            mode_effects = z.mode_effects;
            additions = z.additions;
          })
          (record { constants = c.requires.goal_writable.fit.constants; amounts = c.requires.goal_writable.fit.amounts });
      room = room_as (sym (ap bytes says.is)) (room c.requires.room (goal-begun _ _ _));
    }

pub put_end-requires : goal.put_end-requires
put_end-requires c =
    let says = c.push_mode_condition.ensures c.args.numbers.now c.requires.goal_writable.numbers_long in
    room c.requires.room (step (goal-begun _ _ _) (wrote_as (ap bytes says.is) c.put_row-end.ensures))

pub returns : goal.returns
returns c =
    let says = c.push_mode_condition.ensures c.args.numbers.now
    c.requires.goal_writable.numbers_long in
    record {
      wrote = done (step (step (goal-begun _ _ _) (wrote_as (ap bytes says.is) c.put_row-end.ensures))
          c.put_end.ensures);
      marks_long = says.marks_long;
      numbers_long = says.numbers_long;
    }
