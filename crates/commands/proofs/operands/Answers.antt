-- `commands::operands` meets its contract: the byte fixes the row, and the command is whole or cut short. Assumes nothing.
use native.Mathlib.Omega.{arith}
use Rattle.commands.proofs.Known.{short-as, whole-by}
use Rattle.commands.proofs.operands.Goals as goal

pub returns-then-rest-command_size : goal.returns-then-rest-command_size
returns-then-rest-command_size g c =
    short-as c.args.rest.now g.row.ROW c.requires.row c.requires.begins.0 c.requires.begins.1 (omega arith)

pub returns : goal.returns
returns g c =
    whole-by c.args.rest.now g.row.ROW c.requires.row c.requires.begins.0 c.requires.begins.1 (omega arith) c.widths.ensures.are
    c.number_at-x.ensures c.number_at-y.ensures c.number_at-z.ensures
