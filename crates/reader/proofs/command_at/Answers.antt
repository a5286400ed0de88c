-- `reader::command_at` meets its contract: what remains from the place on is what `drop` leaves. Assumes nothing.
use native.Mathlib.Omega.{arith}
use mathlib.Core.Path.{◌∙◌, ap}
use Prim.Native.Nat.{◌-◌}
use lib.ListN.{length, drop, length-drop}
use lib.Seq.{take_all}
use Rattle.commands.specs.Reading.{command_at}
use Rattle.commands.proofs.Known.{empty}
use Rattle.reader.proofs.command_at.Goals as goal

pub returns-then-at-file : goal.returns-then-at-file
returns-then-at-file c =
    let a = c.args in
    c.read.ensures ∙ ap command_at (take_all (length a.file.now - a.at) (drop a.at a.file.now) (simp length-drop (omega arith)))

pub returns : goal.returns
returns c =
    let a = c.args in
    empty (drop a.at a.file.now) (simp length-drop (omega (arith, c.if-at-file.false)))
