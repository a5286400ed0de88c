-- `lowering_rows::put_addition` meets its contract: one command, or nothing. Assumes nothing.
use mathlib.Core.Path.{◌≡◌, sym, ap, ◌∙◌}
use mathlib.Core.List.{flat_map}
use lib.IntN.{pos}
use mir.Syntax.{w64}
use mir.Val.{to_z, of_z}
use mir.Facts.{to_z-of_z}
use Rattle.lists.proofs.Writing.{room_as, wrote_as}
use Rattle.commands.specs.Encoding.{encode}
use Rattle.commands.specs.declared.Command.TheVariants.{Add}
use Rattle.model.specs.Sums.{addition}
use Rattle.lowering_rows.specs.Bytes.{addition_bytes}
use Rattle.lowering_rows.proofs.Adding.{nothing-added, something-added}
use Rattle.lowering_rows.proofs.put_addition.Goals as goal
use Rattle.lowering_rows.proofs.put_addition.Lts as lts
use Rattle.lowering_rows.proofs.put_addition.Reads as reads
use Rattle.lowering_rows.proofs.put_addition.Tie as tie

-- where it is not 0, its command
command : (c : lts.After-bits tie.the-claims reads.Pre reads.Post tie.handed_clauses) → flat_map addition_bytes (addition c.args.variable c.args.d) ≡ encode (Add c.args.variable c.bits-bits.result)
command c =
    something-added c.args.variable c.args.d c.bits-bits.result (λ q. c.if-d-eq0.false (ap (of_z w64) q))
    (rw (to_z-of_z c.ranges.d) at c.bits-bits.ensures)

pub returns-then-d-eq0 : goal.returns-then-d-eq0
returns-then-d-eq0 c =
    let none : c.args.d ≡ pos 0 = sym (to_z-of_z c.ranges.d) ∙ ap (to_z w64) c.if-d-eq0.true in
    nothing-added c.args.variable c.args.d none

pub put_add-requires : goal.put_add-requires
put_add-requires c = room_as (command c.before) c.requires.room

pub returns : goal.returns
returns c = wrote_as (sym (command c.before.before.before.before.before)) c.put_add.ensures
