-- `lowering_stages::push_given` meets its contract: one +, or nothing. Assumes nothing.
use lib.IntN.{pos}
use mathlib.Core.Path.{◌≡◌, sym, ap, ◌∙◌}
use mir.Val.{to_z, of_z}
use mir.Syntax.{w64}
use Rattle.file_parts.specs.Row.{row_is}
use Rattle.lowering_stages.proofs.Rows.{own, said, nothing-given, something-given}
use mir.Facts.{to_z-of_z}
use Rattle.lowering_stages.proofs.push_given.Goals as goal

pub returns-then-x-eq0 : goal.returns-then-x-eq0
returns-then-x-eq0 c =
    let k : c.args.x ≡ pos 0 = sym (to_z-of_z c.ranges.x) ∙ ap (to_z w64) c.if-x-eq0.true in
    said (nothing-given (row_is c.args.marks.now c.args.numbers.now) c.args.a c.args.x k) (own c.requires.0.long c.requires.1)

pub returns : goal.returns
returns c = said (something-given (row_is c.args.marks.now c.args.numbers.now) c.args.a c.args.x (λ q. c.if-x-eq0.false (ap (of_z w64) q))) (rw (to_z-of_z c.ranges.x) at c.push_addition.ensures)
