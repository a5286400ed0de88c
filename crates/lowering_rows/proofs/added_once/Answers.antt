-- `lowering_rows::added_once` meets its contract: one +, or none. Assumes nothing.
use mathlib.Core.Path.{◌≡◌, sym, ap, ◌∙◌}
use lib.IntN.{pos}
use mir.Syntax.{w64}
use mir.Val.{to_z, of_z}
use mir.Facts.{to_z-of_z}
use Rattle.lowering_rows.proofs.Adding.{none-given, one-given}
use Rattle.lowering_rows.proofs.added_once.Goals as goal

pub returns-then-d-eq0 : goal.returns-then-d-eq0
returns-then-d-eq0 c =
    let none : c.args.d ≡ pos 0 = sym (to_z-of_z c.ranges.d) ∙ ap (to_z w64) c.if-d-eq0.true in
    rw (to_z-of_z c.ranges.d) (none-given c.args.variable c.args.d none)

pub returns-else-d-eq0 : goal.returns-else-d-eq0
returns-else-d-eq0 c =
    rw (to_z-of_z c.ranges.d) (one-given c.args.variable c.args.d (λ q. c.if-d-eq0.false (ap (of_z w64) q)) c.requires)
