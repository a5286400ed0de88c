-- `lowering_stages::divide_of` meets its contract: the numbers of Divide. Assumes nothing.
use Prim.Native.Nat.{◌≤◌}
use lib.IntN.{pos, nat_abs, ◌-ℤ◌}
use mir.Facts.{to_z-of_z}
use mir.Syntax.{w64}
use mir.Val.{SFits}
use borrow.Author.Rules.{rules}
use Rattle.lowering_stages.proofs.Making.{divide-stands}
use Rattle.lowering_stages.proofs.Numbers.{minus-fits}
use Rattle.lowering_stages.proofs.divide_of.Goals as goal

pub returns : goal.returns
returns c =
    let u : SFits w64 c.abs-unit.result = search rules in
    let g : SFits w64 c.signum.result = search rules in
    let is_unit = rw (to_z-of_z c.ranges.c) at c.abs-unit.ensures.value in
    let is_sign = rw (to_z-of_z c.ranges.c) at c.signum.ensures.value in
    let m : SFits w64 (pos 0 -ℤ pos (nat_abs c.args.c)) = minus-fits (pos (nat_abs c.args.c)) c.requires.1.1 in
    rw (to_z-of_z u, to_z-of_z g, is_unit, is_sign, to_z-of_z m) (divide-stands c.args.a c.args.c c.requires.1)
