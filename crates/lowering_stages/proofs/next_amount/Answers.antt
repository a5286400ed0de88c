-- `lowering_stages::next_amount` meets its contract: that of the effect behind it, or nothing. Assumes nothing.
use mathlib.Core.Path.{◌≡◌}
use Prim.Native.Nat.{◌+◌}
use native.Mathlib.Omega.{arith}
use lib.ListN.{length}
use mir.Syntax.{w64}
use mir.Val.{SFits}
use mir.Facts.{to_z-of_z}
use borrow.Author.Rules.{rules}
use Rattle.lists.proofs.Loops.{length-mapped}
use Rattle.file_actions.specs.Views.{effects_is}
use Rattle.lowering_stages.proofs.Effects.{effects-length, effects-from, next-none}
use Rattle.lowering_stages.proofs.next_amount.Goals as goal

pub returns-then-next-effects : goal.returns-then-next-effects
returns-then-next-effects c =
    let r = c.args.effects in
    let l : length r.places ≡ 3 = search (rules, length-mapped) in
    let k : SFits w64 c.entering_amount.result = search rules in
    let from = effects-from r (c.args.e + 1) (omega (arith, c.if-next-effects.true, c.requires.0)) c.if-next-effects.true in
    rw (to_z-of_z k, from) c.entering_amount.ensures

pub returns : goal.returns
returns c =
    next-none (effects_is c.args.effects) (c.args.e + 1) (omega (arith, effects-length c.args.effects, c.if-next-effects.false))
