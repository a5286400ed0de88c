-- `lowering_file::some_several` meets its contract: as before, or by the count of this action's effects. Assumes nothing.
use mathlib.Core.Path.{◌≡◌}
use native.Mathlib.Omega.{arith}
use lib.ListN.{length}
use borrow.Author.Rules.{rules}
use Rattle.lists.proofs.Loops.{length-mapped}
use Rattle.lowering_file.proofs.Sums.{several-is}
use Rattle.lowering_file.proofs.some_several.Goals as goal

pub returns-else-before : goal.returns-else-before
returns-else-before c =
    let l : length c.args.effects.places ≡ 3 = search (rules, length-mapped) in
    rw c.if-before.false (several-is c.args.effects (omega (arith, l, c.requires.few)))
