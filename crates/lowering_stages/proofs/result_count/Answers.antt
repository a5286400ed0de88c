-- `lowering_stages::result_count` meets its contract: effect by effect. Assumes nothing.
use mathlib.Core.Path.{sym, ◌≡◌}
use native.Mathlib.Omega.{arith}
use lib.ListN.{length}
use borrow.Author.Rules.{rules}
use Rattle.lists.proofs.Loops.{length-mapped}
use Rattle.lowering_stages.proofs.Effects.{linear-length}
use Rattle.lowering_stages.proofs.result_count.Goals as goal

pub returns-in-Linear : goal.returns-in-Linear
returns-in-Linear c =
    let p = c.args.place in
    let l : length p.terms ≡ 4 = search (rules, length-mapped) in
    (rw c.in-Linear.is (sym (linear-length p.term_count p.terms (omega (arith, c.requires)))), omega (arith, c.requires))
