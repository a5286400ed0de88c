-- `source_ready::put_terms` meets its contract: each turn writes one term more. Assumes nothing.
use mir.Facts.{to_z-of_z}
use mathlib.Core.Path.{◌≡◌}
use native.Mathlib.Omega.{arith}
use Rattle.source_ready.specs.Made.{term_at}
use Rattle.source_ready.proofs.Terms.{terms-begin, terms-more}
use borrow.Author.Rules.{rules}
use Rattle.source_ready.proofs.put_terms.Goals as goal

pub loop-i-init : goal.loop-i-init
loop-i-init c = (omega arith, terms-begin _ _ _ _ c.requires.2 c.requires.3)

pub loop-i-preserved : goal.loop-i-preserved
loop-i-preserved c = (
  omega arith,
  terms-more c.args.e c.requires.0 c.loop-i.i (term_at c.args.terms) c.args.marks.now c.args.numbers.now
      c.loop-i.marks c.loop-i.numbers c.loop-i.invariant.1 (omega arith) _ _ c.from.ensures (search (to_z-of_z, rules)),
)

pub returns : goal.returns
returns c =
    let v = c.loop-i.invariant in
    let e : c.loop-i.i ≡ c.args.k = omega arith in
    rw e at v.1
