-- `source_ready::put_effect` meets its contract: the terms that count, then the head. Assumes nothing.
use mathlib.Core.Path.{◌≡◌}
use native.Mathlib.Omega.{arith}
use lib.ListN.{length}
use Rattle.lists.proofs.Loops.{length-mapped}
use Rattle.source_ready.proofs.Decoded.{terms-few, decoded-put}
use borrow.Author.Rules.{rules}
use Rattle.source_ready.proofs.put_effect.Goals as goal

pub put_terms-requires : goal.put_terms-requires
put_terms-requires c = (
  omega (arith, c.requires.0),
  terms-few c.head_of-head.result.kind c.args.place.term_count c.counted-count.result c.counted-count.ensures,
  c.requires.2.marks_long,
  c.requires.2.numbers_long,
)

pub overflow_cast-count : goal.overflow_cast-count
overflow_cast-count c =
    let few = terms-few c.head_of-head.result.kind c.args.place.term_count c.counted-count.result c.counted-count.ensures in
    record { fits = omega (arith, few) }

pub returns : goal.returns
returns c =
    let long : length c.args.place.terms ≡ 4 = search (rules, length-mapped) in
    decoded-put c.requires.0 c.args.place long c.head_of-head.ensures c.counted-count.ensures c.requires.2 c.requires.3 c.put_terms.ensures
    c.put_head.ensures
