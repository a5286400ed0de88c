-- `source_sums::put_sum` meets its contract: the weights, and behind them the range. Assumes nothing.
use mir.Facts.{to_z-of_z}
use mir.Syntax.{w64}
use mir.Val.{SFits}
use borrow.Author.Rules.{rules}
use Rattle.source_sums.proofs.Filling.{sum-put}
use Rattle.source_sums.proofs.put_sum.Goals as goal

pub returns : goal.returns
returns c =
    let least : SFits w64 c.range_of-range.result.least = search rules in
    let most : SFits w64 c.range_of-range.result.most = search rules in
    let constant : SFits w64 c.args.place.constant = search rules in
    simp (to_z-of_z, least, most)
    (sum-put c.args.j c.args.place c.requires.0 c.put_terms.ensures c.range_of-range.result.least c.range_of-range.result.most
    (simp (to_z-of_z, constant) at c.range_of-range.ensures))
