-- `lowering_file::first_kept` meets its contract: with no sum it says nothing of the holds. Assumes nothing.
use Rattle.lowering_file.proofs.Sums.{holds-low}
use borrow.Author.Rules.{rules}
use Rattle.lowering_file.proofs.first_kept.Goals as goal

pub overflow_add-result : goal.overflow_add-result
overflow_add-result c =
    let low = holds-low c.any_several-several.result in
    search rules

pub overflow_cast-result : goal.overflow_cast-result
overflow_cast-result c =
    let low = holds-low c.any_several-several.result in
    search rules

pub returns : goal.returns
returns c =
    let low = holds-low c.any_several-several.result in
    let same = c.any_several-several.ensures in
    (search rules, λ h. search rules)
