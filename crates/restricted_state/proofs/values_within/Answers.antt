-- `restricted_state::values_within` meets its contract. Assumes nothing.
use mathlib.Core.Path.{sym, ◌∙◌}
use lib.ListN.{take}
use borrow.Author.Rules.{rules}
use Rattle.std.proofs.Common.{tests}
use Rattle.std.proofs.lemmas.Iterator.{YieldsList-from_slice}
use Rattle.std.proofs.lemmas.Iterator.Search.{all_from_yields_List}
use Rattle.integers.specs.Relation.{within_limit}
use Rattle.model.specs.Steps.{figure}
use Rattle.restricted_state.proofs.Tests.{within-every}
use Rattle.restricted_state.proofs.values_within.Goals as goal

pub returns : goal.returns
returns c =
    let front = take c.args.n c.args.values.now in
    all_from_yields_List (within_limit figure) _ _ _ c.all.ensures.ran (YieldsList-from_slice front (search rules)) (λ x b q k. search (rules, tests))
    ∙ sym (within-every figure front)
