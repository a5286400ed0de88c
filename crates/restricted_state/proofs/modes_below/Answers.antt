-- `restricted_state::modes_below` meets its contract. Assumes nothing.
use mathlib.Core.Path.{sym, ◌∙◌}
use lib.ListN.{take}
use borrow.Author.Rules.{rules}
use Rattle.std.proofs.Common.{tests}
use Rattle.std.proofs.lemmas.Iterator.{YieldsList-from_slice, YieldsList-from_zip}
use Rattle.std.proofs.lemmas.Iterator.Search.{all_from_yields_List}
use Rattle.restricted_state.proofs.Tests.{is_below, below-every}
use Rattle.restricted_state.proofs.modes_below.Goals as goal

pub returns : goal.returns
returns c =
    let modes = take c.args.m c.args.modes.now in
    let sizes = take c.args.m c.args.sizes.now in
    all_from_yields_List is_below c.all.new.self _ _ c.all.ensures.ran
    (YieldsList-from_zip (YieldsList-from_slice modes (search rules)) (YieldsList-from_slice sizes (search rules))) (λ x b q k. search (rules, tests))
    ∙ sym (below-every sizes modes)
