-- `lowering_stages::single_count` meets its contract: effect by effect. Assumes nothing.
use mathlib.Core.Path.{◌≡◌}
use mathlib.Core.List.{[]}
use native.Mathlib.Omega.{arith}
use lib.ListN.{length}
use lib.Dec.{lit≤}
use borrow.Author.Rules.{rules}
use Rattle.lists.proofs.Loops.{length-mapped}
use Rattle.model.specs.Tasks.{linear_effect}
use Rattle.model.specs.Stages.{helper_a, set_stages}
use Rattle.file_actions.specs.Views.{terms_is}
use Rattle.lowering_stages.proofs.Effects.{linear-length, result-length}
use Rattle.lowering_stages.proofs.single_count.Goals as goal

pub returns-in-Linear : goal.returns-in-Linear
returns-in-Linear c =
    let p = c.args.place in
    let l : length p.terms ≡ 4 = search (rules, length-mapped) in
    let n = linear-length p.term_count p.terms (omega (arith, c.requires)) in (
      (λ lower upper. rw c.in-Linear.is
          (omega (
            arith,
            n,
            result-length (linear_effect c.in-Linear.field-0 c.in-Linear.field-1 (terms_is p.term_count p.terms))
                (set_stages lower upper helper_a c.in-Linear.field-0 []),
          ))),
      omega (arith, c.requires),
    )
