-- `lowering_stages::stage_count` meets its contract: by how many effects there are. Assumes nothing.
use mathlib.Core.Path.{◌≡◌, sym, ap, ◌∙◌}
use mathlib.Core.List.{List}
use Prim.Native.Nat.{◌≤◌}
use native.Mathlib.Omega.{arith}
use lib.Dec.{lit≤}
use lib.ListN.{length}
use borrow.Author.Rules.{rules}
use Rattle.lists.proofs.Loops.{length-mapped}
use Rattle.model.specs.Tasks.{Effect}
use Rattle.model.specs.Stages.{stages_of}
use Rattle.file_actions.specs.Views.{effects_is}
use Rattle.lowering_stages.proofs.Effects.{effects-length, terms-few}
use Rattle.lowering_stages.proofs.Holds.{no-stages, several-stages, one-alone}
use Rattle.lowering_stages.proofs.stage_count.Goals as goal
use Rattle.lowering_stages.proofs.stage_count.Lts as lts
use Rattle.lowering_stages.proofs.stage_count.Reads as reads
use Rattle.lowering_stages.proofs.stage_count.Tie as tie

-- there are as many places as there is room for
long : (s : lts.Start tie.the-claims reads.Pre reads.Post) → length s.args.effects.places ≡ 3
long s = search (rules, length-mapped)

pub returns-then-count-eq0 : goal.returns-then-count-eq0
returns-then-count-eq0 c =
    let r = c.args.effects in
    ((λ lower upper. sym (ap length (no-stages lower upper (effects_is r) (omega (arith, effects-length r, c.if-count-eq0.true))))), lit≤ tt)

pub single_count-requires : goal.single_count-requires
single_count-requires c =
    terms-few c.args.effects 0 (omega (arith, long c.before.before.before)) c.requires

pub returns-then-count-eq1 : goal.returns-then-count-eq1
returns-then-count-eq1 c =
    let r = c.args.effects in
    let one = one-alone r (omega (arith, long c.before.before.before.before)) c.if-count-eq1.true in (
      (λ lower upper. c.single_count.ensures.0 lower upper ∙ ap (λ (es : List Effect). length (stages_of lower upper es)) (sym one)),
      omega
          (arith, c.single_count.ensures.1),
    )

pub returns : goal.returns
returns c =
    let r = c.args.effects in
    let many : 2 ≤ length (effects_is r) = omega (arith, effects-length r, long c.before.before.before, c.if-count-eq1.false, c.if-count-eq0.false) in
    ((λ lower upper. c.several_count.ensures.0 lower upper ∙ ap length (sym (several-stages lower upper (effects_is r) many))), c.several_count.ensures.1)
