-- `lowering_stages::several_count` meets its contract: the loop counts the stages of each effect. Assumes nothing.
use mathlib.Core.Path.{◌≡◌, sym, ◌∙◌}
use Prim.Native.Nat.{◌<◌}
use native.Mathlib.Omega.{arith}
use lib.ListN.{length, get_or}
use borrow.Author.Rules.{rules}
use Rattle.lists.proofs.Loops.{length-mapped}
use Rattle.file_actions.specs.Views.{numeric_is, effects_is}
use Rattle.lowering_stages.proofs.Holds.{count-start, count_next, count-end, several-length}
use Rattle.lowering_stages.proofs.Effects.{no_place, effects-length, effects-from, terms-few}
use Rattle.lowering_stages.proofs.several_count.Goals as goal

pub loop-e-init : goal.loop-e-init
loop-e-init c = count-start

pub result_count-requires : goal.result_count-requires
result_count-requires c =
    let l : length c.args.effects.places ≡ 3 = search (rules, length-mapped) in
    terms-few c.args.effects c.loop-e.e (omega (arith, c.loop-e-test.true, c.requires.few)) c.requires

pub loop-e-preserved : goal.loop-e-preserved
loop-e-preserved c =
    let r = c.args.effects in
    let e = c.loop-e.e in
    let below = c.loop-e-test.true in
    let l : length r.places ≡ 3 = search (rules, length-mapped) in
    let here : e < length r.places = omega (arith, below, c.requires.few) in
    count_next c.loop-e.invariant (numeric_is (get_or r.places e no_place)) (omega (arith, effects-length r, below))
    (effects-from r e here below) c.result_count.result c.result_count.ensures.0 c.result_count.ensures.1

pub returns : goal.returns
returns c =
    let r = c.args.effects in
    let l : length r.places ≡ 3 = search (rules, length-mapped) in
    let n = effects-length r in
    let total = count-end c.loop-e.invariant (omega (arith, n, c.loop-e-test.false)) in (
      (λ lower upper. total ∙ sym (several-length lower upper (effects_is r))),
      omega
          (arith, c.loop-e.invariant.most, c.loop-e.invariant.within, n, c.requires.few),
    )
