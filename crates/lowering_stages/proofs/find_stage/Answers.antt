-- `lowering_stages::find_stage` meets its contract: the loop goes from effect to effect until the stage stands in its stages. Assumes nothing.
use mathlib.Core.Path.{◌≡◌, subst}
use Prim.Native.Nat.{ℕ, ◌<◌}
use native.Mathlib.Omega.{arith}
use lib.ListN.{length, get_or}
use borrow.Author.Rules.{rules}
use Rattle.lists.proofs.Loops.{length-mapped}
use Rattle.file_actions.specs.Views.{numeric_is, effects_is}
use Rattle.lowering_stages.proofs.Effects.{no_place, effects-length, effects-from, terms-few}
use Rattle.lowering_stages.proofs.Holds.{search-start, search-found, search-next, search-end}
use Rattle.lowering_stages.specs.Stages.{FoundAt}
use Rattle.lowering_stages.proofs.find_stage.Goals as goal

pub loop-e-init : goal.loop-e-init
loop-e-init c = search-start

pub result_count-last-requires : goal.result_count-last-requires
result_count-last-requires c =
    let l : length c.args.effects.places ≡ 3 = search (rules, length-mapped) in
    terms-few c.args.effects c.loop-e.e (omega (arith, c.loop-e-test.true, c.requires.few)) c.requires

pub returns-then-left-last : goal.returns-then-left-last
returns-then-left-last c =
    let r = c.args.effects in
    let e = c.loop-e.e in
    let l : length r.places ≡ 3 = search (rules, length-mapped) in
    let here : e < length r.places = omega (arith, c.loop-e-test.true, c.requires.few) in
    search-found c.loop-e.invariant (numeric_is (get_or r.places e no_place))
    (omega (arith, effects-length r, c.loop-e-test.true)) (effects-from r e here c.loop-e-test.true)
    c.result_count-last.result c.result_count-last.ensures.0 c.if-left-last.true

pub loop-e-preserved : goal.loop-e-preserved
loop-e-preserved c =
    let r = c.args.effects in
    let e = c.loop-e.e in
    let l : length r.places ≡ 3 = search (rules, length-mapped) in
    let here : e < length r.places = omega (arith, c.loop-e-test.true, c.requires.few) in
    search-next c.loop-e.invariant (numeric_is (get_or r.places e no_place))
    (omega (arith, effects-length r, c.loop-e-test.true)) (effects-from r e here c.loop-e-test.true)
    c.result_count-last.result c.result_count-last.ensures.0 c.if-left-last.false

pub returns : goal.returns
returns c =
    let n : c.loop-e.e ≡ c.args.effects.count = omega (arith, c.loop-e.auto.e-end, c.loop-e-test.false) in
    let end = search-end c.loop-e.invariant (omega (arith, effects-length c.args.effects, c.loop-e-test.false)) in
    let At : ℕ → Type 0 = λ e. FoundAt (effects_is c.args.effects) c.args.j (record { effect = e; stage = c.loop-e.left }) in
    subst At n end
