-- `lowering_stages::unload_stage` meets its contract: two stages a target. Assumes nothing.
use mathlib.Core.Path.{◌≡◌, sym, ap, ◌∙◌}
use mathlib.Core.List.{[]}
use Prim.Native.Nat.{ℕ, ◌/◌, ◌%◌, ◌<◌}
use native.Mathlib.Omega.{arith}
use lib.ListN.{get_or, length, get_elem?}
use borrow.Author.Rules.{rules}
use Rattle.lists.proofs.Loops.{length-mapped}
use Rattle.model.specs.Stages.{set_stages, hold}
use Rattle.file_actions.specs.Views.{numeric_is, effects_is}
use Rattle.lowering_stages.specs.Shapes.{lower_of, upper_of}
use Rattle.lowering_stages.proofs.Effects.{no_place, effect-at}
use Rattle.lowering_stages.proofs.Holds.{unloaded-at}
use Rattle.lowering_stages.proofs.unload_stage.Goals as goal

pub returns : goal.returns
returns c =
    let r = c.args.effects in
    let j = c.args.j in
    let l : length r.places ≡ 3 = search (rules, length-mapped) in
    let e = j / 2 in
    let below : e < r.count = omega (arith, c.requires.3) in
    let x = numeric_is (get_or r.places e no_place) in
    let lower = lower_of c.args.shape in
    let upper = upper_of c.args.shape in
    let at = effect-at r e (omega (arith, c.requires.1)) below in
    λ d g.
    c.set_stage.ensures c.args.a (hold e) c.hold_number-v.ensures d
    (ap (λ (t : ℕ). get_elem? (set_stages lower upper (hold e) t []) (j % 2)) c.target_of-t.ensures
    ∙ sym (unloaded-at lower upper 0 (effects_is r) j e (j % 2) e x (omega arith) (omega arith) (omega arith) at)
    ∙ g)
