-- `lowering_stages::held_stage` meets its contract: the stages of the effect, and its Move into a hold behind them. Assumes nothing.
use mathlib.Core.Path.{◌≡◌, sym, ap, ◌∙◌}
use mathlib.Core.List.{List, [], ◌∷◌}
use Prim.Native.Nat.{ℕ, ◌+◌, suc, ◌<◌}
use native.Mathlib.Numerals.{add-one}
use native.Mathlib.Omega.{arith}
use lib.ListN.{get_elem?, length, get_or, drop}
use mir.Syntax.{w64}
use mir.Val.{SFits}
use mir.Facts.{to_z-of_z}
use borrow.Author.Rules.{rules}
use Rattle.lists.proofs.Loops.{length-mapped}
use Rattle.model.specs.Stages.{result_in, next_additions, result_stages, hold_stages}
use Rattle.model.specs.Tasks.{Effect}
use Rattle.file_actions.specs.Views.{numeric_is, effects_is}
use Rattle.lowering_stages.specs.Stages.{given_is, next_amount}
use Rattle.lowering_stages.proofs.Effects.{effect-at, no_place, effects-from, terms-few, place_ok, next-given, next_small}
use Rattle.lowering_stages.proofs.Holds.{held_at, moved_at}
use Rattle.lowering_stages.proofs.Rows.{known}
use Rattle.lowering_stages.proofs.held_stage.Goals as goal
use Rattle.lowering_stages.proofs.held_stage.Lts as lts
use Rattle.lowering_stages.proofs.held_stage.Reads as reads
use Rattle.lowering_stages.proofs.held_stage.Tie as tie

-- there are as many places as there is room for
long : (s : lts.Start tie.the-claims reads.Pre reads.Post tie.handed_clauses) → length s.args.effects.places ≡ 3
long s = search (rules, length-mapped)

-- effect e is the one that is read
here : (s : lts.Start tie.the-claims reads.Pre reads.Post tie.handed_clauses) → s.args.e < length s.args.effects.places
here s = omega (arith, long s, s.requires.a_bound.2, s.requires.a_bound.1.few.few)

is : (s : lts.Start tie.the-claims reads.Pre reads.Post tie.handed_clauses) → drop s.args.e (effects_is s.args.effects) ≡ numeric_is (get_or s.args.effects.places s.args.e no_place) ∷ drop (suc s.args.e)
    (effects_is s.args.effects)
is s = effects-from s.args.effects s.args.e (here s) s.requires.a_bound.2

pub result_count-count-requires : goal.result_count-count-requires
result_count-count-requires c = terms-few c.args.effects c.args.e (here c.before) c.requires.a_bound.1.few

pub result_stage-requires : goal.result_stage-requires
result_stage-requires c = (
  c.requires.a_bound.0,
  place_ok c.args.effects c.args.e (here c.before.before.before) c.args.a c.requires.a_bound.1 c.requires.a_bound.2,
  omega
      (arith, c.if-j-count.true, c.result_count-count.ensures.0),
)

pub returns-then-j-count : goal.returns-then-j-count
returns-then-j-count c =
    let e = c.args.e in
    let es = effects_is c.args.effects in
    let x = numeric_is (get_or c.args.effects.places e no_place) in
    let below : c.args.j < length (result_stages x []) = omega (arith, c.if-j-count.true, c.result_count-count.ensures.0) in
    λ rest d g.
    c.result_stage.ensures d
    (sym (ap (λ (fs : List Effect). get_elem? (hold_stages e fs rest) c.args.j) (is c.before.before.before.before) ∙ held_at e x (drop (suc e) es) rest c.args.j below) ∙ g)

pub hold_of-requires : goal.hold_of-requires
hold_of-requires c =
    let k : SFits w64 c.next_amount-gives.result = search rules in (
      c.requires.a_bound.0,
      omega (arith, c.requires.a_bound.2, c.requires.a_bound.1.few.few),
      rw (to_z-of_z k, c.next_amount-gives.ensures)
          (next_small c.args.a (c.args.e + 1) (effects_is c.args.effects) c.requires.a_bound.1.effects_ok),
    )

pub returns : goal.returns
returns c =
    let s = c.before.before.before.before.before.before in
    let e = s.args.e in
    let j = s.args.j in
    let r = s.args.effects in
    let es = effects_is r in
    let x = numeric_is (get_or r.places e no_place) in
    let k : SFits w64 c.next_amount-gives.result = search rules in
    let next = c.next_amount-gives.ensures ∙ ap (λ (n : ℕ). next_amount (drop n es)) (add-one e) in
    let gives = ap (given_is s.args.a) (to_z-of_z k ∙ next) ∙ next-given s.args.a (drop (suc e) es) in
    let most = s.requires.j_in_bounds x (effect-at r e (here s) s.requires.a_bound.2) in
    let last : j ≡ length (result_stages x []) = omega
    (arith, most, c.if-j-count.false, c.result_count-count.ensures.0) in
    λ rest.
    known (c.hold_of.ensures (result_in x) (next_additions (drop (suc e) es)) c.result_in-v.ensures gives)
    (ap (λ (fs : List Effect). get_elem? (hold_stages e fs rest) j) (is s) ∙ moved_at e x (drop (suc e) es) rest j last)
