-- `lowering_stages::push_numeric` meets its contract: by how many effects there are. Assumes nothing.
use mathlib.Core.Path.{◌≡◌, sym, ap, ◌∙◌}
use mathlib.Core.List.{List}
use Prim.Native.Nat.{◌≤◌}
use native.Mathlib.Omega.{arith}
use lib.ListN.{get_or, drop, length}
use mir.Syntax.{w64}
use mir.Val.{SFits}
use mir.Facts.{to_z-of_z}
use borrow.Author.Rules.{rules}
use Rattle.lists.proofs.Loops.{length-mapped}
use Rattle.model.specs.Tasks.{Effect, RestrictedAction}
use Rattle.file_parts.specs.Row.{row_is}
use Rattle.file_actions.specs.Views.{numeric_is, effects_is}
use Rattle.lowering_stages.specs.Openings.{with_numeric}
use Rattle.lowering_stages.specs.Shapes.{lower_of, upper_of}
use Rattle.lowering_stages.proofs.Effects.{no_place, effects-length, effects-from, place_ok, no-effects}
use Rattle.lowering_stages.proofs.Holds.{one-alone}
use Rattle.lowering_stages.proofs.Rows.{own, said}
use Rattle.lowering_stages.proofs.Openings.{nothing-more, several-more}
use Rattle.lowering_stages.proofs.push_numeric.Goals as goal
use Rattle.lowering_stages.proofs.push_numeric.Lts as lts
use Rattle.lowering_stages.proofs.push_numeric.Reads as reads
use Rattle.lowering_stages.proofs.push_numeric.Tie as tie

-- there are as many places as there is room for
long : (s : lts.Start tie.the-claims reads.Pre reads.Post) → length s.args.effects.places ≡ 3
long s = search (rules, length-mapped)

abbrev row : lts.Start tie.the-claims reads.Pre reads.Post → RestrictedAction
row s = row_is s.args.marks.now s.args.numbers.now

pub returns-then-count-eq0 : goal.returns-then-count-eq0
returns-then-count-eq0 c =
    let none = no-effects c.args.effects c.if-count-eq0.true in
    said (nothing-more c.args.a (lower_of c.args.shape) (upper_of c.args.shape) (effects_is c.args.effects) (row c.before) (rw none) (rw none))
    (own c.requires.0.long c.requires.1)

pub push_single-requires : goal.push_single-requires
push_single-requires c =
    (c.requires.0, c.requires.1, c.requires.2, (place_ok c.args.effects 0 (omega (arith, long c.before.before.before.before.before)) c.args.a c.requires.3 (omega arith)).effect_ok)

pub returns-then-count-eq1 : goal.returns-then-count-eq1
returns-then-count-eq1 c =
    let s = c.before.before.before.before.before.before in
    let one = one-alone s.args.effects (omega (arith, long s)) c.if-count-eq1.true in
    said (ap (λ (es : List Effect). with_numeric s.args.a (lower_of s.args.shape) (upper_of s.args.shape) es (row s)) (sym one))
    c.push_single.ensures

pub returns : goal.returns
returns c =
    let s = c.before.before.before.before.before.before.before in
    let r = s.args.effects in
    let k : SFits w64 c.entering_amount-amount.result = search rules in
    let from = effects-from r 0 (omega (arith, long s)) (omega (arith, c.if-count-eq0.false)) in
    let rest = drop 1 (effects_is r) in
    let many : 1 ≤ length rest = omega (
      arith,
      ap length from,
      effects-length r,
      long s,
      c.if-count-eq0.false,
      c.if-count-eq1.false,
    ) in
    let more = several-more s.args.a (lower_of s.args.shape) (upper_of s.args.shape) (numeric_is (get_or r.places 0 no_place)) rest (row s) many in
    said (more ∙ ap (λ (es : List Effect). with_numeric s.args.a (lower_of s.args.shape) (upper_of s.args.shape) es (row s)) (sym from))
    (rw (to_z-of_z k, c.entering_amount-amount.ensures) at c.push_given.ensures)
