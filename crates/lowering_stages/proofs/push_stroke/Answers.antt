-- `lowering_stages::push_stroke` meets its contract: blank, then a P, a C, and what it adds. Assumes nothing.
use native.Mathlib.Omega.{arith}
use mathlib.Core.Bool.{cond}
use mathlib.Core.List.{[], ◌∷◌}
use Prim.Native.Nat.{◌≤◌}
use lib.Dec.{lit≤}
use lib.IntN.{negsuc, nat_abs}
use mir.Syntax.{w64}
use mir.Val.{SFits}
use mir.Facts.{to_z-of_z}
use borrow.Author.Rules.{rules}
use Rattle.file_parts.specs.Row.{Says}
use Rattle.file_parts.specs.With.{condition, blank_action, with_condition, with_mode_condition, with_additions}
use Rattle.file_parts.proofs.Pushing.{parts-fit, pushed}
use Rattle.lowering_stages.specs.Stages.{threshold_is}
use Rattle.lowering_stages.proofs.Rows.{difference-fits}
use Rattle.lowering_stages.proofs.push_stroke.Goals as goal
use Rattle.lowering_stages.proofs.push_stroke.Goals.{After-push_condition, then-falls, else-falls}

pub push_mode_condition-requires : goal.push_mode_condition-requires
push_mode_condition-requires c =
    parts-fit (c.blank.ensures c.args.numbers.now c.requires.1) (record { conditions = lit≤ tt; mode_conditions = lit≤ tt; mode_effects = lit≤ tt; additions = lit≤ tt })

pub push_condition-requires : goal.push_condition-requires
push_condition-requires c =
    let h = pushed (c.blank.ensures c.args.numbers.now c.requires.1) with_mode_condition (c.push_mode_condition.ensures c.args.numbers.now c.requires.1) in
    (parts-fit h (record { conditions = lit≤ tt; mode_conditions = lit≤ tt; mode_effects = lit≤ tt; additions = lit≤ tt }), c.requires.1)

-- what the rows say behind the C
two : (c : After-push_condition)
    → Says (with_condition (with_mode_condition blank_action (c.args.control, c.args.number))
    (condition c.args.s.counter (cond c.args.falls 2 1) (threshold_is c.args.falls c.args.s.unit c.args.s.deep))) c.push_condition.new.marks c.push_condition.new.numbers
two c =
    let u : SFits w64 c.args.s.unit = search rules in
    let v : SFits w64 c.args.s.deep = search rules in
    let small : nat_abs c.args.s.deep ≤ 20000 = omega (arith, c.requires.2.deep) in
    let falling = difference-fits c.args.s.unit c.args.s.deep (omega (arith, c.requires.2.unit)) small in
    let rising = difference-fits (negsuc 0) c.args.s.deep (lit≤ tt) small in
    let h = pushed (c.blank.ensures c.args.numbers.now c.requires.1) with_mode_condition (c.push_mode_condition.ensures c.args.numbers.now c.requires.1) in
    elim c.if-falls.branch [
      | then-falls w ↦ rw w.if-falls.true (pushed h with_condition (simp (to_z-of_z, u, v, falling) at (rw w.relation-is at c.push_condition.ensures)))
      | else-falls w ↦ rw w.if-falls.false (pushed h with_condition (simp (to_z-of_z, v, rising) at (rw w.relation-is at c.push_condition.ensures)))
    ]

pub push_added-requires : goal.push_added-requires
push_added-requires c =
    let h = two (goal.at.push_added-requires c).After-push_condition in
    (parts-fit h (record { conditions = lit≤ tt; mode_conditions = lit≤ tt; mode_effects = lit≤ tt; additions = omega (arith, c.requires.2.few) }), h.numbers_long, c.requires.2)

pub returns : goal.returns
returns c = pushed (two (goal.at.returns c).After-push_condition) with_additions c.push_added.ensures
