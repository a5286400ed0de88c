-- `lowering_stages::push_turn` meets its contract: blank, then its parts one by one. Assumes nothing.
use Prim.Native.Nat.{◌≤◌}
use native.Mathlib.Omega.{arith}
use mathlib.Core.List.{[], ◌∷◌}
use lib.Dec.{lit≤}
use lib.IntN.{pos, nat_abs, ◌-ℤ◌}
use mir.Syntax.{w64}
use mir.Val.{SFits}
use mir.Facts.{to_z-of_z}
use borrow.Author.Rules.{rules}
use Rattle.file_parts.specs.Row.{Says}
use Rattle.file_parts.specs.With.{condition, blank_action, with_condition, with_conditions, with_mode_condition, with_mode_effect, with_additions}
use Rattle.file_parts.proofs.Pushing.{parts-fit, pushed}
use Rattle.lowering_stages.specs.Stages.{asked_is}
use Rattle.lowering_stages.proofs.Numbers.{minus-fits}
use Rattle.lowering_stages.proofs.Rows.{asked-few, difference-small, difference-fits}
use Rattle.lowering_stages.proofs.push_turn.Goals as goal
use Rattle.lowering_stages.proofs.push_turn.Goals.{After-push_mode_condition, After-push_condition, After-push_condition-2, After-push_mode_effect}

-- what the rows say behind the P, behind both C on the counter, and behind the E
one : (c : After-push_mode_condition) → Says (with_mode_condition blank_action (c.args.control, c.args.number)) c.push_mode_condition.new.marks c.args.numbers.now
one c = pushed (c.blank.ensures c.args.numbers.now c.requires.1) with_mode_condition (c.push_mode_condition.ensures c.args.numbers.now c.requires.1)

two : (c : After-push_condition) → Says (with_condition (with_mode_condition blank_action (c.args.control, c.args.number)) (condition c.args.s.counter 2 (pos 0 -ℤ c.args.s.deep)))
    c.push_condition.new.marks c.push_condition.new.numbers
two c =
    let v : SFits w64 c.args.s.deep = search rules in
    let w = minus-fits c.args.s.deep c.requires.2.deep in
    pushed (pushed (c.blank.ensures c.args.numbers.now c.requires.1) with_mode_condition (c.push_mode_condition.ensures c.args.numbers.now c.requires.1))
    with_condition (rw (to_z-of_z v, to_z-of_z w) at c.push_condition.ensures)

pub push_mode_condition-requires : goal.push_mode_condition-requires
push_mode_condition-requires c =
    parts-fit (c.blank.ensures c.args.numbers.now c.requires.1) (record { conditions = lit≤ tt; mode_conditions = lit≤ tt; mode_effects = lit≤ tt; additions = lit≤ tt })

pub push_condition-requires : goal.push_condition-requires
push_condition-requires c =
    let h = one (goal.at.push_condition-requires c).After-push_mode_condition in
    (parts-fit h (record { conditions = lit≤ tt; mode_conditions = lit≤ tt; mode_effects = lit≤ tt; additions = lit≤ tt }), c.requires.1)

pub push_condition-requires-2 : goal.push_condition-requires-2
push_condition-requires-2 c =
    let h = two (goal.at.push_condition-requires-2 c).After-push_condition in
    (parts-fit h (record { conditions = lit≤ tt; mode_conditions = lit≤ tt; mode_effects = lit≤ tt; additions = lit≤ tt }), h.numbers_long)

three : (c : After-push_condition-2) → Says
    (with_condition (with_condition (with_mode_condition blank_action (c.args.control, c.args.number)) (condition c.args.s.counter 2 (pos 0 -ℤ c.args.s.deep)))
    (condition c.args.s.counter 1 ((c.args.s.unit -ℤ c.args.s.deep) -ℤ pos 1)))
    c.push_condition-2.new.marks c.push_condition-2.new.numbers
three c =
    let u : SFits w64 c.args.s.unit = search rules in
    let v : SFits w64 c.args.s.deep = search rules in
    let w = minus-fits c.args.s.deep c.requires.2.deep in
    let small = difference-small c.args.s.unit c.args.s.deep c.requires.2.unit c.requires.2.deep in
    let past = difference-fits c.args.s.unit c.args.s.deep (omega (arith, c.requires.2.unit)) (omega (arith, c.requires.2.deep)) in
    let most = difference-fits (c.args.s.unit -ℤ c.args.s.deep) (pos 1) small (lit≤ tt) in
    pushed
    (pushed (pushed (c.blank.ensures c.args.numbers.now c.requires.1) with_mode_condition (c.push_mode_condition.ensures c.args.numbers.now c.requires.1)) with_condition
    (rw (to_z-of_z v, to_z-of_z w) at c.push_condition.ensures))
    with_condition (rw (to_z-of_z u, to_z-of_z v, to_z-of_z past, to_z-of_z most) at c.push_condition-2.ensures)

pub push_bounds-requires : goal.push_bounds-requires
push_bounds-requires c =
    let h = three (goal.at.push_bounds-requires c).After-push_condition-2 in
    (parts-fit h (record { conditions = lit≤ tt; mode_conditions = lit≤ tt; mode_effects = lit≤ tt; additions = lit≤ tt }), h.numbers_long)

pub push_mode_effect-requires : goal.push_mode_effect-requires
push_mode_effect-requires c =
    let h = pushed (three (goal.at.push_mode_effect-requires c).After-push_condition-2) with_conditions c.push_bounds.ensures in
    parts-fit h (record { conditions = omega (arith, asked-few c.args.s); mode_conditions = lit≤ tt; mode_effects = lit≤ tt; additions = lit≤ tt })

pub push_given-requires : goal.push_given-requires
push_given-requires c =
    let h = pushed (three (goal.at.push_given-requires c).After-push_condition-2) with_conditions c.push_bounds.ensures in
    let k = pushed h with_mode_effect (c.push_mode_effect.ensures c.push_bounds.new.numbers h.numbers_long) in
    (parts-fit k (record { conditions = omega (arith, asked-few c.args.s); mode_conditions = lit≤ tt; mode_effects = lit≤ tt; additions = lit≤ tt }), k.numbers_long)

pub returns : goal.returns
returns c =
    let h = pushed (three (goal.at.returns c).After-push_condition-2) with_conditions c.push_bounds.ensures in
    let k = pushed h with_mode_effect (c.push_mode_effect.ensures c.push_bounds.new.numbers h.numbers_long) in
    let g : SFits w64 c.args.s.gives = search rules in
    pushed k with_additions (rw (to_z-of_z g) at c.push_given.ensures)
