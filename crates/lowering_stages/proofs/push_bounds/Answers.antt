-- `lowering_stages::push_bounds` meets its contract: both bounds, or nothing. Assumes nothing.
use Rattle.file_parts.specs.With.{condition}
use Rattle.file_parts.specs.Row.{row_is}
use Rattle.lowering_stages.proofs.Rows.{own, said, same-conditions, bounds-room, asked-said}
use mir.Syntax.{w64}
use mir.Val.{SFits}
use mir.Facts.{to_z-of_z}
use borrow.Author.Rules.{rules}
use Rattle.lowering_stages.proofs.push_bounds.Goals as goal

pub push_condition-requires-then-s : goal.push_condition-requires-then-s
push_condition-requires-then-s c =
    let k : SFits w64 c.args.s.lower = search rules in
    (bounds-room c.args.marks.now c.args.numbers.now (condition c.args.s.target 2 c.args.s.lower) c.requires.0 (rw (to_z-of_z k) at c.push_condition.ensures), c.push_condition.ensures.numbers_long)

pub returns-then-s : goal.returns-then-s
returns-then-s c =
    let k : SFits w64 c.args.s.lower = search rules in
    let l : SFits w64 c.args.s.upper = search rules in
    rw c.if-s.true
    (asked-said c.args.marks.now c.args.numbers.now (condition c.args.s.target 2 c.args.s.lower) (condition c.args.s.target 1 c.args.s.upper)
    (rw (to_z-of_z k) at c.push_condition.ensures) (rw (to_z-of_z l) at c.push_condition-then-s.ensures))

pub returns-else-s : goal.returns-else-s
returns-else-s c = rw c.if-s.false (said (same-conditions (row_is c.args.marks.now c.args.numbers.now)) (own c.requires.0.long c.requires.1))
