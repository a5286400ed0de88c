-- `lowering_rows::put_condition` meets its contract: one of the four relations is one C; equal is two. Assumes nothing.
use mathlib.Core.Path.{sym}
use native.Mathlib.Omega.{arith}
use mir.Syntax.{w64}
use mir.Val.{SFits}
use mir.Facts.{to_z-of_z}
use borrow.Author.Rules.{rules}
use Rattle.lists.proofs.Writing.{step, done, room, room_as, wrote_as}
use Rattle.lowering_rows.proofs.Writing.{four-plain, equal-begun}
use Rattle.lowering_rows.proofs.put_condition.Goals as goal

pub put_condition-requires : goal.put_condition-requires
put_condition-requires c = let b : SFits w64 c.args.constant = search rules in
    room_as (four-plain c.args.variable c.args.relation c.args.constant _ (omega arith) (rw (to_z-of_z b) at c.bits-bits.ensures)) c.requires.room

pub returns-then-relation-lt-EQUAL : goal.returns-then-relation-lt-EQUAL
returns-then-relation-lt-EQUAL c = let b : SFits w64 c.args.constant = search rules in
    wrote_as (sym (four-plain c.args.variable c.args.relation c.args.constant _ (omega arith) (rw (to_z-of_z b) at c.bits-bits.ensures))) c.put_condition.ensures

pub put_condition-behind-requires : goal.put_condition-behind-requires
put_condition-behind-requires c = let b : SFits w64 c.args.constant = search rules in
    room c.requires.room (equal-begun _ _ c.args.variable c.args.relation c.args.constant _ (omega arith) (rw (to_z-of_z b) at c.bits-bits.ensures))

pub put_condition-requires-2 : goal.put_condition-requires-2
put_condition-requires-2 c = let b : SFits w64 c.args.constant = search rules in
    room c.requires.room (step (equal-begun _ _ c.args.variable c.args.relation c.args.constant _ (omega arith) (rw (to_z-of_z b) at c.bits-bits.ensures)) c.put_condition-behind.ensures)

pub returns : goal.returns
returns c = let b : SFits w64 c.args.constant = search rules in
    done (step (step (equal-begun _ _ c.args.variable c.args.relation c.args.constant _ (omega arith) (rw (to_z-of_z b) at c.bits-bits.ensures))
    c.put_condition-behind.ensures) c.put_condition-2.ensures)
