-- `file_check::Reading::take` meets its contract: nothing remains, the byte may not stand there, a T is missing, or the command's own function
-- has taken it.
-- Assumes nothing.
use mathlib.Core.Path.{refl}
use borrow.Author.Rules.{rules}
use native.Mathlib.Omega.{arith}
use Prim.Native.Nat.{◌<◌}
use lib.ListN.{length, get_or}
use lib.Dec.{lit<}
use Rattle.model.specs.Rules.{tests_of, next_of}
use Rattle.file_check.specs.Views.{limits_of, state_of}
use Rattle.file_check.proofs.Tests.{told}
use Rattle.file_check.proofs.Bare.{known-byte}
use Rattle.file_check.proofs.Taking.{nothing_left, barred, by_rule, alone, unread}
use Rattle.file_check.proofs.Reading.take.Goals as goal

pub returns-then-rest-eq0 : goal.returns-then-rest-eq0
returns-then-rest-eq0 c = nothing_left _ _ _ c.if-rest-eq0.true

pub returns-then-not-is_allowed : goal.returns-then-not-is_allowed
returns-then-not-is_allowed c = barred _ _ _ c.if-rest-eq0.false (told c.is_allowed.ensures c.if-not-is_allowed.true)

pub refuse_bare-requires : goal.refuse_bare-requires
refuse_bare-requires c =
    let there : 0 < length c.args.rest.now = omega (arith, c.if-rest-eq0.false) in
    let may = told c.is_allowed.ensures c.if-not-is_allowed.false in
    (there, known-byte (limits_of c.args.l.now) (state_of c.args.self.now) (get_or c.args.rest.now 0 0) may, told c.lacks_term.ensures c.if-lacks_term.true)

pub returns-then-lacks_term : goal.returns-then-lacks_term
returns-then-lacks_term c = by_rule _ _ _ c.if-rest-eq0.false (told c.is_allowed.ensures c.if-not-is_allowed.false) c.refuse_bare.ensures

pub returns-in-65 : goal.returns-in-65
unfolding tests_of next_of
returns-in-65 c =
    alone _ _ _ c.if-rest-eq0.false (told c.is_allowed.ensures c.if-not-is_allowed.false) (told c.lacks_term.ensures c.if-lacks_term.false)
    3 (lit< tt) refl c.in-65.is c.take_action.ensures

pub returns-in-71 : goal.returns-in-71
unfolding tests_of next_of
returns-in-71 c =
    alone _ _ _ c.if-rest-eq0.false (told c.is_allowed.ensures c.if-not-is_allowed.false) (told c.lacks_term.ensures c.if-lacks_term.false)
    12 (lit< tt) refl c.in-71.is c.take_goal.ensures

pub returns-in-90 : goal.returns-in-90
unfolding tests_of next_of
returns-in-90 c =
    alone _ _ _ c.if-rest-eq0.false (told c.is_allowed.ensures c.if-not-is_allowed.false) (told c.lacks_term.ensures c.if-lacks_term.false)
    13 (lit< tt) refl c.in-90.is c.take_end.ensures

pub returns-in_default : goal.returns-in_default
returns-in_default c =
    unread _ _ _ c.if-rest-eq0.false (told c.is_allowed.ensures c.if-not-is_allowed.false) (told c.lacks_term.ensures c.if-lacks_term.false)
    (search rules)
