-- `listing::any_left` meets its contract, by what is left. Assumes nothing.
use mathlib.Core.Path.{sym}
use Prim.Native.Nat.{suc, ◌-◌}
use native.Mathlib.Omega.{arith}
use borrow.Author.Tests.{lt-ltb}
use Rattle.listing.proofs.any_left.Goals as goal

pub returns-in-Nothing : goal.returns-in-Nothing
returns-in-Nothing c = rw c.in-Nothing.is

pub returns-in-Refusal : goal.returns-in-Refusal
returns-in-Refusal c = rw c.in-Refusal.is

pub returns-in-Lines : goal.returns-in-Lines
returns-in-Lines c = rw c.in-Lines.is (let S = c.in-Lines.field-0 in sym (lt-ltb 0 (suc (S.task.steps - S.next)) (omega arith)))
