-- `file_actions::terms_at` meets its contract. The loop's invariant: the T's read, with those that are left, are all of them.
-- Assumes nothing.
use Prim.Native.Nat.{◌-◌}
use lib.ListN.{length}
use Rattle.file_actions.proofs.NumericPart.{TermsFrom}
use Rattle.file_actions.proofs.terms_at.Given as goal

abbrev pub invariant-loop-at : goal.invariant-loop-at
invariant-loop-at l = TermsFrom l.bytes l.from l.at l.terms

abbrev pub decreases-loop-at : goal.decreases-loop-at
decreases-loop-at l = length l.bytes - l.at
