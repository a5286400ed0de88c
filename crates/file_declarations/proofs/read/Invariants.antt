-- `file_declarations::read` meets its contract: what the commands passed so far declare is stored, and those passed and those
-- from here on are the declarations.
-- Assumes nothing.
use Prim.Native.Nat.{◌-◌}
use lib.ListN.{length}
use Rattle.file_declarations.proofs.Walk.{Walk}
use Rattle.file_declarations.proofs.read.Given as goal

abbrev pub invariant-loop-at : goal.invariant-loop-at
invariant-loop-at l =
    Walk l.restricted l.file l.initial.lower l.initial.upper l.initial.start l.initial.sizes l.initial.values
    l.variables l.modes l.lower l.upper l.start l.sizes l.values l.at

abbrev pub decreases-loop-at : goal.decreases-loop-at
decreases-loop-at l = length l.file - l.at
