-- `source_ready::put_terms` meets its contract: each turn writes one term more. Assumes nothing.
use Prim.Native.Nat.{◌≤◌}
use Rattle.source_ready.specs.Made.{term_at, TermsPut}
use Rattle.source_ready.proofs.put_terms.Given as goal

abbrev pub invariant-loop-i : goal.invariant-loop-i
invariant-loop-i l = (l.i ≤ l.k) × TermsPut l.e l.i (term_at l.terms) l.initial.marks l.initial.numbers l.marks l.numbers
