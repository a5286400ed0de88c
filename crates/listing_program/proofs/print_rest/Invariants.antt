-- `listing_program::print_rest` meets its contract. The loop's invariant: what is left can be written, and what was left at first is what was
-- written so far and what is left. Each part leaves fewer lines. Assumes nothing.
use Rattle.std.proofs.Common.{◌≤◌, length}
use Rattle.model.specs.Plans.{plan_numbers}
use Rattle.listing.specs.Parts.{PART, Pending, left_of, lines_left}
use Rattle.listing_program.proofs.Printing.{Going}
use Rattle.listing_program.proofs.print_rest.Given as goal

abbrev pub invariant-loop-left : goal.invariant-loop-left
invariant-loop-left g l = record {
  wide : PART ≤ length l.out;
  pending : Pending l.left (plan_numbers l.plan) l.marks l.numbers l.values l.modes;
  going : Going (g.W.Write.contents l.initial.to) (g.W.Write.contents l.to)
      (left_of l.initial.left (plan_numbers l.plan) l.marks l.numbers l.initial.values l.initial.modes)
      (left_of l.left (plan_numbers l.plan) l.marks l.numbers l.values l.modes);
}

abbrev pub decreases-loop-left : goal.decreases-loop-left
decreases-loop-left g l = lines_left l.left
