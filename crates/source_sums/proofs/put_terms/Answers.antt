-- `source_sums::put_terms` meets its contract. The loop's invariant: the entries of the sum, with the terms that are left, weigh what the whole does.
-- Assumes nothing.
use mathlib.Core.Path.{◌≡◌}
use Prim.Native.Nat.{◌+◌, ◌*◌}
use native.Mathlib.Omega.{arith}
use lib.ListN.{length}
use mir.Facts.{to_z-of_z}
use mir.Syntax.{w64}
use mir.Val.{SFits}
use borrow.Author.Rules.{rules}
use Rattle.lists.proofs.Loops.{length-mapped}
use Rattle.model.specs.Steps.{integer_at}
use Rattle.source_step.specs.Sizes.{VARIABLES}
use Rattle.source_sums.proofs.Putting.{term_at, put-start, entry-below, more-fits, put_next, put-end}
use Rattle.source_sums.proofs.put_terms.Goals as goal

pub loop-i-init : goal.loop-i-init
loop-i-init c =
    let long : length c.args.terms ≡ 4 = search (rules, length-mapped) in
    put-start c.args.count c.args.terms c.requires.0 long c.requires.1 c.requires.3

pub overflow_add-at : goal.overflow_add-at
overflow_add-at c = omega (arith, c.from.ensures, entry-below c.loop-i.invariant c.requires.0 c.loop-i-test.true c.requires.1 c.requires.2)

pub offset_bounds-sums-at : goal.offset_bounds-sums-at
offset_bounds-sums-at c = omega (arith, c.from.ensures, entry-below c.loop-i.invariant c.requires.0 c.loop-i-test.true c.requires.1 c.requires.2)

pub bounds-sums-at : goal.bounds-sums-at
bounds-sums-at c = omega (arith, c.from.ensures, entry-below c.loop-i.invariant c.requires.0 c.loop-i-test.true c.requires.1 c.requires.2)

pub overflow_add-sums : goal.overflow_add-sums
overflow_add-sums c =
    let z : SFits w64 (integer_at c.loop-i.sums (VARIABLES * c.args.j + c.from.result)) = search rules in
    let w : SFits w64 (term_at c.args.terms c.loop-i.i).weight = search rules in
    let p = more-fits c.loop-i.invariant c.requires.0 c.loop-i-test.true c.requires.1 c.requires.2 in
    simp (to_z-of_z, z, w) (rw (← c.from.ensures) at p)

pub bounds-sums-at-in-loop-i : goal.bounds-sums-at-in-loop-i
bounds-sums-at-in-loop-i c = omega (arith, c.from.ensures, entry-below c.loop-i.invariant c.requires.0 c.loop-i-test.true c.requires.1 c.requires.2)

pub loop-i-preserved : goal.loop-i-preserved
loop-i-preserved c =
    let z : SFits w64 (integer_at c.loop-i.sums (VARIABLES * c.args.j + c.from.result)) = search rules in
    let w : SFits w64 (term_at c.args.terms c.loop-i.i).weight = search rules in
    let p = more-fits c.loop-i.invariant c.requires.0 c.loop-i-test.true c.requires.1 c.requires.2 in
    rw (to_z-of_z z, to_z-of_z w, c.from.ensures, to_z-of_z p) (put_next c.loop-i.invariant c.requires.0 c.loop-i-test.true c.requires.1 c.requires.2)

pub returns : goal.returns
returns c = put-end c.loop-i.invariant c.requires.0 c.requires.1 c.requires.3.small c.loop-i-test.false
