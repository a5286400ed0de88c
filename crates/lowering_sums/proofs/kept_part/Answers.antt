-- `lowering_sums::kept_part` meets its contract: of the row only the entry of the variable meets the +, and a variable without an entry none.
-- Assumes nothing.
use Prim.Native.Nat.{◌+◌, ◌*◌}
use native.Mathlib.Omega.{arith}
use lib.IntN.{◌*ℤ◌}
use mir.Facts.{to_z-of_z}
use mir.Syntax.{w64}
use mir.Val.{SFits}
use borrow.Author.Rules.{rules}
use Rattle.model.specs.Steps.{integer_at}
use Rattle.source_step.specs.Sizes.{VARIABLES}
use Rattle.lowering_sums.proofs.Weighing.{abs-fits, product_small, amount-weighed, amount-missed}
use Rattle.lowering_sums.proofs.kept_part.Goals as goal

pub returns-then-v-lt-VARIABLES : goal.returns-then-v-lt-VARIABLES
returns-then-v-lt-VARIABLES c =
    let at = VARIABLES * c.args.j + c.args.variable in
    let w : SFits w64 (integer_at c.args.weights.now at) = search rules in
    let small = product_small c.args.d (integer_at c.args.weights.now at) c.requires.2
    (c.requires.1 c.args.j c.args.variable c.requires.0 c.if-v-lt-VARIABLES.true) in
    let fits = abs-fits (c.args.d *ℤ integer_at c.args.weights.now at) (omega (arith, small)) in
    rw (to_z-of_z c.ranges.d, to_z-of_z w, to_z-of_z fits)
    (amount-weighed c.args.weights.now c.args.j c.args.d c.args.variable c.if-v-lt-VARIABLES.true, small)

pub returns : goal.returns
returns c = (amount-missed c.args.weights.now c.args.j c.args.d c.args.variable (omega arith), omega arith)
