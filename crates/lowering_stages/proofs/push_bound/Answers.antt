-- `lowering_stages::push_bound` meets its contract: by the sign of c. Assumes nothing.
use mathlib.Core.Path.{◌≡◌}
use mathlib.Core.Bool.{true, false}
use native.Mathlib.Omega.{arith}
use lib.IntN.{pos}
use lib.Signed.{lt_z}
use mir.Facts.{to_z-of_z}
use Rattle.lowering_stages.proofs.Rows.{difference-fits}
use Rattle.lowering_stages.proofs.push_bound.Goals as goal

pub returns-then-c-gt0 : goal.returns-then-c-gt0
returns-then-c-gt0 c =
    let fits = difference-fits c.args.upper c.args.c (omega (arith, c.requires.2.1)) (omega (arith, c.requires.3)) in
    let test : lt_z (pos 0) c.args.c ≡ true = rw (to_z-of_z c.ranges.c) at c.if-c-gt0.true in
    rw test (rw (to_z-of_z c.ranges.upper, to_z-of_z c.ranges.c, to_z-of_z fits) at c.push_condition.ensures)

pub returns : goal.returns
returns c =
    let fits = difference-fits c.args.lower c.args.c (omega (arith, c.requires.2.0)) (omega (arith, c.requires.3)) in
    let test : lt_z (pos 0) c.args.c ≡ false = rw (to_z-of_z c.ranges.c) at c.if-c-gt0.false in
    rw test (rw (to_z-of_z c.ranges.lower, to_z-of_z c.ranges.c, to_z-of_z fits) at c.push_condition-2.ensures)
