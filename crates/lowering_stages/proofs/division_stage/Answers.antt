-- `lowering_stages::division_stage` meets its contract: one arm a stage, and Drain and Refill in front. Assumes nothing.
use mathlib.Core.Path.{sym, ◌∙◌}
use native.Mathlib.Omega.{arith}
use lib.IntN.{pos}
use mir.Facts.{to_z-of_z}
use Rattle.model.specs.Stages.{drain, refill, divide, empty}
use Rattle.lowering_stages.proofs.Rows.{given}
use Rattle.lowering_stages.proofs.Effects.{first_two}
use Rattle.lowering_stages.proofs.division_stage.Goals as goal

pub returns-in-2 : goal.returns-in-2
returns-in-2 c name p = rw c.in-2.is (given (rw (to_z-of_z c.ranges.c) at c.divide_of.ensures))

pub returns-in-3 : goal.returns-in-3
returns-in-3 c name p = rw c.in-3.is (given (c.empty_of.ensures _ name p))

pub returns-in_default : goal.returns-in_default
returns-in_default c name p d e =
    let s = c.args in
    c.term_stage.ensures d
    (sym (first_two (drain s.y (pos 1)) (refill s.y) (divide s.c) (empty name) s.j (λ q. omega arith) (λ q. omega arith)) ∙ e)
