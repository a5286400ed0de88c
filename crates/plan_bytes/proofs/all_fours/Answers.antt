-- `plan_bytes::all_fours` meets its contract. Assumes nothing.
use mathlib.Core.Path.{sym, ◌∙◌}
use native.Mathlib.Omega.{arith}
use borrow.Author.Count.{below_more}
use Rattle.plan_bytes.proofs.Agreeing.{same_fours}
use Rattle.plan_bytes.proofs.all_fours.Goals as goal

pub loop-j-init : goal.loop-j-init
loop-j-init g c = record { each = λ j h. absurd (omega arith) }

pub loop-j-preserved : goal.loop-j-preserved
loop-j-preserved g c =
    record { each = below_more _ c.loop-j.j c.loop-j.invariant.each (sym c.four_at.ensures ∙ c.if-four_at-four.false) }

pub returns : goal.returns
returns g c t = same_fours (omega (arith, c.loop-j.auto)) c.loop-j.invariant
