-- `file_actions::action_places` meets its contract: storing what is left behind what is stored gives what storing all gives. Assumes nothing.
use mathlib.Core.Path.{◌∙◌, sym, ap}
use native.Mathlib.Omega.{arith}
use Rattle.lists.specs.Writing.{splice}
use Rattle.file_actions.proofs.Edges.{stores-begin, stores-action, stores-other, splice-out, none_left, at-goal}
use Rattle.file_actions.proofs.action_places.Goals as goal
use Rattle.file_actions.proofs.action_places.Goals.{in-65, in_default}

pub loop-at-init : goal.loop-at-init
loop-at-init c = stores-begin _ _

pub returns-then-n-places : goal.returns-then-n-places
returns-then-n-places c =
    let s = c.loop-at.invariant in
    sym (splice-out s.left c.loop-at.places c.loop-at.n (omega (arith, c.if-n-places.true))) ∙ s.same

pub loop-at-preserved : goal.loop-at-preserved
loop-at-preserved c =
    let size = c.size_of-at.ensures in
    elim c.match-byte.branch [
      | in-65 w ↦ rw (w.places-is, w.n-is) (stores-action c.loop-at.invariant c.loop-at-test.true size.0 size.1 w.in-65.is c.if-n-places.false)
      | in_default w ↦ rw (w.places-is, w.n-is) (stores-other c.loop-at.invariant c.loop-at-test.true size.0 size.1 (λ e. omega arith) (λ e. omega arith))
    ]

pub returns-in-71 : goal.returns-in-71
returns-in-71 c =
    let s = c.loop-at.invariant in
    ap (splice c.loop-at.places c.loop-at.n) (sym (at-goal _ c.loop-at.at s.left c.loop-at-test.true c.in-71.is s.there)) ∙ s.same

pub returns-after-loop-at : goal.returns-after-loop-at
returns-after-loop-at c =
    let s = c.loop-at.invariant in
    ap (splice c.loop-at.places c.loop-at.n) (sym (none_left _ c.loop-at.at s.left c.loop-at-test.false s.there)) ∙ s.same
