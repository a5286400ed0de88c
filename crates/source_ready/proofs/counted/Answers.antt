-- `source_ready::counted` meets its contract. Assumes nothing.
use mathlib.Core.Path.{refl}
use borrow.Author.Tests.{eq-eqb, ne_eqb}
use Rattle.source_ready.proofs.counted.Goals as goal

pub returns-then-kind-eq-LINEAR : goal.returns-then-kind-eq-LINEAR
returns-then-kind-eq-LINEAR c = rw (eq-eqb c.args.kind 1 c.if-kind-eq-LINEAR.true) c.min.ensures

pub returns : goal.returns
returns c = rw (ne_eqb c.args.kind 1 c.if-kind-eq-LINEAR.false) refl
