-- `source_ready::put_effects` meets its contract: each turn writes one effect more. Assumes nothing.
use mathlib.Core.List.{map}
use lib.ListN.{take}
use Rattle.file_actions.specs.Views.{numeric_is}
use Rattle.source_ready.proofs.Blocks.{SoFar}
use Rattle.source_ready.proofs.put_effects.Given as goal

abbrev pub invariant-loop-e : goal.invariant-loop-e
invariant-loop-e l = SoFar l.n l.lower l.upper (map numeric_is (take l.effects.count l.effects.places)) l.initial.marks l.initial.numbers l.marks l.numbers l.e
