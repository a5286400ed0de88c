-- `lowering_stages::several_count` meets its contract: the loop counts the stages of each effect. Assumes nothing.
use Rattle.file_actions.specs.Views.{effects_is}
use Rattle.lowering_stages.proofs.Holds.{Counting}
use Rattle.lowering_stages.proofs.several_count.Given as goal

abbrev pub invariant-loop-e : goal.invariant-loop-e
invariant-loop-e l = Counting (effects_is l.effects) l.e l.total
