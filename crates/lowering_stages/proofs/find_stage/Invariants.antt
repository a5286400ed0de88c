-- `lowering_stages::find_stage` meets its contract: the loop goes from effect to effect until the stage stands in its stages. Assumes nothing.
use Rattle.file_actions.specs.Views.{effects_is}
use Rattle.lowering_stages.proofs.Holds.{Searching}
use Rattle.lowering_stages.proofs.find_stage.Given as goal

abbrev pub invariant-loop-e : goal.invariant-loop-e
invariant-loop-e l = Searching (effects_is l.effects) l.j l.e l.left
