-- `restricted_step::set_all` meets its contract: the mode effects not yet made, from the modes so far, give what all of them give from the
-- modes before. Assumes nothing.
use Rattle.model.specs.Steps.{natural_at}
use Rattle.restricted_step.proofs.Effects.{put_mode}
use Rattle.file_parts.specs.Layout.{mode_effect_count}
use Rattle.file_parts.specs.Row.{mode_effect_in}
use Rattle.restricted_step.proofs.Loops.{Changing}
use Rattle.restricted_step.proofs.set_all.Given as goal

abbrev pub invariant-loop-i : goal.invariant-loop-i
invariant-loop-i l = Changing put_mode (natural_at l.marks mode_effect_count) (mode_effect_in l.marks) l.count l.i l.initial.modes l.modes
