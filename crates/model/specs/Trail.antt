-- The commands of an accepted file: each may stand where it stands and is taken, in the state that the one before left; at the end stands Z.
-- Assumes nothing.
use Rattle.std.specs.Prelude.{◌≡◌, true, List, [], ◌∷◌}
use Rattle.commands.specs.Encoding.{byte_of}
use Rattle.commands.specs.declared.Command.{Command}
use Rattle.commands.specs.declared.Command.TheVariants.{End}
use Rattle.model.specs.Limits.{Limits}
use Rattle.model.specs.ReadingState.{in_goal, ReadingState, Going, finish}
use Rattle.model.specs.Rules.{allowed, rule_of}

abbrev pub Trail : Limits → ReadingState → List Command → Type 0
Trail l p [] = (p.section ≡ in_goal) × (rule_of l p End ≡ finish p)
Trail l p (c ∷ cs) = (allowed l p (byte_of c) ≡ true) × ((rule_of l p c).progress ≡ Going) × Trail l (rule_of l p c).state cs

-- the state in which Z is met
abbrev pub end_state : Limits → ReadingState → List Command → ReadingState
end_state l p [] = p
end_state l p (c ∷ cs) = end_state l (rule_of l p c).state cs
