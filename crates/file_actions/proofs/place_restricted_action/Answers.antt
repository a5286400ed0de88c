-- `file_actions::place_restricted_action` meets its contract: the place of the action by the file's verdict. Assumes nothing.
use Rattle.model.specs.ActionBytes.{action_place}
use Rattle.file_actions.proofs.place_restricted_action.Goals as goal

pub returns : goal.returns
unfolding action_place
returns c = rw (← c.check_restricted.ensures) c.place_action.ensures
