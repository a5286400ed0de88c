-- `restricted_runs::keep_action` meets its contract: the tag says what the slot holds, before and after. Assumes nothing.
use Rattle.restricted_runs.proofs.Slots.{kept-already, decoded-action, kept_put}
use Rattle.restricted_runs.proofs.keep_action.Goals as goal

pub returns-then-tags-slot : goal.returns-then-tags-slot
returns-then-tags-slot c = kept-already c.requires.3 c.requires.2 c.requires.1 c.if-tags-slot.true

pub returns : goal.returns
returns c =
    let says = c.decode_restricted.ensures in
    kept_put c.args.k c.requires.3 c.requires.2 _ _ says.marks_long says.numbers_long
    (decoded-action c.args.k c.requires.0 c.requires.1 c.part-bytes.ensures says)
