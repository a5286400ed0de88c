-- `lowering_file::put_modes` meets its contract: its parts are written one after another. Assumes nothing.
use Rattle.lowering_file.specs.Parts.{modes_in}
use Rattle.lists.proofs.Writing.{step, done, room}
use Rattle.lowering_file.proofs.File.{modes-begun}
use Rattle.lowering_file.proofs.put_modes.Goals as goal

pub put_declared_modes-last-requires : goal.put_declared_modes-last-requires
put_declared_modes-last-requires c = record { n_bound = c.requires.n_bound; room = room c.requires.room (modes-begun _ _ (modes_in c.args.n c.args.sizes.now c.args.values.now) (c.args.control, 0)) }

pub put_mode-requires : goal.put_mode-requires
put_mode-requires c = room c.requires.room (step (modes-begun _ _ (modes_in c.args.n c.args.sizes.now c.args.values.now) (c.args.control, 0)) c.put_declared_modes-last.ensures)

pub returns : goal.returns
returns c = done (step (step (modes-begun _ _ (modes_in c.args.n c.args.sizes.now c.args.values.now) (c.args.control, 0)) c.put_declared_modes-last.ensures) c.put_mode.ensures)
