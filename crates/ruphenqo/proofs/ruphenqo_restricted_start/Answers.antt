-- `ruphenqo::ruphenqo_restricted_start` meets its contract: what is read of an accepted file stands in front of zeros. Assumes nothing.
use Rattle.ruphenqo.proofs.Starting.{restricted-start-refused, restricted-started, restricted-laid}
use Rattle.ruphenqo.proofs.Telling.{told-err, told-ok}
use Rattle.ruphenqo.proofs.ruphenqo_restricted_start.Goals as goal

pub returns-in-Err : goal.returns-in-Err
returns-in-Err c =
    let t = c.tell.ensures in
    told-err t.code t.place c.in-Err.is (restricted-start-refused c.args.task.now (rw c.in-Err.is at c.check_restricted-checked.ensures))

pub returns-in-Ok : goal.returns-in-Ok
returns-in-Ok c =
    let file = c.args.task.now in
    let t = c.tell-in-Ok.ensures in
    let e = rw c.in-Ok.is at c.check_restricted-checked.ensures in
    told-ok t.code t.place c.in-Ok.is (restricted-started file e) (restricted-laid file e c.read_restricted.ensures)
