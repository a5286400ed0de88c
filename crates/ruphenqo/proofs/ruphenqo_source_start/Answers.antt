-- `ruphenqo::ruphenqo_source_start` meets its contract: what is read of an accepted file stands in front of zeros. Assumes nothing.
use Rattle.ruphenqo.proofs.Starting.{source-start-refused, source-started, source-laid}
use Rattle.ruphenqo.proofs.Telling.{told-err, told-ok}
use Rattle.ruphenqo.proofs.ruphenqo_source_start.Goals as goal

pub returns-in-Err : goal.returns-in-Err
returns-in-Err c =
    let t = c.tell.ensures in
    told-err t.code t.place c.in-Err.is (source-start-refused c.args.task.now (rw c.in-Err.is at c.check_source-checked.ensures))

pub returns-in-Ok : goal.returns-in-Ok
returns-in-Ok c =
    let file = c.args.task.now in
    let t = c.tell-in-Ok.ensures in
    let e = rw c.in-Ok.is at c.check_source-checked.ensures in
    told-ok t.code t.place c.in-Ok.is (source-started file e) (source-laid file e c.read_source.ensures)
