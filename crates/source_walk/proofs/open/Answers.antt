-- `source_walk::open` meets its contract: the file's refusals come first, then that of the plan's bytes; else the task is made ready. Assumes nothing.
use mathlib.Core.Path.{refl}
use Rattle.std.proofs.lemmas.Result.{err_from_is_err_and}
use Rattle.source_walk.proofs.Opening.{file-refused, plan-refused, accepted-with, plan-of}
use Rattle.source_walk.proofs.open.Goals as goal

pub make_ready-requires : goal.make_ready-requires
make_ready-requires c =
    record {
      accepted_with = (
        accepted-with c.args.file.now _ _ _ c.in_ok-accepted.ensures,
        plan-of c.args.plan.now _ c.in-Ok.ensures,
        c.requires.0,
        c.requires.1,
      );
      values_value = (c.requires.2, c.requires.3);
    }

pub returns-in_err-accepted : goal.returns-in_err-accepted
returns-in_err-accepted c =
    let p = err_from_is_err_and c.from_residual.result c.from_residual.ensures.1 in
    rw (p.1, p.2) (file-refused c.args.file.now c.args.plan.now _ _ c.in_err-accepted.ensures, refl, refl, refl, refl)

pub returns-in-Err : goal.returns-in-Err
returns-in-Err c =
    (plan-refused c.args.file.now c.args.plan.now _ _ _ c.in_ok-accepted.ensures _ _ c.in-Err.ensures, refl, refl, refl, refl)
