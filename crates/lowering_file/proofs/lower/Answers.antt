-- `lowering_file::lower` meets its contract: a file is refused, or its task is lowered. Assumes nothing.
use mathlib.Core.Path.{refl, subst}
use Rattle.std.proofs.lemmas.Result.{err_from_is_err_and}
use Rattle.answers.proofs.Lent.{refusal}
use Rattle.model.specs.Reading.{Verdict}
use Rattle.source_step.specs.Accepted.{AcceptedWith}
use Rattle.lowering_file.proofs.File.{refused-lowers}
use Rattle.lowering_file.proofs.lower.Goals as goal

pub lower_accepted-requires : goal.lower_accepted-requires
lower_accepted-requires c = subst (λ (w : Verdict). AcceptedWith w c.in_ok-accepted.accepted.actions) c.in_ok-accepted.ensures refl

pub returns-in_err-accepted : goal.returns-in_err-accepted
returns-in_err-accepted c =
    let p = err_from_is_err_and c.from_residual.result c.from_residual.ensures.1 in
    rw (p.1, p.2) (refusal (refused-lowers c.args.file.now _ _ c.in_err-accepted.ensures))
