-- `file_check::check` meets its contract: each way out is one law of `Runs`.
-- Assumes nothing.
use mathlib.Core.Path.{ap, subst⁻¹, ◌∙◌}
use Rattle.std.specs.Prelude.{Ok}
use Rattle.model.specs.ReadingState.{ReadingState}
use Rattle.file_check.specs.Views.{limits_of, progress_of}
use Rattle.file_check.proofs.Runs.{Runs, runs-begin, runs-out, tail, runs-next, runs-ended, runs-stopped}
use Rattle.file_check.proofs.check.Goals as goal

pub loop-at-init : goal.loop-at-init
loop-at-init c =
    subst⁻¹ (λ (p : ReadingState). Runs (limits_of c.args.l.now) c.args.file.now p 0) c.begun-reading.ensures
    (runs-begin (limits_of c.args.l.now) c.args.file.now)

pub loop-at-preserved : goal.loop-at-preserved
loop-at-preserved c =
    runs-next _ _ _ _ c.loop-at-test.true (tail c.args.file.now c.loop-at.at) c.take.ensures c.size_of-at.result c.size_of-at.ensures.0
    c.size_of-at.ensures.1 (ap progress_of (c.in-Ok-Going.is ∙ ap Ok c.in-Ok-Going.field-0-is)) c.loop-at.invariant

pub returns-in-Err : goal.returns-in-Err
returns-in-Err c =
    c.refused_at.ensures
    ∙ runs-stopped _ _ _ _ c.loop-at-test.true (tail c.args.file.now c.loop-at.at) c.take.ensures _ (ap progress_of c.in-Err.is) c.loop-at.invariant

pub returns-in-Ok-Ended : goal.returns-in-Ok-Ended
returns-in-Ok-Ended c =
    c.ended_at.ensures
    ∙ runs-ended _ _ _ _ c.loop-at-test.true (tail c.args.file.now c.loop-at.at) c.take.ensures
    (ap progress_of (c.in-Ok-Ended.is ∙ ap Ok c.in-Ok-Ended.field-0-is)) c.loop-at.invariant

pub returns : goal.returns
returns c = c.refused_at-2.ensures ∙ runs-out _ _ _ _ c.loop-at-test.false c.loop-at.invariant
