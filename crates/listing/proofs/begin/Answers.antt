-- `listing::begin` meets its contract: a refusal of the file or of the plan's bytes, or what judging the plan leaves. Assumes nothing.
use mathlib.Core.Path.{◌≡◌}
use native.Mathlib.Omega.{arith}
use Rattle.answers.specs.Answer.{refused}
use Rattle.source_step.proofs.Tables.{usables}
use Rattle.source_walk.specs.Opening.{opened}
use Rattle.listing.proofs.Listing.{not-opened, begun}
use Rattle.listing.proofs.begin.Goals as goal

pub open-requires : goal.open-requires
open-requires c = c.requires

pub judge-requires : goal.judge-requires
judge-requires c =
    let S = c.in-Ok.ensures in (usables S.rows, S.plan_is.steps_are, S.plan_is.few, S.inside.shaped.modes_long)

pub returns-in-Err : goal.returns-in-Err
returns-in-Err c =
    let fits = rw c.in-Err.is at c.«open».type_inv in
    let file = c.args.file.now in
    let plan = c.args.plan.now in
    let told : opened file plan ≡ refused c.number.result c.in-Err.refusal.place = rw c.number.ensures c.in-Err.ensures.0 in
    not-opened file plan c.number.result c.in-Err.refusal.place (omega arith) (omega (arith, fits)) told

pub returns-in-Ok : goal.returns-in-Ok
returns-in-Ok c = begun c.in-Ok.ensures c.judge.ensures (λ number place e. omega (arith, rw e at c.judge.type_inv))
