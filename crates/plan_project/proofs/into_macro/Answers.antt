-- `plan_project::into_macro` meets its contract: the plan goes astray, at the latest at the step's last number. Assumes nothing.
use mathlib.Core.Path.{sym, ap, ◌∙◌}
use Prim.Native.Nat.{ℕ, ◌+◌}
use Rattle.model.specs.Plans.{plan_numbers}
use Rattle.plan_project.specs.Following.{strayed_at}
use Rattle.plan_project.proofs.into_macro.Goals as goal

pub returns : goal.returns
returns c =
    let strayed_after = λ (d : ℕ). strayed_at c.args.total (plan_numbers c.args.plan.now) (c.args.at + d) in
    record { answers = λ onward. sym c.astray.ensures ∙ ap strayed_after c.min.ensures; further = tt }
