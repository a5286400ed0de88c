-- `plan_project::past_macro` meets its contract: the plan has all numbers of the step, or goes astray. Assumes nothing.
use mathlib.Core.Path.{refl}
use native.Mathlib.Omega.{arith}
use Rattle.model.specs.Plans.{plan_numbers}
use Rattle.plan_project.proofs.Advancing.{whole, part}
use Rattle.plan_project.proofs.past_macro.Goals as goal

pub returns-then-matched-size : goal.returns-then-matched-size
returns-then-matched-size c = record {
  answers = whole c.args.total c.args.at c.args.matched c.args.size (plan_numbers c.args.plan.now) c.if-matched-size.true;
  further = (refl, omega (arith, c.if-matched-size.true, c.requires), omega (arith, c.requires));
}

pub returns : goal.returns
returns c = record {
  answers = part c.args.total c.args.at c.args.matched c.args.size (plan_numbers c.args.plan.now) c.if-matched-size.false
      c.astray.result c.astray.ensures;
  further = tt;
}
