-- `plan_project::project_ready` meets its contract: the tables are those of the task's lowering, from whose start the plan is projected.
-- Assumes nothing.
use mathlib.Core.Path.{refl}
use native.Mathlib.Omega.{arith}
use Rattle.model.specs.Plans.{plan_numbers}
use Rattle.source_step.proofs.Tables.{usables}
use Rattle.plan_project.proofs.Agreeing.{openable, below, kept, projected-so}
use borrow.Author.Rules.{rules}
use Rattle.plan_project.proofs.project_ready.Goals as goal

pub openings_of-openings-requires : goal.openings_of-openings-requires
openings_of-openings-requires c = let u = usables c.requires.posed.rows in (u.actions_few, omega (arith, u.actions_few, u.marks_long))

pub offset_bounds-openings-count : goal.offset_bounds-openings-count
offset_bounds-openings-count c = let h = (usables c.requires.posed.rows).actions_few in search (rules, arith)

pub bounds-openings-count : goal.bounds-openings-count
bounds-openings-count c = let h = (usables c.requires.posed.rows).actions_few in search (rules, arith)

pub put_openers-requires : goal.put_openers-requires
put_openers-requires c = (refl, openable c.openings_of-openings.ensures (usables c.requires.posed.rows).actions_few)

pub project_rows-requires : goal.project_rows-requires
project_rows-requires c =
    let P = c.requires.posed in record {
      usables = (
        usables P.rows,
        below P.rows c.openings_of-openings.ensures c.put_openers.ensures refl,
        c.requires.steps_value.0,
        P.inside.shaped.modes_long,
      );
      kept = kept P.rows c.openings_of-openings.ensures c.put_openers.ensures refl P.inside P.start (plan_numbers c.args.plan.now)
          (omega (arith, c.requires.steps_value));
    }

pub returns : goal.returns
returns c =
    record {
      meets = λ P. projected-so P.rows c.openings_of-openings.ensures c.put_openers.ensures refl P.inside P.start
          (plan_numbers c.args.plan.now) c.project_rows.ensures;
    }
