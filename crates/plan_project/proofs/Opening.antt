-- What projecting answers from a file and a plan that are opened: their refusal, or what the file's task gives.
-- Assumes nothing.
use mathlib.Core.Path.{◌≡◌, ◌∙◌}
use Prim.Native.Nat.{ℕ}
use mathlib.Core.List.{List}
use lib.ListN.{length}
use lib.IntN.{ℤ}
use Rattle.answers.specs.Answer.{Answer, refused}
use Rattle.std.specs.Prelude.{Result, Err}
use Rattle.answers.specs.Refusals.{number_of}
use Rattle.answers.specs.declared.Refusal.{Refusal}
use Rattle.answers.specs.Lent.{Lent}
use Rattle.answers.proofs.Lent.{refusal}
use Rattle.model.specs.Tasks.{SourceTask}
use Rattle.model.specs.Steps.{source_start}
use Rattle.model.specs.Plans.{plan_numbers}
use Rattle.model.specs.Judging.{project_bytes}
use Rattle.model.specs.Following.{project_from}
use Rattle.model.proofs.Following.{projecting-follows}
use Rattle.source_step.specs.Step.{state}
use Rattle.source_walk.specs.declared.Task.{Task}
use Rattle.source_walk.specs.Opening.{opened, table_of, Started}
use Rattle.source_walk.proofs.Opening.{refused-both, goes_on_lem}
use Rattle.plan_project.specs.Projecting.{as_bytes, Posed, TaskProjected}

abbrev projection : SourceTask → List ℕ → Answer (List ℕ)
projection t q = as_bytes (project_from t (length q) 0 q (source_start t))

pub refused-so : (file plan : List ℕ) {old : List ℕ} {r : Refusal} → opened file plan ≡ refused (number_of r.reason) r.place
    → Lent old (project_bytes file plan) old (Err r)
refused-so file plan {old} {r} e = refusal (projecting-follows file plan ∙ refused-both projection file plan (number_of r.reason) r.place e)

module _ {file plan : List ℕ} {r : Task} {marks : List (List ℕ)} {numbers : List (List ℤ)} {values : List ℤ} {modes : List ℕ}
    (S : Started file plan r marks numbers values modes) where
  pub posed : Posed (table_of r marks numbers) (state values modes)
  posed = record { task = S.task; rows = S.rows; inside = S.inside; start = S.start }

  pub task-projected : {old after : List ℕ} {w : Result ℕ Refusal}
      → TaskProjected (table_of r marks numbers) (state values modes) (plan_numbers plan) old after w
      → Lent old (project_bytes file plan) after w
  unfolding posed
  task-projected {old} {after} {w} P =
      rw (projecting-follows file plan ∙ goes_on_lem projection file plan S.task S.reads S.plan_is.plan_read) (P.meets posed)
