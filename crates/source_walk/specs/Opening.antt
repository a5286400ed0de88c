-- A file and a plan, both read, and the task made ready for its steps.
-- Assumes nothing.
use Rattle.std.specs.Prelude.{◌≡◌, ℕ, ◌≤◌, List, length, replicate, ℤ, pos, Result, Ok, Err}
use Rattle.answers.specs.Answer.{Answer, given, then}
use Rattle.model.specs.Tasks.{SourceTask}
use Rattle.model.specs.Steps.{source_start}
use Rattle.model.specs.Decoding.{read_source}
use Rattle.model.specs.Plans.{read_plan, plan_numbers}
use Rattle.source_step.specs.Sizes.{VARIABLES, MODES}
use Rattle.source_step.specs.Step.{state, Kept}
use Rattle.source_step.specs.Table.{Table, table, declared_by, RowsOf, Inside}
use Rattle.source_walk.specs.declared.Task.{Task}
use Rattle.answers.specs.Refusals.{refusal_is}
use Rattle.answers.specs.declared.Refusal.{Refusal}

-- what the two readers find: the file's refusals come first, then that of the plan's bytes
abbrev pub opened : List ℕ → List ℕ → Answer (SourceTask × List ℕ)
opened file plan = then (read_source file) (λ t. then (read_plan plan) (λ p. given (t, p)))

-- the bytes of a plan of so many steps
pub record PlanOf (plan : List ℕ) (steps : ℕ) : Type 0 where
  pub plan_read : read_plan plan ≡ given (plan_numbers plan)
  pub steps_are : steps ≡ length (plan_numbers plan)
  pub few : steps ≤ 1_000_000

abbrev pub table_of : Task → List (List ℕ) → List (List ℤ) → Table
table_of r marks numbers = table r.actions marks numbers r.variables r.modes

-- both were read; the rows are those of the file's task, and the state is its start in front of zeros
pub record Started (file plan : List ℕ) (r : Task) (marks : List (List ℕ)) (numbers : List (List ℤ)) (values : List ℤ) (modes : List ℕ) : Type 0 where
  pub task : SourceTask
  pub reads : read_source file ≡ given task
  pub plan_is : PlanOf plan r.steps
  pub rows : RowsOf task (table_of r marks numbers)
  pub inside : Inside rows (state values modes)
  pub start : declared_by (table_of r marks numbers) (state values modes) ≡ source_start task
  pub kept : Kept r.variables r.modes (replicate VARIABLES (pos 0)) (replicate MODES 0) values modes

-- the arrays before and after
abbrev pub OpenedTo : List ℕ → List ℕ → List (List ℕ) → List (List ℤ) → List ℤ → List ℕ → Result Task Refusal → List (List ℕ) → List (List ℤ)
    → List ℤ → List ℕ → Type 0
OpenedTo file plan marks₀ numbers₀ values₀ modes₀ (Ok r) marks numbers values modes = Started file plan r marks numbers values modes
OpenedTo file plan marks₀ numbers₀ values₀ modes₀ (Err r) marks numbers values modes =
    (opened file plan ≡ refusal_is r) × (marks ≡ marks₀) × (numbers ≡ numbers₀) × (values ≡ values₀) × (modes ≡ modes₀)
