-- The source numbers that a plan projects to, written into lent output.
-- Assumes nothing.
use Rattle.std.specs.Prelude.{◌≡◌, ℕ, ◌≤◌, List, length, Result, Ok, Err}
use Rattle.answers.specs.Answer.{Answer, given, then}
use Rattle.answers.specs.Refusals.{refusal_is}
use Rattle.answers.specs.declared.Refusal.{Refusal}
use Rattle.answers.specs.Lent.{Lent}
use Rattle.model.specs.Systems.{keep}
use Rattle.model.specs.Tasks.{SourceTask, State}
use Rattle.model.specs.Steps.{source_start}
use Rattle.model.specs.Plans.{plan_bytes_of}
use Rattle.model.specs.Following.{project_from}
use Rattle.source_step.specs.Table.{Table, declared_by, RowsOf, Inside}
use Rattle.plan_project.specs.Sources.{source_in, OpenedBy}
use Rattle.plan_project.specs.Following.{project_by, found_in, Notes}

-- an answer's numbers as bytes
abbrev pub as_bytes : Answer (List ℕ) → Answer (List ℕ)
as_bytes a = then a (λ p. given (plan_bytes_of p))

-- what a plan comes to that was followed to the goal
abbrev pub reached_to : Result ℕ Refusal → List ℕ → Answer (List ℕ)
reached_to (Ok found) kept = given kept
reached_to (Err r) kept = refusal_is r

module _ (T : Table) (total : ℕ) (sources q : List ℕ) (x : State) where
  -- what the plan projects to from this state on
  abbrev pub projected : (ℕ → ℕ) → Answer (List ℕ)
  projected opening = project_by T total sources opening (length q) 0 q x

  -- the plan was followed to the goal: the source numbers found, or a refusal
  pub record Reached (r : Result ℕ Refusal) (noted : List ℕ) : Type 0 where
    pub kept : List ℕ
    pub notes : Notes noted kept
    pub counted : found_in r (length kept) ≡ length kept
    pub few : length kept ≤ length q
    pub meets : (opening : ℕ → ℕ) → OpenedBy opening sources → projected opening ≡ reached_to r kept

  -- what the plan projects to, if to anything, is what the table tells of its numbers
  pub record Kept : Type 0 where
    pub opening : ℕ → ℕ
    pub opens : OpenedBy opening sources
    pub keeps : (p : List ℕ) → projected opening ≡ given p → p ≡ keep (source_in sources) q

  -- the plan was projected into lent output
  pub record Projected (old after : List ℕ) (r : Result ℕ Refusal) : Type 0 where
    pub meets : (opening : ℕ → ℕ) → OpenedBy opening sources → Lent old (as_bytes (projected opening)) after r

-- ---- the rows are those of a task, and the state its start
pub record Posed (T : Table) (x : State) : Type 0 where
  pub task : SourceTask
  pub rows : RowsOf task T
  pub inside : Inside rows x
  pub start : declared_by T x ≡ source_start task

-- the plan was projected by that task
pub record TaskProjected (T : Table) (x : State) (q old after : List ℕ) (r : Result ℕ Refusal) : Type 0 where
  pub meets : (P : Posed T x) → Lent old (as_bytes (project_from P.task (length q) 0 q (source_start P.task))) after r
