-- DEMAND 3: the valid plans of a source task T and of its lowering R, of at most 1,000,000 restricted steps, pair off one to one. One
-- statement about whole plans, in the names of the calls. `file` is T's file and `lowered` the file that the lowering writes for it.
-- Assumes nothing.
use Rattle.std.specs.Prelude.{◌≡◌, ℕ, ◌+◌, ◌≤◌, false, List, length, take}
use Rattle.std.proofs.Math.Option.{some}
use Rattle.integers.specs.Numbers.{Bytes}
use Rattle.answers.specs.Answer.{Answer, given, lent}
use Rattle.model.specs.Tasks.{SourceTask, RestrictedTask, State}
use Rattle.model.specs.Decoding.{read_source, read_restricted}
use Rattle.model.specs.Plans.{plan_numbers}
use Rattle.model.specs.Systems.{run_plan}
use Rattle.model.specs.Steps.{restricted_start, step_restricted}
use Rattle.model.specs.Stages.{hold_count}
use Rattle.model.specs.Sums.{sums_of_source}
use Rattle.model.specs.Lowering.{rest_state, SumsTrue}
use Rattle.model.specs.Expansion.{control_at_rest, expand_task, expand_by_following}
use Rattle.model.specs.Judging.{judge_source, judge_restricted, price_plan, expand_bytes, project_bytes}

-- The second call of a round trip, handed the bytes that the first wrote into any output that was long enough, answers and leaves any
-- output of its own as a call with the result `plan` does: it writes the bytes of `plan` and nothing else, or answers 8 and writes nothing.
abbrev pub RoundTrip : Answer (List ℕ) → (List ℕ → Answer (List ℕ)) → List ℕ → Type 0
RoundTrip first second plan =
    (old : List ℕ) (n : ℕ) (after : List ℕ) → lent old first ≡ (given n, after)
    → (out : List ℕ) → lent out (second (take n after)) ≡ lent out (given plan)

-- A PAIR: the bytes of a plan of T and of a plan of R, both valid
pub record Pair (t : SourceTask) (r : RestrictedTask) (file lowered plan restricted : List ℕ) : Type 0 where
  pub plan_is_bytes : Bytes plan
  pub restricted_is_bytes : Bytes restricted
  -- T's plan, of so many steps, ends in a state that has as many values and modes as T declares
  pub steps : ℕ
  pub end : State
  pub valid : judge_source file plan ≡ given (steps, end)
  pub end_values : length end.values ≡ length t.variables
  pub end_modes : length end.modes ≡ length t.modes
  -- R's plan ends in that state with the helpers behind it, at rest, and the sums, true; its count of steps is the sum of the step prices of
  -- T's plan
  pub valid_in_r : judge_restricted lowered restricted ≡ given (length (plan_numbers restricted), rest_state t end)
  pub price : price_plan file plan ≡ given (length (plan_numbers restricted))
  pub few : length (plan_numbers restricted) ≤ 1_000_000
  -- expanding and projecting are inverse, as round trips too
  pub expands : expand_bytes file plan ≡ given restricted
  pub projects : project_bytes file restricted ≡ given plan
  pub expanded_and_projected : RoundTrip (expand_bytes file plan) (project_bytes file) plan
  pub projected_and_expanded : RoundTrip (project_bytes file restricted) (expand_bytes file) restricted
  -- R's plan is what R's own steps force: from R's start the opening of each source step and then, while control is not 0, the one action
  -- that applies
  pub forced : plan_numbers restricted ≡ expand_by_following t r (plan_numbers plan)

pub record PlansPair (file lowered : List ℕ) : Type 0 where
  -- T and R: what the readers find in the two files. R has A, B, the holds and the kept sums behind T's variables, and control behind T's modes
  pub task : SourceTask
  pub reads : read_source file ≡ given task
  pub lowering : RestrictedTask
  pub reads_lowered : read_restricted lowered ≡ given lowering
  pub variables : length lowering.starts ≡ length task.variables + (2 + hold_count task.actions) + length (sums_of_source task)
  pub modes : length lowering.modes ≡ length task.modes + 1
  -- while control is not 0, no two actions of R apply, whatever the state
  pub one_applies : (x : State) → control_at_rest task x ≡ false → (j k : ℕ) (y z : State)
      → step_restricted lowering x j ≡ some y → step_restricted lowering x k ≡ some z → j ≡ k
  -- at every state that R reaches from its start, by a plan of any length, the kept values equal their sums
  pub sums_kept : (q : List ℕ) (x : State) → run_plan (step_restricted lowering) q (restricted_start lowering) ≡ some x → SumsTrue task x
  -- every valid source plan has a price: the length of its expansion, however long that is
  pub priced : (plan : List ℕ) (n : ℕ) (s : State) → judge_source file plan ≡ given (n, s)
      → price_plan file plan ≡ given (length (expand_task task (plan_numbers plan)))
  -- a valid source plan with an expansion of at most 1,000,000 steps is in a pair
  pub forth : (plan : List ℕ) → Bytes plan → (n : ℕ) (s : State) → judge_source file plan ≡ given (n, s)
      → length (expand_task task (plan_numbers plan)) ≤ 1_000_000
      → (restricted : List ℕ) × Pair task lowering file lowered plan restricted
  -- a valid restricted plan, whoever wrote it, is in a pair
  pub back : (restricted : List ℕ) → Bytes restricted → (c : ℕ) (x : State) → judge_restricted lowered restricted ≡ given (c, x)
      → (plan : List ℕ) × Pair task lowering file lowered plan restricted
