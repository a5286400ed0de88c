-- What a file and a plan that are opened come to: a refusal is that of every call which reads both, and what is ready was read.
-- Assumes nothing.
use mathlib.Core.Path.{◌≡◌, refl, ap, ap₂, ◌∙◌}
use Prim.Native.Nat.{ℕ}
use mathlib.Core.List.{List}
use lib.ListN.{replicate}
use lib.IntN.{ℤ, pos}
use Rattle.answers.specs.Answer.{Answer, given, refused, then}
use Rattle.model.specs.Tasks.{SourceTask}
use Rattle.model.specs.Limits.{source_limits}
use Rattle.model.specs.Reading.{Accepted, Rejected, verdict_of}
use Rattle.model.specs.Decoding.{read_source}
use Rattle.model.specs.Plans.{read_plan, plan_numbers}
use Rattle.file_declarations.specs.declared.Declared.{Declared}
use Rattle.file_declarations.specs.Holding.{HoldsSource}
use Rattle.plan_bytes.specs.Counted.{count_of}
use Rattle.plan_bytes.proofs.Steps.{steps_of, few-steps, no_steps}
use Rattle.source_step.specs.Step.{Kept}
use Rattle.source_step.specs.Accepted.{AcceptedWith}
use Rattle.source_step.proofs.Judging.{task-of, accepted-task}
use Rattle.source_step.specs.Ready.{Prepared}
use Rattle.source_step.proofs.Start.{start-shaped, prepared-starts}
use Rattle.source_walk.specs.Opening.{opened, PlanOf, Started}

-- a call that reads the file, then the plan, and goes on with both
pub reads_both : {A : Type 0} (go_on : SourceTask → List ℕ → Answer A) (file plan : List ℕ)
    → then (read_source file) (λ t. then (read_plan plan) (go_on t)) ≡ then {A = SourceTask × List ℕ} (opened file plan) (λ b. go_on b.0 b.1)
reads_both go_on file plan = go (read_source file) (read_plan plan)
  where
    go : (a : Answer SourceTask) (b : Answer (List ℕ))
        → then a (λ t. then b (go_on t)) ≡ then {A = SourceTask × List ℕ} (then a (λ t. then b (λ p. given (t, p)))) (λ c. go_on c.0 c.1)
    go (given t) (given p) = refl
    go (given t) (refused n p) = refl
    go (refused n p) b = refl

pub refused-both : {A : Type 0} (go_on : SourceTask → List ℕ → Answer A) (file plan : List ℕ) (number place : ℕ) → opened file plan ≡ refused number place
    → then (read_source file) (λ t. then (read_plan plan) (go_on t)) ≡ refused number place
refused-both go_on file plan number place e =
    reads_both go_on file plan ∙ ap (λ (a : Answer (SourceTask × List ℕ)). then {A = SourceTask × List ℕ} a (λ b. go_on b.0 b.1)) e

pub goes_on_lem : {A : Type 0} (go_on : SourceTask → List ℕ → Answer A) (file plan : List ℕ) (t : SourceTask) → read_source file ≡ given t
    → read_plan plan ≡ given (plan_numbers plan)
    → then (read_source file) (λ t. then (read_plan plan) (go_on t)) ≡ go_on t (plan_numbers plan)
goes_on_lem go_on file plan t e f = ap₂ (λ (a : Answer SourceTask) (b : Answer (List ℕ)). then a (λ t. then b (go_on t))) e f

-- ---- what is refused
pub file-refused : (file plan : List ℕ) (number place : ℕ) → Rejected number place ≡ verdict_of source_limits file → opened file plan ≡ refused number place
file-refused file plan number place e = rw (← e) refl

pub plan-refused : (file plan : List ℕ) (v m a : ℕ) → Accepted v m a ≡ verdict_of source_limits file → (number place : ℕ)
    → refused number place ≡ count_of plan → opened file plan ≡ refused number place
plan-refused file plan v m a e number place f = rw (← e, no_steps plan number place f) refl

pub accepted-with : (file : List ℕ) (v m a : ℕ) → Accepted v m a ≡ verdict_of source_limits file → AcceptedWith (verdict_of source_limits file) a
accepted-with file v m a e = rw (← e) refl

pub plan-of : (plan : List ℕ) (steps : ℕ) → given steps ≡ count_of plan → PlanOf plan steps
plan-of plan steps e = record { plan_read = (steps_of plan steps e).0; steps_are = (steps_of plan steps e).1; few = few-steps plan steps e }

-- ---- what is ready
pub started : {file plan : List ℕ} {count steps : ℕ} {d : Declared} {lower upper values : List ℤ} {sizes modes : List ℕ}
    {marks : List (List ℕ)} {numbers : List (List ℤ)} → AcceptedWith (verdict_of source_limits file) count → PlanOf plan steps
    → ((t : SourceTask) → read_source file ≡ given t → HoldsSource t d lower upper values sizes modes)
    → Prepared file count d.variables lower upper d.modes sizes marks numbers
    → Kept d.variables d.modes (replicate 8 (pos 0)) (replicate 4 0) values modes
    → Started file plan (record { actions = count; variables = d.variables; modes = d.modes; steps = steps }) marks numbers values modes
started {file} {plan} {count} {steps} {d} {lower} {upper} {values} {sizes} {modes} a p h P k =
    let t = task-of file count in
    let e = accepted-task file count a in
    let H = h t e in
    record {
      task = t;
      reads = e;
      plan_is = p;
      rows = record {
        lower = lower;
        upper = upper;
        sizes = sizes;
        ready = P.ready t e;
        variables_few = H.variables_few;
        modes_few = H.modes_few;
        sizes_long = H.room.sizes_long;
      };
      inside = record { shaped = start-shaped H; sound = (prepared-starts H e P).sound };
      start = H.start_is;
      kept = k;
    }
