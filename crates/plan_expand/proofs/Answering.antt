-- What expanding answers: the plan judged and priced from the task's start, then its expansion written.
-- Assumes nothing.
use mathlib.Core.Path.{◌≡◌, refl, sym, ap, ◌∙◌, subst}
use Prim.Native.Nat.{ℕ, ◌*◌}
use native.Mathlib.Omega.{arith}
use mathlib.Core.Bool.{Bool, true, false, cond}
use mathlib.Core.List.{List}
use lib.Dec.{ltb}
use lib.ListN.{length}
use lib.IntN.{ℤ}
use Rattle.answers.specs.Answer.{Answer, given, refused, then}
use Rattle.answers.specs.Refusals.{number_of}
use Rattle.answers.specs.Lent.{Lent}
use Rattle.std.specs.Prelude.{Result, Ok, Err}
use Rattle.answers.specs.declared.Refusal.{Refusal}
use Rattle.answers.specs.declared.Reason.TheVariants.{OverMillion}
use Rattle.answers.proofs.Lent.{refusal}
use Rattle.model.specs.Tasks.{SourceTask, State}
use Rattle.model.specs.Steps.{lower_bounds, upper_bounds, step_source}
use Rattle.model.specs.Stages.{opening}
use Rattle.model.specs.Systems.{expand_from}
use Rattle.model.specs.Expansion.{stage_steps_from, expand_task}
use Rattle.model.specs.Judging.{judge_source_task, price_task, expand_bytes}
use Rattle.model.specs.Plans.{plan_bytes_of, plan_numbers}
use Rattle.source_step.specs.Step.{state}
use Rattle.source_step.specs.Table.{Table, declared_by, goal_by}
use Rattle.source_walk.specs.declared.Task.{Task}
use Rattle.source_walk.specs.declared.Judged.{Judged}
use Rattle.source_walk.specs.Opening.{opened, table_of, Started}
use Rattle.source_walk.specs.Walk.{most, walk_from, Judging, judge_by, judged_is}
use Rattle.source_walk.proofs.Opening.{refused-both, goes_on_lem}
use Rattle.source_walk.proofs.Judging.{answer_with, went-through, judged-is, priced-is}
use Rattle.plan_expand.specs.Expanding.{length_of, expansion_by, Expandable, ExpandedTo}
use Rattle.plan_expand.proofs.Expanding.{walk-goes, walk-long, expansion-agrees}

-- what follows the readers
abbrev pub expansion_answer : SourceTask → List ℕ → Answer (List ℕ)
expansion_answer t p = then (judge_source_task t p) (λ v. then (price_task t true p) (λ c. given (plan_bytes_of (expand_task t p))))

-- how many bytes the expansion of a plan has by the rows of a task from a state on, or why there is none
module _ (T : Table) (p : List ℕ) (x : State) where
  abbrev pub length_by : Result ℕ Refusal
  length_by = let j = judge_by T true p x in length_of j.verdict j.price j.passing

pub length-judged : (T : Table) (p : List ℕ) (x : State) {j : Judged} {y : State} {w : Result ℕ Refusal} → w ≡ length_of j.verdict j.price j.passing
    → judged_is j y ≡ judge_by T true p x → w ≡ length_by T p x
length-judged T p x e f = e ∙ ap (λ (d : Judging). length_of d.verdict d.price d.passing) f

-- what is refused of the file or the plan's bytes
pub not-opened : (file plan : List ℕ) {old : List ℕ} {r : Refusal} → opened file plan ≡ refused (number_of r.reason) r.place
    → Lent old (expand_bytes file plan) old (Err r)
not-opened file plan {old} {r} e = refusal (refused-both expansion_answer file plan (number_of r.reason) r.place e)

module _ {file plan : List ℕ} {r : Task} {marks : List (List ℕ)} {numbers : List (List ℤ)} {values : List ℤ} {modes : List ℕ}
    (S : Started file plan r marks numbers values modes) where
  abbrev T : Table
  T = table_of r marks numbers

  abbrev p : List ℕ
  p = plan_numbers plan

  abbrev x : State
  x = state values modes

  abbrev J : Judging
  J = judge_by T true p x

  abbrev by_price : Bool → Result ℕ Refusal
  by_price over = cond over (Err (record { reason = OverMillion; place = J.passing })) (Ok (2 * J.price))

  goes : (n : ℕ) → J.verdict ≡ Ok n → (walk_from T true 0 0 0 p x).progress ≡ Ok tt
  goes n e = let w = walk_from T true 0 0 0 p x in went-through w.progress (goal_by T w.state) (length p) n e

  -- the bytes that are counted are those of the expansion
  pub expandable : {w : Result ℕ Refusal} → w ≡ length_by (table_of r marks numbers) (plan_numbers plan) (state values modes)
      → Expandable (table_of r marks numbers) (plan_numbers plan) (state values modes) w
  expandable e = subst (Expandable T p x) (sym e) (go J.verdict refl)
    where
      valid : (over : Bool) → (n : ℕ) → J.verdict ≡ Ok n → Expandable T p x (by_price over)
      valid true n q = tt
      valid false n q =
          let g = walk-goes T p 0 0 0 x (goes n q) in
          record { goes = g; long = λ openings. let l = walk-long T openings p 0 0 0 x g in omega (arith, l) }

      go : (v : Result ℕ Refusal) → J.verdict ≡ v → Expandable T p x (length_of v J.price J.passing)
      go (Ok n) q = valid (ltb most J.price) n q
      go (Err r) q = tt

  -- and what is written is what the definition gives
  pub answers : {w : Result ℕ Refusal} → w ≡ length_by (table_of r marks numbers) (plan_numbers plan) (state values modes)
      → {old after : List ℕ} {a : Result ℕ Refusal}
      → ExpandedTo (table_of r marks numbers) (plan_numbers plan) (state values modes) w old after a
      → Lent old (expand_bytes file plan) after a
  answers {w} e {old} {after} {a} E =
      subst (λ (z : Answer (List ℕ)). Lent old z after a) (sym (goes_on_lem expansion_answer file plan S.task S.reads S.plan_is.plan_read))
      (go J.verdict refl (subst (λ (u : Result ℕ Refusal). ExpandedTo T p x u old after a) e E))
    where
      judged : (v : Result ℕ Refusal) → J.verdict ≡ v → judge_source_task S.task p ≡ answer_with v (declared_by T J.state)
      judged v q = judged-is S true ∙ ap (λ (u : Result ℕ Refusal). answer_with u (declared_by T J.state)) q

      valid : (n : ℕ) → J.verdict ≡ Ok n → (over : Bool) → ltb most J.price ≡ over → ExpandedTo T p x (by_price over) old after a
          → Lent old (expansion_answer S.task p) after a
      valid n q true f (s, o) = rw (s, o) (refusal (rw (judged (Ok n) q, priced-is S n q true, f) refl))
      valid n q false f z =
          let g = walk-goes T p 0 0 0 x (goes n q) in
          let t = S.task in
          let opens = opening (lower_bounds t) (upper_bounds t) t.actions in
          let behind = stage_steps_from (lower_bounds t) (upper_bounds t) t.actions in
          let is : expand_task t p ≡ expansion_by T z.openings p x =
          ap (expand_from (step_source t) opens behind p) (sym S.start) ∙ expansion-agrees S.rows z.openings z.opens p x S.inside g in
          let answer : expansion_answer t p ≡ given (plan_bytes_of (expansion_by T z.openings p x)) =
          rw (judged (Ok n) q, priced-is S n q true, f) (ap (λ (l : List ℕ). given (plan_bytes_of l)) is) in
          subst (λ (u : Answer (List ℕ)). Lent old u after a) (sym answer) z.lent

      go : (v : Result ℕ Refusal) → J.verdict ≡ v → ExpandedTo T p x (length_of v J.price J.passing) old after a
          → Lent old (expansion_answer S.task p) after a
      go (Ok n) q z = valid n q (ltb most J.price) refl z
      go (Err r) q (s, o) = rw (s, o) (refusal (rw (judged (Err r) q) refl))
